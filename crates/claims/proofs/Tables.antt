-- A table with one element changed, and one list mapped from another.
use mathlib.Core.Path.{◌≡◌, refl, sym, ap, ◌∙◌}
use mathlib.Core.Bool.{Bool, true, false}
use mathlib.Core.List.{List, ◌∷◌, map}
use Prim.Native.Nat.{ℕ, zero, suc, ◌+◌, ◌<◌}
use borrow.Author.Tests.{eqb-true, eqb-false}
use lib.Dec.{eqb}
use lib.ListN.{get_or, set, length-set}
use lib.Seq.{ext_get_or, get_or-set_same, get_or-set_other}
use Rattle.basis.specs.Tables.{tab, tab_from}
use Rattle.basis.proofs.Tables.{length-tab, get_or-tab}

module _ {A : Type 0} where
  -- a store into a table makes the table of what then stands at each place
  pub tab-set : (f g : ℕ → A) (n i : ℕ) (v : A) → i < n → g i ≡ v → ((j : ℕ) → (j ≡ i → ⊥) → g j ≡ f j) → set (tab f n) i v ≡ tab g n
  tab-set f g n i v h e o =
      ext_get_or v (set (tab f n) i v) (tab g n) (length-set (tab f n) i v ∙ length-tab f n ∙ sym (length-tab g n))
      (λ j p. at j (rw (length-set (tab f n) i v, length-tab f n) at p) (eqb j i) refl)
    where
      at : (j : ℕ) → j < n → (t : Bool) → eqb j i ≡ t → get_or (set (tab f n) i v) j v ≡ get_or (tab g n) j v
      at j p true q =
          rw (eqb-true j i q) (get_or-set_same (tab f n) i v v (rw (length-tab f n) h) ∙ sym e ∙ sym (get_or-tab g n i v h))
      at j p false q =
          get_or-set_other (tab f n) i j v v (eqb-false j i q)
          ∙ get_or-tab f n j v p
          ∙ sym (o j (eqb-false j i q))
          ∙ sym (get_or-tab g n j v p)

module _ {A B : Type 0} where
  map-tab_from : (g : A → B) (f : ℕ → A) (i n : ℕ) → map g (tab_from f i n) ≡ tab_from (λ k. g (f k)) i n
  unfolding tab_from
  map-tab_from g f i zero = refl
  map-tab_from g f i (suc n) = ap (λ (l : List B). g (f i) ∷ l) (map-tab_from g f (i + 1) n)

  -- a table mapped
  pub map-tab : (g : A → B) (f : ℕ → A) (n : ℕ) → map g (tab f n) ≡ tab (λ k. g (f k)) n
  map-tab g f n = map-tab_from g f 0 n
