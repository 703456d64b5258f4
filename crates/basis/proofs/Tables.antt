-- Lists made of a function of the place.
use mathlib.Core.Path.{◌≡◌, refl, sym, ap, ◌∙◌}
use mathlib.Core.List.{List, map}
use Prim.Native.Nat.{ℕ, zero, suc, ◌<◌}
use native.Mathlib.Nat.{zero-add}
use native.Mathlib.Omega.{arith}
use lib.ListN.{length, get_or, length-map, get_or-map}
use Rattle.std.specs.List.{zip}
use Rattle.std.proofs.lemmas.Slice.Zip.{get_or-zip, length-zip}
use Rattle.std.proofs.lemmas.List.FromFn.{length-map-range_with_len, get_or-map-range_with_len, fill_by_all}
use Rattle.basis.specs.Sums.{sum, sum_up}
use Rattle.basis.specs.Tables.{tab, tab_from}
use Rattle.basis.proofs.Sums.{sum_as_sum_up, sum_up_same}

module _ {A : Type 0} where
  pub length-tab : (f : ℕ → A) (n : ℕ) → length (tab f n) ≡ n
  unfolding tab_from
  length-tab f n = length-map-range_with_len f 0 n

  pub get_or-tab : (f : ℕ → A) (n k : ℕ) (d : A) → k < n → get_or (tab f n) k d ≡ f k
  unfolding tab_from
  get_or-tab f n k d h = get_or-map-range_with_len f 0 n k k d h (zero-add k)

  -- a list whose elements are those of the function
  pub tab_from_places : (f : ℕ → A) (l : List A) (n : ℕ) (d : A) → length l ≡ n → ((k : ℕ) → k < n → get_or l k d ≡ f k) → l ≡ tab f n
  unfolding tab_from
  tab_from_places f l n d e h = fill_by_all f l n d e h

  pub tab_same : (f g : ℕ → A) (n : ℕ) → ((k : ℕ) → k < n → f k ≡ g k) → tab f n ≡ tab g n
  unfolding tab_from
  tab_same f g zero h = refl
  tab_same f g (suc n) h = tab_from_places g (tab f (suc n)) (suc n) (f 0) (length-tab f (suc n)) (λ k p. get_or-tab f (suc n) k (f 0) p ∙ h k p)

  -- a list of n elements is the table of its elements
  pub tab_of : (l : List A) (d : A) → tab (λ k. get_or l k d) (length l) ≡ l
  tab_of l d = sym (tab_from_places (λ k. get_or l k d) l (length l) d refl (λ k h. refl))

-- a list under a function, as a table
pub tab-map : {A B : Type 0} (f : A → B) (xs : List A) (d : A) (n : ℕ) → length xs ≡ n → tab (λ k. f (get_or xs k d)) n ≡ map f xs
tab-map f xs d n e =
    sym (tab_from_places (λ k. f (get_or xs k d)) (map f xs) n (f d) (length-map xs f ∙ e) (λ k h. get_or-map f xs k d))

-- two lists of as many elements under a function of both, as a table
pub tab-zip : {A B C : Type 0} (f : A → B → C) (xs : List A) (ys : List B) (d : A) (e : B) (n : ℕ) → length xs ≡ n → length ys ≡ n → tab (λ k. f (get_or xs k d) (get_or ys k e)) n ≡ map (λ (p : A × B). f p.0 p.1) (zip xs ys)
tab-zip f xs ys d e n a b =
    sym
    (tab_from_places (λ k. f (get_or xs k d) (get_or ys k e)) (map (λ p. f p.0 p.1) (zip xs ys)) n (f d e)
    (length-map (zip xs ys) (λ p. f p.0 p.1) ∙ omega (arith, length-zip xs ys))
    (λ k h. get_or-map (λ p. f p.0 p.1) (zip xs ys) k (d, e) ∙ ap (λ p. f p.0 p.1) (get_or-zip xs ys k (d, e) (omega arith) (omega arith))))

pub sum-tab : (f : ℕ → ℕ) (n : ℕ) → sum (tab f n) ≡ sum_up f n
sum-tab f n =
    sum_as_sum_up (tab f n)
    ∙ ap (λ m. sum_up (λ k. get_or (tab f n) k 0) m) (length-tab f n)
    ∙ sum_up_same (λ k. get_or (tab f n) k 0) f n (λ k h. get_or-tab f n k 0 h)
