-- The numbers from 1 on that a test picks, in their order.
use mathlib.Core.Path.{◌≡◌, refl, sym, ap, ◌∙◌}
use mathlib.Core.Bool.{Bool, true, false}
use mathlib.Core.List.{List, [], ◌∷◌, ◌++◌, map, map-append, append-nil}
use Prim.Native.Nat.{ℕ, zero, suc, ◌+◌, ◌≤◌, ◌<◌, zero-le}
use native.Mathlib.Numerals.{add-one}
use native.Mathlib.Omega.{arith}
use borrow.Author.Tests.{ltb-true, ltb-false}
use lib.Dec.{ltb}
use lib.ListN.{length, get_or, length-append, get_or-append}
use lib.Seq.{get_or_at}
use Rattle.basis.specs.Choice.{pick}
use Rattle.text.specs.Text.{joined, joined_from}
use Rattle.text.proofs.Joining.{joined_more, length-joined_more, joined-within, joined-short}

module _ (t : ℕ → Bool) where
  abbrev pub picked : ℕ → List ℕ
  picked i = pick (t i) ((i + 1) ∷ []) []

  abbrev numbers : ℕ → List ℕ
  numbers n = joined picked n

  pub no_more_than_all : (n : ℕ) → length (numbers n) ≤ n
  no_more_than_all n = joined-short picked n (λ i. one (t i) i)
    where
      one : (s : Bool) (i : ℕ) → length {A = ℕ} (pick s ((i + 1) ∷ []) []) ≤ 1
      one true i = omega arith
      one false i = zero-le

  -- what is known of the numbers up to n
  record Ordered (n : ℕ) (l : List ℕ) : Type 0 where
    pub within : (i : ℕ) → i < length l → get_or l i 0 ≤ n
    pub rising : (i j : ℕ) → i < j → j < length l → get_or l i 0 < get_or l j 0

  ordered_more : (n : ℕ) (l : List ℕ) (s : Bool) → Ordered n l → Ordered (n + 1) (l ++ pick s ((n + 1) ∷ []) [])
  ordered_more n l false o =
      rw (append-nil l) (record { within = λ i p. omega (arith, o.within i p); rising = λ i j p q. o.rising i j p q })
  ordered_more n l true o =
      record {
        within = λ i p. at_most i (ltb i (length l)) refl (omega (arith, length-append l ((n + 1) ∷ []), p));
        rising = λ i j p q. above i j p (ltb j (length l)) refl (omega (arith, length-append l ((n + 1) ∷ []), q));
      }
    where
      inner : (i : ℕ) → i < length l → get_or (l ++ ((n + 1) ∷ [])) i 0 ≡ get_or l i 0
      inner i p = get_or-append l ((n + 1) ∷ []) 0 i p

      end : (i : ℕ) → length l ≡ i → get_or (l ++ ((n + 1) ∷ [])) i 0 ≡ n + 1
      end i e = get_or_at l (n + 1) [] 0 i e

      at_most : (i : ℕ) (s : Bool) → ltb i (length l) ≡ s → i < length l + 1 → get_or (l ++ ((n + 1) ∷ [])) i 0 ≤ n + 1
      at_most i true e p =
          let q = ltb-true i (length l) e in omega (arith, inner i q, o.within i q)
      at_most i false e p = omega (arith, end i (omega (arith, p, ltb-false i (length l) e)))

      above : (i j : ℕ) → i < j → (s : Bool) → ltb j (length l) ≡ s → j < length l + 1 → get_or (l ++ ((n + 1) ∷ [])) i 0 < get_or (l ++ ((n + 1) ∷ [])) j 0
      above i j p true e q =
          let r = ltb-true j (length l) e in omega (arith, inner i (omega (arith, p, r)), inner j r, o.rising i j p r)
      above i j p false e q =
          let r = ltb-false j (length l) e in
          let z : i < length l = omega (arith, p, q, r) in
          omega (arith, inner i z, end j (omega (arith, q, r)), o.within i z)

  ordered : (n : ℕ) → Ordered n (numbers n)
  unfolding joined_from
  ordered zero = record { within = λ i p. absurd (omega arith); rising = λ i j p q. absurd (omega arith) }
  ordered (suc n) =
      let o : Ordered (n + 1) (numbers (n + 1)) = rw (joined_more picked n) (ordered_more n (numbers n) (t n) (ordered n)) in
      rw (add-one n) at o

  pub ascending : (n i j : ℕ) → i < j → j < length (numbers n) → get_or (numbers n) i 0 < get_or (numbers n) j 0
  ascending n i j p q = (ordered n).rising i j p q

  -- where no number is picked, the test says so of each
  pub none_picked : (n : ℕ) → length (numbers n) ≡ 0 → (i : ℕ) → i < n → t i ≡ false
  none_picked n e i p =
      go (t i) refl (omega (arith, joined-within picked (i + 1) n (omega (arith, p)), e, length-joined_more picked i))
    where
      go : (s : Bool) → t i ≡ s → length (picked i) ≡ 0 → t i ≡ false
      go true q z = absurd (omega (arith, z, ap (λ (s : Bool). length {A = ℕ} (pick s ((i + 1) ∷ []) [])) q))
      go false q z = q

  -- what is made of the numbers is the same where it is the same of each
  pub same_of_each : {A : Type 0} (f g : ℕ → A) (n : ℕ) → ((i : ℕ) → i < n → f (i + 1) ≡ g (i + 1)) → map f (numbers n) ≡ map g (numbers n)
  unfolding joined_from
  same_of_each f g zero h = refl
  same_of_each {A} f g (suc n) h =
      ap (λ m. map f (numbers m)) (sym (add-one n))
      ∙ ap (map f) (joined_more picked n)
      ∙ map-append f (numbers n) (picked n)
      ∙ ap (λ (l : List A). l ++ map f (picked n)) (same_of_each f g n (λ i p. h i (omega arith)))
      ∙ ap (λ (l : List A). map g (numbers n) ++ l) (go (t n))
      ∙ sym (map-append g (numbers n) (picked n))
      ∙ ap (map g) (sym (joined_more picked n))
      ∙ ap (λ m. map g (numbers m)) (add-one n)
    where
      go : (s : Bool) → map f (pick s ((n + 1) ∷ []) []) ≡ map g (pick s ((n + 1) ∷ []) [])
      go true = ap (λ (x : A). x ∷ []) (h n (omega arith))
      go false = refl
