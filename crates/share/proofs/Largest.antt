-- The first place of the greatest element, told apart by what it is.
use mathlib.Core.Path.{◌≡◌, refl}
use mathlib.Core.List.{List, [], ◌∷◌}
use Prim.Native.Nat.{ℕ, zero, suc, ◌≤◌, ◌<◌, zero-le}
use native.Mathlib.Nat.{not-suc-le-zero}
use native.Mathlib.Omega.{arith}
use borrow.Author.Tests.{eqb-true, eqb-false, lt-ltb}
use lib.Dec.{eqb, ltb}
use lib.ListN.{length, get_or}
use mathlib.Core.Logic.{⊎_elim}
use Rattle.std.specs.Prelude.{Some, None, Bool, cond, max, fold, unwrap_or}
use Rattle.std.specs.List.{reduce}
use Rattle.std.proofs.lemmas.Bool.{cases_lt}
use Rattle.std.proofs.lemmas.List.Sums.{fails_before_first, passes_at_first}
use Rattle.basis.specs.Sums.{greatest}
use Rattle.share.specs.Division.{first_place_of, largest}

-- no element is larger than the one at k, and each before k is smaller
pub record Largest (r : List ℕ) (k : ℕ) : Type 0 where
  pub within : k < length r
  pub most : (j : ℕ) → get_or r j 0 ≤ get_or r k 0
  pub first : (j : ℕ) → j < k → get_or r j 0 < get_or r k 0

at_most_greatest : (r : List ℕ) (j : ℕ) → get_or r j 0 ≤ greatest r
unfolding greatest
at_most_greatest [] j = zero-le
at_most_greatest (x ∷ r) zero = omega arith
at_most_greatest (x ∷ r) (suc j) = omega (arith, at_most_greatest r j)

-- some element is the greatest
greatest-stands : (r : List ℕ) → 0 < length r → (j : ℕ) × (j < length r) × (get_or r j 0 ≡ greatest r)
unfolding greatest
greatest-stands [] h = absurd (not-suc-le-zero h)
greatest-stands (x ∷ []) h = (0, omega arith, omega arith)
greatest-stands (x ∷ y ∷ r) h =
    let rest = greatest-stands (y ∷ r) (omega arith) in
    ⊎_elim (λ p. (suc rest.0, omega (arith, rest.1), omega (arith, rest.2))) (λ p. (0, omega arith, omega arith)) (cases_lt x (greatest (y ∷ r)))

-- the first place of the greatest is at most that of any, and it stands there
largest-stands : (r : List ℕ) (j : ℕ) → j < length r → get_or r j 0 ≡ greatest r → (largest r ≤ j) × (get_or r (largest r) 0 ≡ greatest r)
unfolding largest first_place_of
largest-stands r j h e =
    let test : ℕ → Bool = λ y. eqb y (greatest r) in
    let near : largest r ≤ j =
    ⊎_elim (λ p. absurd (eqb-false (get_or r j 0) (greatest r) (fails_before_first test r j 0 p) e)) (λ p. p) (cases_lt j (largest r)) in
    (near, eqb-true (get_or r (largest r) 0) (greatest r) (passes_at_first test r 0 (omega arith)))

-- an element before that place is smaller
smaller : (r : List ℕ) (j : ℕ) → j < largest r → get_or r j 0 < greatest r
unfolding largest first_place_of
smaller r j h =
    let other = eqb-false (get_or r j 0) (greatest r) (fails_before_first (λ y. eqb y (greatest r)) r j 0 h) in
    omega (arith, at_most_greatest r j)

pub largest_is : (r : List ℕ) → 0 < length r → Largest r (largest r)
largest_is r h =
    let g = greatest-stands r h in
    let p = largest-stands r g.0 g.1 g.2 in
    record {
      within = omega (arith, p.0, g.1);
      most = λ j. omega (arith, p.1, at_most_greatest r j);
      first = λ j q. omega (arith, p.1, smaller r j q);
    }

-- there is only one such place
pub largest_only : (r : List ℕ) (k : ℕ) → Largest r k → k ≡ largest r
largest_only r k h =
    let o = largest_is r (omega (arith, h.within)) in
    let a : ¬ (k < largest r) = λ p. absurd (omega (arith, o.first k p, h.most (largest r))) in
    let b : ¬ (largest r < k) = λ p. absurd (omega (arith, h.first (largest r) p, o.most k)) in omega arith

-- the greatest of all, found from the front on
fold_max : (a : ℕ) (r : List ℕ) → fold max a r ≡ max a (greatest r)
unfolding greatest
fold_max a [] = omega arith
fold_max a (x ∷ r) = omega (arith, fold_max (max a x) r)

pub greatest_found : (r : List ℕ) → unwrap_or (reduce max r) 0 ≡ greatest r
unfolding greatest
greatest_found [] = refl
greatest_found (x ∷ r) = fold_max x r

-- .. and its first place
pub first_found : (r : List ℕ) (d : ℕ) → 0 < length r → unwrap_or (cond (ltb (largest r) (length r)) (Some (largest r)) None) d ≡ largest r
first_found r d h = rw (lt-ltb (largest r) (length r) (largest_is r h).within) refl
