-- Sums over a list and over a count.
use mathlib.Core.Path.{◌≡◌, refl, sym, ap, ◌∙◌}
use mathlib.Core.Bool.{true}
use mathlib.Core.List.{List, [], ◌∷◌}
use mathlib.Core.Logic.{⊎_elim}
use Prim.Native.Nat.{ℕ, zero, suc, ◌+◌, ◌*◌, ◌≤◌, ◌<◌, zero-le}
use native.Mathlib.Nat.{eq-or-lt_of_le, le_of_suc-le-suc, not-suc-le-zero, suc-mul, mul-add, mul-zero, le_refl}
use native.Mathlib.Numerals.{add-one}
use native.Mathlib.Omega.{arith}
use borrow.Author.Tests.{leb-true, le-leb}
use lib.Dec.{leb}
use lib.ListN.{length, get_or, set, take, replicate}
use lib.Seq.{take_all}
use Rattle.std.specs.List.{sum_by}
use Rattle.std.proofs.lemmas.Bool.{and_parts}
use Rattle.std.proofs.lemmas.List.Folds.{sum_by-replicate}
use Rattle.std.proofs.lemmas.List.Elements.{All-from_get_or}
use Rattle.std.proofs.lemmas.List.Sums.{sum_by-cons, sum_by-set, sum_by_more, list_all-from_AllPass}
use Rattle.basis.specs.Sums.{sum, sum_up, all_at_most}

pub sum-cons : (x : ℕ) (xs : List ℕ) → sum (x ∷ xs) ≡ x + sum xs
sum-cons x xs = sum_by-cons (λ (n : ℕ). n) x xs

-- a list of zeros
pub sum_zeros : (n : ℕ) → sum (replicate n 0) ≡ 0
sum_zeros n = sum_by-replicate (λ (x : ℕ). x) n 0 ∙ mul-zero n

-- The library's laws of these ask for a place within the list; here any place will do, since behind the end stands 0.
pub at_most_sum : (l : List ℕ) (i : ℕ) → get_or l i 0 ≤ sum l
at_most_sum [] i = zero-le
at_most_sum (x ∷ l) zero = omega (arith, sum-cons x l)
at_most_sum (x ∷ l) (suc i) = omega (arith, sum-cons x l, at_most_sum l i)

-- nothing but zeros adds up to 0
pub sum_of_zeros : (l : List ℕ) → sum l ≡ 0 → (k : ℕ) → get_or l k 0 ≡ 0
sum_of_zeros l e k = omega (arith, at_most_sum l k)

-- one element changed
pub sum-set : (l : List ℕ) (i v : ℕ) → i < length l → sum (set l i v) + get_or l i 0 ≡ sum l + v
sum-set l i v h = sum_by-set (λ (n : ℕ). n) l i v 0 h

-- a sum of elements that are at most m each
pub sum_at_most : (m : ℕ) (l : List ℕ) → ((k : ℕ) → get_or l k 0 ≤ m) → sum l ≤ length l * m
sum_at_most m [] h = zero-le
sum_at_most m (x ∷ l) h =
    omega (arith, sum-cons x l, suc-mul (length l) m, h 0, sum_at_most m l (λ k. h (suc k)))

pub all_at_most_lem : (m : ℕ) (l : List ℕ) → all_at_most m l ≡ true → (k : ℕ) → get_or l k 0 ≤ m
all_at_most_lem m [] e k = zero-le
all_at_most_lem m (x ∷ l) e zero = leb-true x m (and_parts (leb x m) (all_at_most m l) e).0
all_at_most_lem m (x ∷ l) e (suc k) = all_at_most_lem m l (and_parts (leb x m) (all_at_most m l) e).1 k

-- the library's, at this test
pub at_most_all : (m : ℕ) (l : List ℕ) → ((k : ℕ) → k < length l → get_or l k 0 ≤ m) → all_at_most m l ≡ true
at_most_all m l h = list_all-from_AllPass (λ x. leb x m) l (All-from_get_or (λ x. leb x m ≡ true) l 0 (λ k p. le-leb (get_or l k 0) m (h k p)))

pub sum_up_at_most : (m : ℕ) (f : ℕ → ℕ) (n : ℕ) → ((k : ℕ) → k < n → f k ≤ m) → sum_up f n ≤ n * m
unfolding sum_up
sum_up_at_most m f zero h = zero-le
sum_up_at_most m f (suc n) h =
    omega (arith, suc-mul n m, h n (le_refl (suc n)), sum_up_at_most m f n (λ k p. h k (omega arith)))

pub term_at_most : (f : ℕ → ℕ) (n k : ℕ) → k < n → f k ≤ sum_up f n
unfolding sum_up
term_at_most f zero k h = absurd (not-suc-le-zero h)
term_at_most f (suc n) k h =
    ⊎_elim (λ (e : k ≡ n). rw e (omega arith)) (λ (p : k < n). omega (arith, term_at_most f n k p))
    (eq-or-lt_of_le (le_of_suc-le-suc h))

pub sum_up_same : (f g : ℕ → ℕ) (n : ℕ) → ((k : ℕ) → k < n → f k ≡ g k) → sum_up f n ≡ sum_up g n
unfolding sum_up
sum_up_same f g zero h = refl
sum_up_same f g (suc n) h = omega (arith, h n (le_refl (suc n)), sum_up_same f g n (λ k p. h k (omega arith)))

pub sum_up_below : (f g : ℕ → ℕ) (n : ℕ) → ((k : ℕ) → k < n → f k ≤ g k) → sum_up f n ≤ sum_up g n
unfolding sum_up
sum_up_below f g zero h = zero-le
sum_up_below f g (suc n) h = omega (arith, h n (le_refl (suc n)), sum_up_below f g n (λ k p. h k (omega arith)))

pub sum_up_add : (f g : ℕ → ℕ) (n : ℕ) → sum_up (λ k. f k + g k) n ≡ sum_up f n + sum_up g n
unfolding sum_up
sum_up_add f g zero = refl
sum_up_add f g (suc n) = omega (arith, sum_up_add f g n)

pub sum_up_scaled : (c : ℕ) (f : ℕ → ℕ) (n : ℕ) → sum_up (λ k. c * f k) n ≡ c * sum_up f n
unfolding sum_up
sum_up_scaled c f zero = sym (mul-zero c)
sum_up_scaled c f (suc n) = omega (arith, sum_up_scaled c f n, mul-add c (sum_up f n) (f n))

-- one term changed
pub sum_up_changed : (f g : ℕ → ℕ) (n i : ℕ) → i < n → ((k : ℕ) → (k ≡ i → ⊥) → f k ≡ g k) → sum_up f n + g i ≡ sum_up g n + f i
unfolding sum_up
sum_up_changed f g zero i h e = absurd (not-suc-le-zero h)
sum_up_changed f g (suc n) i h e =
    ⊎_elim (λ (q : i ≡ n). rw q (omega (arith, sum_up_same f g n (λ k p. e k (λ r. absurd (omega arith))))))
    (λ (p : i < n). omega (arith, sum_up_changed f g n i p e, e n (λ r. absurd (omega arith))))
    (eq-or-lt_of_le (le_of_suc-le-suc h))

-- a sum of something of each element, as a sum over the places
module _ {X : Type 0} (f : X → ℕ) where
  up_to : (l : List X) (d : X) (i : ℕ) → i ≤ length l → sum_by f (take i l) ≡ sum_up (λ k. f (get_or l k d)) i
  unfolding sum_up
  up_to l d zero h = refl
  up_to l d (suc i) h =
      rw (← add-one i) (sum_by_more f l i d (omega arith)) ∙ ap (λ s. s + f (get_or l i d)) (up_to l d i (omega arith))

  pub sum_by_places : (l : List X) (d : X) → sum_by f l ≡ sum_up (λ k. f (get_or l k d)) (length l)
  sum_by_places l d = ap (λ (m : List X). sum_by f m) (sym (take_all (length l) l (le_refl (length l)))) ∙ up_to l d (length l) (le_refl (length l))

-- a list's sum as a sum over its places
pub sum_as_sum_up : (l : List ℕ) → sum l ≡ sum_up (λ k. get_or l k 0) (length l)
sum_as_sum_up l = sum_by_places (λ (n : ℕ). n) l 0
