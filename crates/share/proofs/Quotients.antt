-- The whole parts and what they leave.
use mathlib.Core.Path.{◌≡◌, refl, sym, ap, ◌∙◌}
use mathlib.Core.List.{List, [], ◌∷◌, ◌++◌, map, map-append}
use Prim.Native.Nat.{ℕ, zero, suc, ◌+◌, ◌-◌, ◌*◌, ◌/◌, ◌%◌, ◌≤◌, ◌<◌}
use native.Mathlib.Nat.{mul-add, add-mul, mul-zero, zero-mul, div-add-mod', mod-lt, le_of_mul-le-mul_right, zero-mod, zero-div, sub-add_cancel}
use native.Mathlib.Omega.{arith}
use lib.ListN.{length, get_or, set, take, length-map}
use Rattle.basis.specs.Sums.{sum}
use Rattle.std.proofs.lemmas.List.{take_more, take_more_set}
use Rattle.std.proofs.lemmas.List.Sums.{sum_by_push, sum_by_more_le, sum-map}
use Rattle.basis.proofs.Sums.{sum-cons}
use Rattle.share.specs.Division.{whole_parts, remainders}

pub length-parts : (T W : ℕ) (ws : List ℕ) → length (whole_parts T W ws) ≡ length ws
unfolding whole_parts
length-parts T W ws = length-map ws (λ w. T * w / W)

pub length-remainders : (T W : ℕ) (ws : List ℕ) → length (remainders T W ws) ≡ length ws
unfolding remainders
length-remainders T W ws = length-map ws (λ w. T * w % W)

-- at each place; past the end both are 0
pub part_at : (T W : ℕ) (ws : List ℕ) (i : ℕ) → get_or (whole_parts T W ws) i 0 ≡ T * get_or ws i 0 / W
unfolding whole_parts
part_at T W [] i = rw (mul-zero T) (sym (zero-div W))
part_at T W (w ∷ ws) zero = refl
part_at T W (w ∷ ws) (suc i) = part_at T W ws i

pub remainder_at_lem : (T W : ℕ) (ws : List ℕ) (i : ℕ) → get_or (remainders T W ws) i 0 ≡ T * get_or ws i 0 % W
unfolding remainders
remainder_at_lem T W [] i = rw (mul-zero T) (sym (zero-mod W))
remainder_at_lem T W (w ∷ ws) zero = refl
remainder_at_lem T W (w ∷ ws) (suc i) = remainder_at_lem T W ws i

-- whole parts times W, with what they leave, are T times the weights
pub parts_and_rest : (T W : ℕ) (ws : List ℕ) → sum (whole_parts T W ws) * W + sum (remainders T W ws) ≡ T * sum ws
unfolding whole_parts remainders
parts_and_rest T W [] = rw (zero-mul W, mul-zero T)
parts_and_rest T W (w ∷ ws) =
    rw (sum-cons (T * w / W) (map (λ v. T * v / W) ws), sum-cons (T * w % W) (map (λ v. T * v % W) ws), sum-cons w ws)
    (omega (arith, parts_and_rest T W ws, add-mul (T * w / W) (sum (map (λ v. T * v / W) ws)) W, div-add-mod' (T * w) W, mul-add T w (sum ws)))

module _ (T : ℕ) (ws : List ℕ) (positive : 0 < sum ws) where
  pub parts_at_most : sum (whole_parts T (sum ws) ws) ≤ T
  parts_at_most = le_of_mul-le-mul_right (omega (arith, parts_and_rest T (sum ws) ws)) positive

  -- the units left over, times W, are the sum of the remainders
  pub left_and_rest : (T - sum (whole_parts T (sum ws) ws)) * sum ws ≡ sum (remainders T (sum ws) ws)
  left_and_rest =
      let P = sum (whole_parts T (sum ws) ws) in
      let e : T - P + P ≡ T = sub-add_cancel parts_at_most in
      let q : (T - P) * sum ws + P * sum ws ≡ T * sum ws = sym (add-mul (T - P) P (sum ws)) ∙ ap (λ n. n * sum ws) e in
      omega (arith, parts_and_rest T (sum ws) ws)

  pub remainder_below : (i : ℕ) → get_or (remainders T (sum ws) ws) i 0 < sum ws
  remainder_below i = rw (remainder_at_lem T (sum ws) ws i) (mod-lt (T * get_or ws i 0) positive)

-- one weight more: its part and its remainder are stored behind the others
part_more : (T W : ℕ) (ws : List ℕ) (i : ℕ) → i < length ws → whole_parts T W (take (i + 1) ws) ≡ whole_parts T W (take i ws) ++ (T * get_or ws i 0 / W) ∷ []
unfolding whole_parts
part_more T W ws i h = rw (take_more ws i 0 h) (map-append (λ w. T * w / W) (take i ws) (get_or ws i 0 ∷ []))

pub part_stored : (T W : ℕ) (ws l : List ℕ) (i : ℕ) → i < length ws → i < length l → take i l ≡ whole_parts T W (take i ws) → take (i + 1) (set l i (T * get_or ws i 0 / W)) ≡ whole_parts T W (take (i + 1) ws)
part_stored T W ws l i h k e = rw (take_more_set l i (T * get_or ws i 0 / W) k, part_more T W ws i h) (cc e)

pub remainder_stored : (T W : ℕ) (ws l : List ℕ) (i : ℕ) → i < length ws → i < length l → take i l ≡ remainders T W (take i ws) → take (i + 1) (set l i (T * get_or ws i 0 % W)) ≡ remainders T W (take (i + 1) ws)
unfolding remainders
remainder_stored T W ws l i h k e =
    rw (take_more_set l i (T * get_or ws i 0 % W) k, take_more ws i 0 h, map-append (λ w. T * w % W) (take i ws) (get_or ws i 0 ∷ [])) (cc e)

-- the next part joins those that are passed, and is at most what they leave
pub sum_part_more : (T W : ℕ) (ws : List ℕ) (i : ℕ) → i < length ws → sum (whole_parts T W (take (i + 1) ws)) ≡ sum (whole_parts T W (take i ws)) + T * get_or ws i 0 / W
sum_part_more T W ws i h = rw (part_more T W ws i h) (sum_by_push (λ (n : ℕ). n) (whole_parts T W (take i ws)) (T * get_or ws i 0 / W))

pub next_part : (T W : ℕ) (ws : List ℕ) (i : ℕ) → (0 < W) × (W ≡ sum ws) → i < length ws → sum (whole_parts T W (take i ws)) + T * get_or ws i 0 / W ≤ T
unfolding whole_parts
next_part T W ws i h k =
    let f : ℕ → ℕ = λ w. T * w / W in
    let m : sum (whole_parts T W ws) ≤ T = rw h.1 (parts_at_most T ws (omega arith)) in
    omega (arith, sum-map f (take i ws), sum-map f ws, sum_by_more_le f ws i 0 k)

-- one turn of the loop over the weights
pub ruleset turn = (next_part, part_stored, remainder_stored, sum_part_more)
