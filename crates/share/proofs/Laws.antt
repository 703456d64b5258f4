-- What a division promises, over the definition alone: cited by other crates.
use mathlib.Core.Path.{◌≡◌, sym, ap, ◌∙◌}
use mathlib.Core.List.{List}
use mathlib.Core.Logic.{◌⊎◌, ⊎_elim}
use Prim.Native.Nat.{ℕ, ◌+◌, ◌-◌, ◌*◌, ◌/◌, ◌%◌, ◌<◌}
use native.Mathlib.Nat.{add-mul, div-add-mod', mul-zero, zero-mod, sub-add_cancel}
use native.Mathlib.Omega.{arith}
use lib.ListN.{length, get_or}
use Rattle.basis.specs.Sums.{sum}
use Rattle.share.specs.Division.{whole_parts, remainders, shares}
use Rattle.share.specs.Promises.{SharesDivide}
use Rattle.share.proofs.Quotients.{length-parts, length-remainders, part_at, remainder_at_lem, parts_at_most, left_and_rest, remainder_below}
use Rattle.share.proofs.Units.{Covered, length-give, sum-give, some_element, given, given_before}

-- one amount for each weight
pub length-shares : (T : ℕ) (ws : List ℕ) → length (shares T ws) ≡ length ws
unfolding shares
length-shares T ws =
    length-give (T - sum (whole_parts T (sum ws) ws)) (whole_parts T (sum ws) ws) (remainders T (sum ws) ws) ∙ length-parts T (sum ws) ws

module _ (T : ℕ) (ws : List ℕ) (positive : 0 < sum ws) where
  abbrev left : ℕ
  left = T - sum (whole_parts T (sum ws) ws)

  covered : Covered (sum ws) left (remainders T (sum ws) ws)
  covered =
      record {
        positive = positive;
        each = λ k. omega (arith, remainder_below T ws positive k);
        all = omega (arith, left_and_rest T ws positive);
      }

  same_lengths : length (whole_parts T (sum ws) ws) ≡ length (remainders T (sum ws) ws)
  same_lengths = length-parts T (sum ws) ws ∙ sym (length-remainders T (sum ws) ws)

  nonempty : 0 < length (remainders T (sum ws) ws)
  nonempty = rw (length-remainders T (sum ws) ws) (some_element ws positive)

  -- the amounts add up to T
  pub sum-shares : sum (shares T ws) ≡ T
  unfolding shares
  sum-shares =
      omega (arith, sum-give left (whole_parts T (sum ws) ws) (remainders T (sum ws) ws) same_lengths nonempty, parts_at_most T ws positive)

  -- an amount is T·weight / W rounded down, or one more where that leaves a remainder
  pub share_at : (i : ℕ) → (get_or (shares T ws) i 0 ≡ T * get_or ws i 0 / sum ws) ⊎ ((get_or (shares T ws) i 0 ≡ T * get_or ws i 0 / sum ws + 1) × (0 < T * get_or ws i 0 % sum ws))
  unfolding shares
  share_at i =
      rw (part_at T (sum ws) ws i, remainder_at_lem T (sum ws) ws i) at (given (sum ws) left (whole_parts T (sum ws) ws) (remainders T (sum ws) ws) i same_lengths nonempty covered)

  -- each amount times W is less than W away from T times its weight
  pub share_near : (i : ℕ) → (get_or (shares T ws) i 0 * sum ws < T * get_or ws i 0 + sum ws) × (T * get_or ws i 0 < get_or (shares T ws) i 0 * sum ws + sum ws)
  share_near i =
      let m = div-add-mod' (T * get_or ws i 0) (sum ws) in
      let q = T * get_or ws i 0 / sum ws in
      let b = native.Mathlib.Nat.mod-lt (T * get_or ws i 0) positive in
      ⊎_elim (λ e. rw e (omega arith, omega arith)) (λ e. rw (e.0, add-mul q 1 (sum ws)) (omega (arith, e.1), omega arith)) (share_at i)

  -- who got a unit more comes before who did not, by larger remainder and then by lower number
  pub share_before : (i j : ℕ) → get_or (shares T ws) i 0 ≡ T * get_or ws i 0 / sum ws + 1 → get_or (shares T ws) j 0 ≡ T * get_or ws j 0 / sum ws → (T * get_or ws j 0 % sum ws < T * get_or ws i 0 % sum ws) ⊎ ((T * get_or ws j 0 % sum ws ≡ T * get_or ws i 0 % sum ws) × (i < j))
  unfolding shares
  share_before i j p q =
      rw (remainder_at_lem T (sum ws) ws i, remainder_at_lem T (sum ws) ws j) at (given_before (sum ws) left (whole_parts T (sum ws) ws) (remainders T (sum ws) ws) i j same_lengths nonempty covered (rw (part_at T (sum ws) ws i) p) (rw (part_at T (sum ws) ws j) q))

  -- a weight of 0 gets 0
  pub share_of_zero : (i : ℕ) → get_or ws i 0 ≡ 0 → get_or (shares T ws) i 0 ≡ 0
  share_of_zero i e = ⊎_elim (λ p. p ∙ rw (e, mul-zero T) (native.Mathlib.Nat.zero-div (sum ws))) (λ p. absurd (omega (arith, p.1, ap (λ w. T * w % sum ws) e, mul-zero T, zero-mod (sum ws), ap (λ n. n % sum ws) (mul-zero T)))) (share_at i)

pub shares_divide : SharesDivide
shares_divide T ws positive =
    record {
      one_for_each = length-shares T ws;
      add_up = sum-shares T ws positive;
      quotient_or_more = share_at T ws positive;
      not_above = λ i. (share_near T ws positive i).0;
      not_below = λ i. (share_near T ws positive i).1;
      in_order = share_before T ws positive;
      nothing_for_zero = share_of_zero T ws positive;
    }
