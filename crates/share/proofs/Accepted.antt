-- What an accepted division shows.
use mathlib.Core.Path.{◌≡◌, ap, ◌∙◌}
use mathlib.Core.Bool.{true, false, false≢true}
use mathlib.Core.List.{List}
use Prim.Native.Nat.{ℕ, ◌+◌, ◌-◌, ◌*◌, ◌^◌, ◌≤◌, ◌<◌}
use native.Mathlib.Nat.{pos_of_ne-zero, mul-le-mul, mul-le-mul_right, lt_of_le_of_lt}
use native.Mathlib.Omega.{arith}
use borrow.Author.Tests.{ltb-false, eqb-false, le-ltb, ne_eqb}
use lib.Dec.{lit<, eqb}
use lib.ListN.{length, get_or}
use Rattle.std.specs.Prelude.{Result, Ok, Err, IsErr}
use Rattle.basis.specs.Sums.{sum, all_at_most}
use Rattle.basis.proofs.Sums.{sum_at_most, all_at_most_lem}
use Rattle.basis.proofs.Choice.{peel, peel_not}
use Rattle.quantities.specs.Limits.{greatest_total, greatest_weight, most_weights}
use Rattle.quantities.specs.Refusals.{met}
use Rattle.quantities.specs.declared.refusals.Refusal.{Refusal}
use Rattle.quantities.proofs.RefusalLaws.{refusing}
use Rattle.share.specs.Division.{whole_parts, remainders, give, shares, division_number}
use Rattle.share.proofs.Quotients.{length-parts, length-remainders, parts_at_most}

pub record Accepted (T : ℕ) (ws : List ℕ) (room : ℕ) : Type 0 where
  pub total : T ≤ greatest_total
  pub some : 0 < length ws
  pub most : length ws ≤ most_weights
  pub weights : all_at_most greatest_weight ws ≡ true
  pub positive : 0 < sum ws
  pub fits : length ws ≤ room

pub accepted : (T : ℕ) (ws : List ℕ) (room : ℕ) → division_number T ws room ≡ 0 → Accepted T ws room
unfolding division_number
accepted T ws room e =
    let a = peel _ 2 _ e in
    let b = peel _ 2 _ a.1 in
    let c = peel _ 2 _ b.1 in
    let d = peel_not _ 2 _ c.1 in
    let f = peel _ 12 _ d.1 in
    let g = peel _ 14 _ f.1 in
    let nonempty = eqb-false (length ws) 0 b.0 in
    let nonzero = eqb-false (sum ws) 0 f.0 in
    record {
      total = ltb-false greatest_total T a.0;
      some = pos_of_ne-zero nonempty;
      most = ltb-false most_weights (length ws) c.0;
      weights = d.0;
      positive = pos_of_ne-zero nonzero;
      fits = ltb-false room (length ws) g.0;
    }

-- weights in range sum to a number of 64 bits
pub sum_fits : (ws : List ℕ) → all_at_most greatest_weight ws ≡ true → length ws ≤ most_weights → sum ws < 2 ^ 64
sum_fits ws e h =
    omega (arith, sum_at_most greatest_weight ws (all_at_most_lem greatest_weight ws e), mul-le-mul_right greatest_weight h)

-- .. of 32 bits even
pub sum_small : (ws : List ℕ) → all_at_most greatest_weight ws ≡ true → length ws ≤ most_weights → sum ws < 2 ^ 32
sum_small ws e h =
    omega (arith, sum_at_most greatest_weight ws (all_at_most_lem greatest_weight ws e), mul-le-mul_right greatest_weight h)

-- .. and so does a total in range times a weight
pub product_fits : (T : ℕ) (ws : List ℕ) (i : ℕ) → T ≤ greatest_total → all_at_most greatest_weight ws ≡ true → T * get_or ws i 0 < 2 ^ 64
product_fits T ws i h e = lt_of_le_of_lt (mul-le-mul h (all_at_most_lem greatest_weight ws e i)) (lit< tt)

-- the whole parts and what they leave are ready for the units left over, and these make the shares
module _ (T : ℕ) (ws : List ℕ) (room : ℕ) (h : Accepted T ws room) (W : ℕ) (w : W ≡ sum ws) (a r : List ℕ) (ea : a ≡ whole_parts T W ws) (er : r ≡ remainders T W ws) (left : ℕ) (el : left ≡ T - sum (whole_parts T W ws)) where
  pub ready : ((length a ≡ length r) × (0 < length r)) × (sum a + left ≤ greatest_total)
  ready =
      let p = ap length ea ∙ length-parts T W ws in
      let q = ap length er ∙ length-remainders T W ws in
      let m : sum (whole_parts T W ws) ≤ T = rw w (parts_at_most T ws h.positive) in
      let s = ap sum ea in
      ((omega arith, omega (arith, h.some)), omega (arith, h.total))

  pub made : give left a r ≡ shares T ws
  unfolding shares
  made = rw (el, ea, er, w)

-- a division that is accepted is accepted with any room that is enough
pub enough : (T : ℕ) (ws : List ℕ) (room other : ℕ) → Accepted T ws room → length ws ≤ other → division_number T ws other ≡ 0
unfolding division_number
enough T ws room other h k =
    simp (
      le-ltb greatest_total T h.total,
      ne_eqb (length ws) 0 (λ e. absurd (omega (arith, h.some))),
      le-ltb most_weights (length ws) h.most,
      h.weights,
      ne_eqb (sum ws) 0 (λ e. absurd (omega (arith, h.positive))),
      le-ltb other (length ws) k,
    )

-- a refusal has a number, and the lists are kept
pub refused : (answer : Result (Unit {0}) Refusal) → IsErr answer → eqb (met answer) 0 ≡ false
refused (Ok x) h = absurd (false≢true h)
refused (Err refusal) h = refusing refusal
