-- `fix::among_consumers` meets its contract: the amounts are the shares, and add up to the total. Assumes nothing.
use mathlib.Core.Path.{◌≡◌, sym, ap, ◌∙◌}
use mathlib.Core.List.{List, append-nil}
use Prim.Native.Nat.{ℕ, ◌<◌}
use native.Mathlib.Nat.{pos_of_ne-zero, zero-add}
use native.Mathlib.Omega.{arith}
use borrow.Author.Rules.{rules}
use borrow.Author.Tests.{eqb-false, eq-eqb}
use lib.Dec.{ltb, eqb}
use lib.ListN.{length, replicate}
use Rattle.basis.specs.Sums.{sum, all_at_most}
use Rattle.basis.proofs.Choice.{peel, peel_not}
use Rattle.basis.proofs.Sums.{at_most_sum}
use Rattle.quantities.specs.Limits.{greatest_total, greatest_weight, most_weights, consumers}
use Rattle.share.specs.Division.{Divides, division_number, divided, shares}
use Rattle.share.proofs.Laws.{length-shares, sum-shares}
use Rattle.fix.proofs.division.among_consumers.Goals as goal

-- an accepted division has a positive weight
positive_weights : (T : ℕ) (ws : List ℕ) (room : ℕ) → division_number T ws room ≡ 0 → 0 < sum ws
unfolding division_number
positive_weights T ws room e =
    let a = peel (ltb greatest_total T) 2 _ e in
    let b = peel (eqb (length ws) 0) 2 _ a.1 in
    let c = peel (ltb most_weights (length ws)) 2 _ b.1 in
    let d = peel_not (all_at_most greatest_weight ws) 2 _ c.1 in
    pos_of_ne-zero (eqb-false (sum ws) 0 (peel (eqb (sum ws) 0) 12 _ d.1).0)

-- into amounts that are 0
module _ (T : ℕ) (ws new : List ℕ) (full : length ws ≡ consumers) (d : Divides T ws (replicate consumers 0) 0 new) where
  shared : new ≡ shares T ws
  unfolding divided
  shared =
      let n = length-shares T ws ∙ full in
      d.amounts ∙ rw (eq-eqb _ 0 (sym d.answer), zero-add, n) (append-nil (shares T ws))

  whole : sum new ≡ T
  whole = ap sum shared ∙ sum-shares T ws (positive_weights T ws consumers (sym d.answer))

pub returns-clause-amounts : goal.returns-clause-amounts
returns-clause-amounts c = shared c.args.total c.args.weights.now c.divide.new.amounts (search rules) c.in_ok-divide.ensures

pub returns-clause-whole : goal.returns-clause-whole
returns-clause-whole c = whole c.args.total c.args.weights.now c.divide.new.amounts (search rules) c.in_ok-divide.ensures

pub returns-clause-each : goal.returns-clause-each
returns-clause-each c k =
    omega (arith, at_most_sum c.divide.new.amounts k, whole c.args.total c.args.weights.now c.divide.new.amounts (search rules) c.in_ok-divide.ensures)
