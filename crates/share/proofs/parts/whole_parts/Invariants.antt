-- `share::parts::whole_parts` meets its contract. The invariant: the parts and what they leave are right as far as i.
-- Assumes nothing.
use Rattle.std.proofs.Common.{◌≡◌, ◌+◌, take}
use Rattle.basis.specs.Sums.{sum}
use Rattle.share.specs.Division.{whole_parts, remainders}
use Rattle.share.proofs.parts.whole_parts.Given as goal

abbrev pub invariant-loop-i : goal.invariant-loop-i
invariant-loop-i l =
    record {
      parts : take l.i l.amounts ≡ whole_parts l.total l.whole (take l.i l.weights);
      remainders : take l.i l.rest ≡ remainders l.total l.whole (take l.i l.weights);
      left : l.left + sum (whole_parts l.total l.whole (take l.i l.weights)) ≡ l.total;
    }
