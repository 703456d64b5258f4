-- `share::parts::give_left` meets its contract. The invariant: giving the units that are left makes the amounts that are to be.
-- Assumes nothing.
use Rattle.std.proofs.Common.{◌≡◌, ◌+◌, ◌-◌}
use Rattle.basis.specs.Sums.{sum}
use Rattle.share.specs.Division.{give}
use Rattle.share.proofs.parts.give_left.Given as goal

abbrev pub invariant-loop-unit : goal.invariant-loop-unit
invariant-loop-unit l =
    record {
      total : sum l.amounts + (l.left - l._unit) ≡ sum l.initial.amounts + l.left;
      given : give (l.left - l._unit) l.amounts l.rest ≡ give l.left l.initial.amounts l.initial.rest;
    }
