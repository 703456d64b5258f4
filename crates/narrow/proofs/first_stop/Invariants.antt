-- What is still to be read decides, and becomes less.
use Rattle.std.proofs.Common.{◌-◌, length}
use Rattle.narrow.proofs.Turns.{Reading}
use Rattle.narrow.proofs.first_stop.Given as goal

abbrev pub invariant-loop-next : goal.invariant-loop-next
invariant-loop-next l = Reading l.journal l.place

abbrev pub decreases-loop-next : goal.decreases-loop-next
decreases-loop-next l = length l.journal - l.place
