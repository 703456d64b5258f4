-- What the run's loop keeps: with what is still to be read, the tally and the ledger's book make the run.
use Rattle.std.proofs.Common.{◌-◌, length}
use Rattle.journal.specs.Tally.{run_with}
use Rattle.journal.proofs.Underway.{Underway}
use Rattle.journal.proofs.running.run.Given as goal

abbrev pub invariant-loop-call : goal.invariant-loop-call
invariant-loop-call l = Underway l.journal (run_with l.tally l.ledger.book 0)

abbrev pub decreases-loop-call : goal.decreases-loop-call
decreases-loop-call l = length l.journal - l.tally.place
