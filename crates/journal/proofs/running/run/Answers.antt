-- `journal::running::run` meets its contract: each turn is one record's, whatever its call. Assumes nothing.
use Rattle.std.proofs.Common.{refl, sym, ◌∙◌}
use Rattle.journal.proofs.Underway.{turn_to}
use Rattle.journal.proofs.running.run.Goals as goal

pub loop-call-preserved : goal.loop-call-preserved
loop-call-preserved c =
    turn_to c.loop-call.invariant (sym c.read_at-read.ensures ∙ c.in-Record.is) _ c.count.ensures refl c.take-answer.ensures
