-- `narrow::first_stop` meets its contract: where the reading ends the converter does, with the number at which it stops. Assumes nothing.
use Rattle.std.proofs.Common.{sym, ap, ◌∙◌}
use Rattle.narrow.proofs.Turns.{stopped_unless, ends}
use Rattle.narrow.proofs.first_stop.Goals as goal

pub returns-in_default : goal.returns-in_default
returns-in_default c =
    c.then_some.ensures
    ∙ ap (stopped_unless c.loop-next.place) c.stop_number-number.ensures
    ∙ ends c.loop-next.invariant c.read_at-read.result (sym c.read_at-read.ensures) c.in_default.not-Record
