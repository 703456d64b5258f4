-- `journal::ledger::Ledger::sum_of` meets its contract: a producer's sum stands at its place. Assumes nothing.
use Rattle.std.proofs.Common.{sym, ap, ◌∙◌}
use Rattle.journal.proofs.Summed.{placed_sum, sum_at}
use Rattle.journal.proofs.ledger.Ledger.sum_of.Goals as goal

pub returns-in-None : goal.returns-in-None
returns-in-None c =
    let l = c.args.self.now in
    ap (sum_at l.sums) (sym c.in-None.is) ∙ placed_sum l.summed c.args.producer c.place_among.result c.place_among.ensures

pub returns-in-Some : goal.returns-in-Some
returns-in-Some c =
    let l = c.args.self.now in
    ap (sum_at l.sums) (sym c.in-Some.is) ∙ placed_sum l.summed c.args.producer c.place_among.result c.place_among.ensures
