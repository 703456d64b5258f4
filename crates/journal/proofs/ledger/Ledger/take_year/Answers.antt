-- `journal::ledger::Ledger::take_year` meets its contract: a year leads to a stage in which the figures are not asked. Assumes nothing.
use Rattle.journal.proofs.Ready.{ready_year}
use Rattle.journal.proofs.Summed.{year_summed}
use Rattle.journal.proofs.ledger.Ledger.take_year.Goals as goal

pub invariant_of-self : goal.invariant_of-self
invariant_of-self c =
    let l = c.args.self.now in
    record {
      ready = ready_year l.book c.args.hours c.settle_year.ensures l.ready;
      summed = year_summed l.book l.summed c.args.hours c.settle_year.ensures;
    }
