-- `journal::ledger::Ledger::close` meets its contract: a close leads to a stage in which the figures are not asked. Assumes nothing.
use Rattle.journal.proofs.Ready.{ready_closed}
use Rattle.journal.proofs.Summed.{closed_summed}
use Rattle.journal.proofs.ledger.Ledger.close.Goals as goal

pub invariant_of-self : goal.invariant_of-self
invariant_of-self c =
    let l = c.args.self.now in
    record {
      ready = ready_closed l.book c.args.p c.put_closed.ensures l.ready.count;
      summed = closed_summed l.book c.args.p l.summed c.put_closed.ensures;
    }
