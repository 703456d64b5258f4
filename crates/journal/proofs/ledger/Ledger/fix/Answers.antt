-- `journal::ledger::Ledger::fix` meets its contract: the balances are as before. Assumes nothing.
use Rattle.journal.proofs.Summed.{fix_summed}
use Rattle.journal.proofs.ledger.Ledger.fix.Goals as goal

pub invariant_of-self-2-clause-summed : goal.invariant_of-self-2-clause-summed
invariant_of-self-2-clause-summed c = fix_summed c.args.self.now.book c.args.self.now.summed c.args.dmp c.in_ok-settle_fix.ensures
