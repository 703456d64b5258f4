-- `journal::ledger::Ledger::new` meets its contract: a fresh book has no balances. Assumes nothing.
use Rattle.state.specs.State.{fresh_book}
use Rattle.journal.proofs.Summed.{none_summed}
use Rattle.journal.proofs.ledger.Ledger.new.Goals as goal

pub invariant_of-result-clause-summed : goal.invariant_of-result-clause-summed
unfolding fresh_book
invariant_of-result-clause-summed c = rw c.fresh.ensures none_summed
