-- `journal::ledger::Ledger::consumer_act` meets its contract: the real demand of the consumer is kept beside the book. Assumes nothing.
use Rattle.journal.proofs.Ready.{ready_stored}
use Rattle.journal.proofs.Summed.{consumer_summed}
use Rattle.journal.proofs.ledger.Ledger.consumer_act.Goals as goal

pub invariant_of-self-2 : goal.invariant_of-self-2
invariant_of-self-2 c =
    let a = c.args in
    let l = a.self.now in
    record {
      ready = rw c.real_demand.ensures (ready_stored l.book a.consumer a.act c.consumer_place-place.result c.consumer_place-place.ensures.0 c.in_ok-settle_consumer.ensures l.total l.reals l.ready);
      summed = consumer_summed l.book l.summed a.consumer a.act c.in_ok-settle_consumer.ensures;
    }
