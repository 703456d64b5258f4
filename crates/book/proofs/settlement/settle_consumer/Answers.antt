-- `book::settlement::settle_consumer` meets its contract: what was decided, stored at its place. Assumes nothing.
use Rattle.std.proofs.Common.{◌≡◌, ℕ, get_or, ap, ◌∙◌}
use Rattle.std.proofs.lemmas.Result.{err_from_is_err_and}
use Rattle.quantities.specs.Limits.{consumers}
use Rattle.quantities.specs.Refusals.{Decided}
use Rattle.table.specs.declared.consumers.ConsumerCall.{ConsumerCall}
use Rattle.state.specs.declared.kept.Consumer.{Consumer}
use Rattle.state.specs.declared.kept.Book.{Book}
use Rattle.state.specs.Places.{place_of}
use Rattle.state.specs.State.{fresh_consumer}
use Rattle.decision.specs.Consumers.{consumer_of, consumer_answer_of}
use Rattle.decision.proofs.Settled.{settled_consumer, consumer_settled}
use Rattle.book.proofs.settlement.settle_consumer.Goals as goal

-- an answer that is stored is the reply
settled : (b : Book) (consumer : ℕ) (act : ConsumerCall) {place : ℕ} {answer : Decided Consumer} → place ≡ place_of consumers consumer → answer ≡ consumer_answer_of consumer act b.stage (get_or b.consumers place fresh_consumer) → settled_consumer b place answer ≡ consumer_of b consumer act
settled b consumer act {place} p e = ap (settled_consumer b place) e ∙ consumer_settled b consumer act place p

pub returns-in_err-book : goal.returns-in_err-book
returns-in_err-book c =
    let a = c.args in
    let p = err_from_is_err_and c.from_residual.result c.from_residual.ensures.1 in
    rw (p.1, p.2) (settled a.book.now a.consumer a.act c.consumer_place-place.ensures.0 c.in_err-book.ensures)

pub returns : goal.returns
returns c =
    let a = c.args in
    settled a.book.now a.consumer a.act c.consumer_place-place.ensures.0 c.in_ok-book.ensures
