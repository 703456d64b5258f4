-- `book::settlement::settle_contract_by` meets its contract: what was decided, stored in its cell. Assumes nothing.
use Rattle.std.proofs.Common.{◌≡◌, ◌<◌, ℕ, get_or, refl, sym, ap, ◌∙◌, arith}
use Rattle.std.proofs.lemmas.Result.{err_from_is_err_and}
use Rattle.quantities.specs.Limits.{consumers}
use Rattle.quantities.specs.Refusals.{Decided, Stored}
use Rattle.table.specs.declared.contracts.ContractCall.{ContractCall}
use Rattle.state.specs.declared.kept.Book.{Book}
use Rattle.state.specs.Places.{place_of}
use Rattle.state.specs.State.{fresh_consumer, cells}
use Rattle.decision.specs.declared.contracts.Balance.{Balance}
use Rattle.decision.specs.ContractCalls.{contract_of, contract_answer_of}
use Rattle.decision.proofs.Settled.{settled_balance, contract_settled, cell_within}
use Rattle.book.proofs.settlement.settle_contract_by.Goals as goal

module _ (b : Book) (producer consumer : ℕ) (act : ContractCall) (place : ℕ) {answer : Decided Balance} (e : answer ≡ contract_answer_of producer consumer act b.stage (get_or b.consumers place fresh_consumer).declaration b.balances b.limits) where
  -- an answer that is stored is the reply
  settled : place ≡ place_of consumers consumer → settled_balance b answer ≡ contract_of b producer consumer act
  settled p = ap (settled_balance b) e ∙ contract_settled b producer consumer act place p

  -- a cell that is stored at is one of the book
  within : (x : Balance) → answer ≡ Stored x → x.cell < cells
  within x k =
      cell_within producer consumer act b.stage (get_or b.consumers place fresh_consumer).declaration b.balances b.limits x (sym e ∙ k)

pub returns-in_err-settled : goal.returns-in_err-settled
returns-in_err-settled c =
    let a = c.args in
    let p = err_from_is_err_and c.from_residual.result c.from_residual.ensures.1 in
    rw (p.1, p.2) (settled a.book.now a.producer a.consumer a.act c.consumer_place.result c.in_err-settled.ensures c.consumer_place.ensures.0)

pub offset_bounds-book-settled : goal.offset_bounds-book-settled
offset_bounds-book-settled c =
    let a = c.args in
    omega (arith, within a.book.now a.producer a.consumer a.act c.consumer_place.result c.in_ok-settled.ensures c.in_ok-settled.settled refl)

pub bounds-book-settled : goal.bounds-book-settled
bounds-book-settled c =
    let a = c.args in
    omega (arith, within a.book.now a.producer a.consumer a.act c.consumer_place.result c.in_ok-settled.ensures c.in_ok-settled.settled refl)

pub returns : goal.returns
returns c =
    let a = c.args in
    settled a.book.now a.producer a.consumer a.act c.consumer_place.result c.in_ok-settled.ensures c.consumer_place.ensures.0
