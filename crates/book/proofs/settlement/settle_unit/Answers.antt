-- `book::settlement::settle_unit` meets its contract: what was decided, stored at its place. Assumes nothing.
use Rattle.std.proofs.Common.{◌≡◌, ℕ, List, get_or, ap, ◌∙◌}
use Rattle.std.proofs.lemmas.Result.{err_from_is_err_and}
use Rattle.quantities.specs.Limits.{units}
use Rattle.quantities.specs.Refusals.{Decided}
use Rattle.table.specs.declared.units.UnitCall.{UnitCall}
use Rattle.state.specs.declared.kept.Unit.{Unit}
use Rattle.state.specs.declared.kept.Book.{Book}
use Rattle.state.specs.Places.{place_of}
use Rattle.state.specs.State.{fresh_unit}
use Rattle.gathering.specs.Units.{unit_of, unit_answer_of}
use Rattle.gathering.proofs.Settled.{settled_unit, unit_settled}
use Rattle.book.proofs.settlement.settle_unit.Goals as goal

-- an answer that is stored is the reply
settled : (b : Book) (unit : ℕ) (act : UnitCall) (rs : List ℕ) {place : ℕ} {answer : Decided Unit} → place ≡ place_of units unit → answer ≡ unit_answer_of unit act b.stage (get_or b.units place fresh_unit) rs → settled_unit b place answer ≡ unit_of b unit act rs
settled b unit act rs {place} p e = ap (settled_unit b place) e ∙ unit_settled b unit act rs place p

pub returns-in_err-book : goal.returns-in_err-book
returns-in_err-book c =
    let a = c.args in
    let p = err_from_is_err_and c.from_residual.result c.from_residual.ensures.1 in
    rw (p.1, p.2) (settled a.book.now a.unit a.act a.readings.now c.unit_place-place.ensures.0 c.in_err-book.ensures)

pub returns : goal.returns
returns c =
    let a = c.args in
    settled a.book.now a.unit a.act a.readings.now c.unit_place-place.ensures.0 c.in_ok-book.ensures
