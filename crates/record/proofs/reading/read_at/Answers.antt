-- By the lengths compared and the mark found; a mark is a number of two bytes.
use mathlib.Core.Path.{sym, ap, ◌∙◌}
use native.Mathlib.Omega.{arith}
use Rattle.std.specs.Prelude.{Option}
use Rattle.basis.proofs.Numbers.{number_at_below}
use Rattle.table.specs.Records.{mark_at}
use Rattle.table.specs.declared.forms.Mark.{Mark}
use Rattle.record.specs.Reading.{read_found}
use Rattle.record.proofs.Reader.{at_two}
use Rattle.record.proofs.reading.read_at.Goals as goal

pub overflow_cast-number_at : goal.overflow_cast-number_at
overflow_cast-number_at c =
    let a = c.args in
    omega (arith, c.number_at.ensures, number_at_below 2 a.journal.now a.at (λ k. omega (arith, c.type_inv.journal k)))

pub returns-in-None : goal.returns-in-None
returns-in-None c =
    let a = c.args in
    let s = a.journal.now in
    ap (λ (f : Option Mark). read_found s a.at f) (sym c.in-None.is)
    ∙ at_two s a.at c.mark_at.result c.if-journal-at.false c.if-journal-at-lt2.false (c.mark_at.ensures ∙ ap mark_at c.number_at.ensures)

pub returns-in-Some : goal.returns-in-Some
returns-in-Some c =
    let a = c.args in
    let s = a.journal.now in
    c.read_each.ensures
    ∙ ap (λ (f : Option Mark). read_found s a.at f) (sym c.in-Some.is)
    ∙ at_two s a.at c.mark_at.result c.if-journal-at.false c.if-journal-at-lt2.false (c.mark_at.ensures ∙ ap mark_at c.number_at.ensures)
