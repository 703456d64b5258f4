-- By the lengths compared.
use mathlib.Core.Path.{ap}
use native.Mathlib.Omega.{arith}
use Rattle.table.specs.declared.forms.Form.{Form}
use Rattle.table.proofs.Table.{lawful}
use Rattle.record.proofs.Reader.{cut_fields, fields_call, cut-readings, whole-record}
use Rattle.record.proofs.reading.read_marked.Goals as goal

pub returns-then-left-size : goal.returns-then-left-size
returns-then-left-size c =
    let a = c.args in
    cut_fields a.journal.now a.at a.mark c.form_of-size.result.size (ap (λ (f : Form). f.size) c.form_of-size.ensures) c.if-left-size.true

pub slice_bounds-call_of-count : goal.slice_bounds-call_of-count
slice_bounds-call_of-count c = omega (arith, ap (λ (f : Form). f.size) c.form_of-size.ensures, (lawful c.args.mark).size)

pub slice_bounds-call_of-start : goal.slice_bounds-call_of-start
slice_bounds-call_of-start c = omega (arith, ap (λ (f : Form). f.size) c.form_of-size.ensures, (lawful c.args.mark).size)

pub returns-then-left-size-2 : goal.returns-then-left-size-2
returns-then-left-size-2 c =
    let a = c.args in
    let s = a.journal.now in
    let z = ap (λ (f : Form). f.size) c.form_of-size.ensures in
    let k = c.call_of-call in
    cut-readings s a.at a.mark c.form_of-size.result.size z k.result c.readings_size-more.result
    (fields_call s a.at a.mark c.form_of-size.result.size z c.if-left-size.false k.result c.requires k.ensures)
    c.readings_size-more.ensures.value c.if-left-size.false c.if-left-size-2.true

pub returns : goal.returns
returns c =
    let a = c.args in
    let s = a.journal.now in
    let z = ap (λ (f : Form). f.size) c.form_of-size.ensures in
    let k = c.call_of-call in
    whole-record s a.at a.mark c.form_of-size.result.size z k.result c.readings_size-more.result
    (fields_call s a.at a.mark c.form_of-size.result.size z c.if-left-size.false k.result c.requires k.ensures)
    c.readings_size-more.ensures.value c.if-left-size.false c.if-left-size-2.false
