-- The fields of a record have few bytes.
use Rattle.std.proofs.Common.{◌≡◌, ◌<◌, ◌∙◌, arith, rules, ap, length}
use Rattle.basis.specs.Sums.{sum}
use Rattle.basis.proofs.Made.{mapped}
use Rattle.table.specs.Records.{most_fields}
use Rattle.table.specs.declared.columns.Column.{Column}
use Rattle.table.specs.declared.lines.Line.{Line}
use Rattle.table.proofs.Table.{lawful, widths_small}
use Rattle.table.proofs.records.form_of.Goals as goal

pub sum-requires-clause-fits : goal.sum-requires-clause-fits
sum-requires-clause-fits c =
    let line = c.line_of-line in
    let count : length line.result.columns ≡ most_fields = ap (λ (l : Line). length l.columns) line.ensures ∙ (lawful c.args.mark).columns_count in
    let e = mapped _ (λ (f : Column). f.width) _ (λ x y q called. search rules) line.result.columns c.map-widths.result most_fields count c.map-widths.ensures.items in
    let h : sum c.map-widths.result < 254 = rw (e, line.ensures) (widths_small c.args.mark) in
    search rules

pub overflow_add-result : goal.overflow_add-result
overflow_add-result c =
    let line = c.line_of-line in
    let count : length line.result.columns ≡ most_fields = ap (λ (l : Line). length l.columns) line.ensures ∙ (lawful c.args.mark).columns_count in
    let e = mapped _ (λ (f : Column). f.width) _ (λ x y q called. search rules) line.result.columns c.map-widths.result most_fields count c.map-widths.ensures.items in
    let h : sum c.map-widths.result < 254 = rw (e, line.ensures) (widths_small c.args.mark) in
    let k : c.sum.result ≡ sum c.map-widths.result = search rules in
    omega arith
