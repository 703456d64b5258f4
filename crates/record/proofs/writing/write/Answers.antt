-- By the refusal of the call, or of the buffer.
use mathlib.Core.Path.{sym, ◌∙◌}
use native.Mathlib.Omega.{arith}
use Rattle.std.proofs.lemmas.Result.{err_from_is_err_and}
use Rattle.quantities.specs.declared.refusals.Refusal.TheVariants.{ShortBuffer}
use Rattle.record.proofs.Writer.{write_short, write_whole, write_put, write_refused, write_kept}
use Rattle.record.proofs.writing.write.Goals as goal

pub returns-in_err-check_call : goal.returns-in_err-check_call
returns-in_err-check_call c =
    let a = c.args in
    let refusal = c.in_err-check_call.field-0.0 in
    let n = write_refused a.call a.readings.now a.out.now refusal c.in_err-check_call.ensures in
    let p = err_from_is_err_and c.from_residual.result c.from_residual.ensures.1 in
    (rw (p.1, p.2) n, write_kept a.call a.readings.now a.out.now refusal n)

pub returns-then-out-record_size : goal.returns-then-out-record_size
returns-then-out-record_size c =
    let a = c.args in
    let n = write_short a.call a.readings.now a.out.now (sym c.in_ok-check_call.ensures) (omega (arith, c.record_size.ensures)) in
    (sym n, write_kept a.call a.readings.now a.out.now ShortBuffer (sym n))

pub returns : goal.returns
returns c =
    let a = c.args in
    let n = write_whole a.call a.readings.now a.out.now (sym c.in_ok-check_call.ensures) (omega (arith, c.record_size.ensures)) in
    (sym n, c.put_record.ensures ∙ sym (write_put a.call a.readings.now a.out.now n))
