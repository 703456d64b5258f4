-- Each turn adds the next value and leaves its bytes.
use mathlib.Core.Path.{sym, ap, ◌∙◌}
use Prim.Native.Nat.{◌≤◌}
use native.Mathlib.Omega.{arith}
use lib.ListN.{get_or, length-set}
use lib.Seq.{take_all}
use Rattle.basis.specs.Numbers.{number}
use Rattle.table.specs.Fields.{decode}
use Rattle.table.specs.Records.{widest}
use Rattle.table.specs.declared.forms.Form.{Form}
use Rattle.table.proofs.Codec.{decode_turn, length-decode}
use Rattle.table.proofs.Table.{narrow_widths}
use Rattle.table.proofs.records.decode.Goals as goal

pub number_of-requires : goal.number_of-requires
number_of-requires c =
    let w : get_or c.form_of.result.widths c.loop-i.i 0 ≤ widest = narrow_widths c.args.mark c.form_of.ensures c.loop-i.i in
    omega (arith, c.min.ensures, c.split_at.ensures.front_len)

pub loop-i-preserved : goal.loop-i-preserved
loop-i-preserved c =
    let i = c.loop-i.invariant in
    let parts = c.split_at.ensures in
    let t =
    decode_turn c.form_of.result.widths c.loop-i.rest.now c.loop-i.values (decode c.form_of.result.widths c.args.fields.now) c.loop-i.i c.min.result c.number_of.result
    (omega arith) (omega arith) (length-decode c.form_of.result.widths c.args.fields.now) i.passed i.left c.min.ensures (c.number_of.ensures ∙ ap number parts.front) in
    record {
      widths_count = i.widths_count;
      values_count = length-set c.loop-i.values c.loop-i.i c.number_of.result ∙ i.values_count;
      passed = t.0;
      left = rw parts.back t.1;
    }

pub returns : goal.returns
returns c =
    let i = c.loop-i.invariant in
    let all = decode c.form_of.result.widths c.args.fields.now in
    sym (take_all c.loop-i.i c.loop-i.values (omega arith))
    ∙ i.passed
    ∙ take_all c.loop-i.i all (omega (arith, length-decode c.form_of.result.widths c.args.fields.now))
    ∙ ap (λ (f : Form). decode f.widths c.args.fields.now) c.form_of.ensures
