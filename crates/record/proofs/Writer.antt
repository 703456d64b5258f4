-- Pieces written one after the other, and the numbers of the writer.
use mathlib.Core.Path.{◌≡◌, refl, sym, ap, ◌∙◌}
use mathlib.Core.List.{List, ◌++◌}
use Prim.Native.Nat.{ℕ, ◌+◌, ◌≤◌, ◌<◌}
use native.Mathlib.Omega.{arith}
use borrow.Author.Tests.{lt-ltb, le-ltb}
use lib.Dec.{ltb}
use lib.ListN.{length}
use lib.Seq.{length-take-le}
use Rattle.basis.specs.Choice.{pick}
use Rattle.basis.specs.Numbers.{bytes_of, written}
use Rattle.basis.specs.Sums.{sum}
use Rattle.basis.proofs.Numbers.{written-append, length-written, length-bytes_of}
use Rattle.quantities.specs.Refusals.{refusal_number}
use Rattle.quantities.specs.declared.refusals.Refusal.{Refusal}
use Rattle.quantities.proofs.RefusalLaws.{refusing, refused_before}
use Rattle.table.specs.Records.{parts_of, form_of, readings_size, record_size}
use Rattle.table.specs.Fields.{encode}
use Rattle.table.specs.Ranges.{call_number, fields_of}
use Rattle.record.specs.Writing.{carried, record_of, write_number, written_by}
use Rattle.table.specs.declared.calls.Call.{Call}
use Rattle.table.specs.declared.forms.Fields.{Fields}
use Rattle.table.specs.declared.forms.Form.{Form}
use Rattle.table.proofs.Codec.{length-encode}
use Rattle.table.proofs.Table.{lawful, of_parts}

-- three pieces at the start of a buffer
pub three_written : (out a b c : List ℕ) (p q : ℕ) → length a ≡ p → p + length b ≡ q → q ≤ length out → written (written (written out 0 a) p b) q c ≡ written out 0 (a ++ (b ++ c))
three_written out a b c p q h k r =
    let one : List ℕ = written out 0 a in
    let l : length one ≡ length out = length-written out 0 a (omega arith) in
    let z : 0 + length a ≡ p = omega arith in
    sym
    (written-append out 0 a (b ++ c) (omega arith)
    ∙ ap (λ n. written one n (b ++ c)) z
    ∙ written-append one p b c (omega arith)
    ∙ ap (λ n. written (written one p b) n c) k)

-- a record carries as many bytes of the lent readings as the call says
pub length-carried : (c : Call) (rs : List ℕ) → readings_size c ≤ length rs → length (carried c rs) ≡ readings_size c
length-carried c rs l = length-take-le (readings_size c) rs l

-- a record has room for its mark, its fields and its readings
pub room : (c : Call) {f : Fields} → f ≡ fields_of c → (f.form.size ≡ 2 + sum f.form.widths) × (f.form.size + readings_size c ≡ record_size c)
unfolding fields_of
room c e = rw e ((lawful (parts_of c).mark).size, refl)

-- a record put together of its call's fields, with as many bytes of readings as the call says
pub record_put : (c : Call) (rs out : List ℕ) {f : Fields} → f ≡ fields_of c → record_size c ≤ length out → readings_size c ≤ length rs →
    written (written (written out 0 (bytes_of 2 f.form.mark)) 2 (encode f.form.widths f.values)) f.form.size (carried c rs) ≡ written out 0 (record_of c rs)
unfolding fields_of record_of
record_put c rs out e h l =
    let m : Form = form_of (parts_of c).mark in
    let vs : List ℕ = (parts_of c).values in
    let z = (lawful (parts_of c).mark).size in
    rw e
    (three_written out (bytes_of 2 m.mark) (encode m.widths vs) (carried c rs) 2 m.size
    (length-bytes_of 2 m.mark)
    (omega (arith, length-encode m.widths vs (of_parts c).count))
    (omega (arith, length-carried c rs l)))

-- the numbers of the writer, and the buffer under each
module _ (c : Call) (rs out : List ℕ) where
  pub write_short : call_number c rs ≡ 0 → length out < record_size c → write_number c rs (length out) ≡ 15
  unfolding write_number
  write_short e h = rw (e, lt-ltb (length out) (record_size c) h)

  pub write_whole : call_number c rs ≡ 0 → record_size c ≤ length out → write_number c rs (length out) ≡ 0
  unfolding write_number
  write_whole e h = rw (e, le-ltb (length out) (record_size c) h)

  pub write_put : write_number c rs (length out) ≡ 0 → written_by c rs out ≡ written out 0 (record_of c rs)
  unfolding written_by
  write_put e = rw e

  -- a refusal
  pub write_refused : (refusal : Refusal) → refusal_number refusal ≡ call_number c rs → refusal_number refusal ≡ write_number c rs (length out)
  unfolding write_number
  write_refused refusal e = refused_before refusal (call_number c rs) (pick (ltb (length out) (record_size c)) 15 0) e

  pub write_kept : (refusal : Refusal) → refusal_number refusal ≡ write_number c rs (length out) → out ≡ written_by c rs out
  unfolding written_by
  write_kept refusal e = rw (← e, refusing refusal)
