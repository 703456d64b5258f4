-- The theorems on reading and writing.
use mathlib.Core.Path.{◌≡◌, sym, ap, ◌∙◌}
use mathlib.Core.Bool.{true}
use mathlib.Core.List.{List, ◌++◌, append_assoc}
use Prim.Native.Nat.{ℕ, ◌+◌, ◌-◌, ◌^◌, ◌≤◌, ◌<◌}
use native.Mathlib.Omega.{arith}
use borrow.Author.Tests.{ltb-true}
use lib.ListN.{length, take, drop, take-append-drop, length-append, length-take, length-drop}
use lib.Seq.{take_at, drop_at, drop-drop, take-add, take_all, length-take-le, take-append-le, drop-append-le}
use Rattle.std.specs.Prelude.{Some}
use Rattle.basis.specs.Numbers.{Bytes, number, bytes_of, number_at, written}
use Rattle.basis.specs.Sums.{sum}
use Rattle.basis.proofs.Numbers.{length-bytes_of, number-bytes_of, bytes_of-number, bytes_take, bytes_drop}
use Rattle.table.specs.Records.{table_of, parts_of, call_of, readings_size, fields_size, record_size, form_of, mark_at}
use Rattle.table.specs.Fields.{encode, decode}
use Rattle.table.specs.Ranges.{fields_in_range, call_number}
use Rattle.record.specs.Reading.{read_at, part_of}
use Rattle.record.specs.RoundTrip.{WrittenIsRead, ReadIsWritten, ReadIsPlaced, ReadIsAlone}
use Rattle.record.specs.Writing.{carried, record_of, written_by}
use Rattle.table.specs.declared.calls.Call.{Call}
use Rattle.table.specs.declared.forms.Mark.{Mark}
use Rattle.table.proofs.Codec.{length-encode, decode-encode, encode-decode, decode-append}
use Rattle.table.proofs.Laws.{in_range}
use Rattle.record.proofs.Reader.{part_of_lem}
use Rattle.record.proofs.Shows.{Shows, read_shows, shows_read}
use Rattle.table.proofs.Table.{lawful, of_parts, mark_found}
use Rattle.record.proofs.Writer.{length-carried, write_whole, write_put}

-- the mark of a call's record, and its fields
abbrev front : Call → List ℕ
front c = bytes_of 2 (form_of (parts_of c).mark).mark

abbrev fields : Call → List ℕ
fields c = encode (form_of (parts_of c).mark).widths (parts_of c).values

length_fields : (c : Call) → 2 + length (fields c) ≡ fields_size c
length_fields c =
    omega (arith, length-encode (form_of (parts_of c).mark).widths (parts_of c).values (of_parts c).count, (lawful (parts_of c).mark).size)

-- a call in range at the start of a list
module _ (c : Call) (rs : List ℕ) (e : call_number c rs ≡ 0) where
  carried-size : length (carried c rs) ≡ readings_size c
  carried-size = length-carried c rs ((of_parts c).lent rs (in_range c rs e).1)

  pub length-record : length (record_of c rs) ≡ record_size c
  unfolding record_of
  length-record =
      length-append (front c) (fields c ++ carried c rs)
      ∙ omega (arith, length-append (fields c) (carried c rs), length-bytes_of 2 (form_of (parts_of c).mark).mark, length_fields c, carried-size)

  module _ (rest : List ℕ) where
    all : List ℕ
    all = front c ++ (fields c ++ (carried c rs ++ rest))

    all_record : record_of c rs ++ rest ≡ all
    unfolding record_of all
    all_record = simp append_assoc

    -- the mark is found
    all_found : mark_at (number_at 2 all 0) ≡ Some (parts_of c).mark
    unfolding all
    all_found =
        let f = lawful (parts_of c).mark in
        let k : ℕ = (form_of (parts_of c).mark).mark in
        let b : k < 256 ^ 2 = omega (arith, ltb-true k 65536 f.pair) in
        rw (take_at (front c) (fields c ++ (carried c rs ++ rest)) 2 (length-bytes_of 2 k), number-bytes_of 2 k b) f.found

    -- the fields are the call's
    all_call : c ≡ call_of (parts_of c).mark (decode (form_of (parts_of c).mark).widths (drop 2 all))
    unfolding all form_of
    all_call =
        let f = form_of (parts_of c).mark in
        let l = lawful (parts_of c).mark in
        let r = (in_range c rs e).0 in
        let d =
        decode-encode (table_of (parts_of c).mark).columns (parts_of c).values (carried c rs ++ rest) ((of_parts c).count ∙ l.widths_count ∙ sym l.columns_count) l.fits r
        in
        rw (drop_at (front c) (fields c ++ (carried c rs ++ rest)) 2 (length-bytes_of 2 f.mark), d) (sym ((of_parts c).again r))

    all_size : record_size c ≤ length all
    all_size = omega (arith, ap length all_record, length-append (record_of c rs) rest, length-record)

    all_shows : Shows all 0 c (fields_size c) (record_size c)
    all_shows =
        record {
          mark = (parts_of c).mark;
          found = all_found;
          call = all_call;
          start = omega arith;
          behind = omega arith;
          there = all_size;
        }

    all_part : part_of all (fields_size c) (record_size c) ≡ carried c rs
    unfolding all
    all_part =
        let z : length (front c ++ fields c) ≡ fields_size c = length-append (front c) (fields c) ∙ omega (arith, length-bytes_of 2 (form_of (parts_of c).mark).mark, length_fields c) in
        let n : record_size c - fields_size c ≡ readings_size c = omega arith in
        sym (part_of_lem all (fields_size c) (record_size c) (omega arith) all_size)
        ∙ rw (n, ← append_assoc (front c) (fields c) (carried c rs ++ rest), drop_at (front c ++ fields c) (carried c rs ++ rest) (fields_size c) z, take_at (carried c rs) rest (readings_size c) carried-size)

-- a call in range, written to a buffer that is long enough, reads back
pub written_is_read : WrittenIsRead
written_is_read c rs out e h =
    let n = write_whole c rs out e h in
    let rest : List ℕ = drop (0 + length (record_of c rs)) out in
    let l = length-record c rs e in
    let k : 0 + length (record_of c rs) ≡ record_size c = omega arith in
    let w : written_by c rs out ≡ record_of c rs ++ rest = write_put c rs out n in
    let a : written_by c rs out ≡ all c rs e rest = w ∙ all_record c rs e rest in
    record {
      accepted = n;
      read = ap (λ (s : List ℕ). read_at s 0) a ∙ shows_read (all c rs e rest) 0 c (fields_size c) (record_size c) (all_shows c rs e rest);
      with_readings = ap (λ (s : List ℕ). part_of s (fields_size c) (record_size c)) a ∙ all_part c rs e rest;
      behind = ap (λ (s : List ℕ). drop (record_size c) s) w ∙ drop_at (record_of c rs) rest (record_size c) l ∙ ap (λ j. drop j out) k;
    }

-- a record that was read
module _ (s : List ℕ) (at : ℕ) (c : Call) (from next : ℕ) (w : Shows s at c from next) where
  size_law : (form_of w.mark).size ≡ 2 + sum (form_of w.mark).widths
  size_law = (lawful w.mark).size

  -- its bytes are those of mark, fields and readings
  read-bytes : part_of s at next ≡ take 2 (drop at s) ++ (take (sum (form_of w.mark).widths) (drop (at + 2) s) ++ part_of s from next)
  read-bytes =
      let k : ℕ = sum (form_of w.mark).widths in
      let n : next - at ≡ 2 + (k + (next - from)) = omega (arith, size_law, w.start, w.behind) in
      let f : from ≡ at + 2 + k = omega (arith, size_law, w.start) in
      sym (part_of_lem s at next (omega (arith, w.behind)) w.there)
      ∙ rw (n, take-add 2 (k + (next - from)) (drop at s), drop-drop 2 at s, take-add k (next - from) (drop (at + 2) s), drop-drop k (at + 2) s, ← f, part_of_lem s from next (omega (arith, w.start, w.behind)) w.there)

  -- in range, the record of the call is that which was read, and so are its values
  mark_again : fields_in_range c ≡ true → (parts_of c).mark ≡ w.mark
  mark_again e =
      ap (λ (d : Call). (parts_of d).mark) w.call
      ∙ (lawful w.mark).marked (decode (form_of w.mark).widths (drop (at + 2) s)) (ap fields_in_range (sym w.call) ∙ e)

  values_again : fields_in_range c ≡ true → (parts_of c).values ≡ decode (form_of w.mark).widths (drop (at + 2) s)
  values_again e =
      ap (λ (d : Call). (parts_of d).values) w.call
      ∙ (lawful w.mark).values (drop (at + 2) s) (ap fields_in_range (sym w.call) ∙ e)

  -- the record of the call that was read
  record_again : Bytes s → call_number c (part_of s from next) ≡ 0 → record_of c (part_of s from next) ≡ part_of s at next
  unfolding record_of
  record_again h e =
      let rs : List ℕ = part_of s from next in
      let ws : List ℕ = (form_of w.mark).widths in
      let i = (in_range c rs e).0 in
      let p = part_of_lem s from next (omega (arith, w.start, w.behind)) w.there in
      let lr : length rs ≤ readings_size c = omega (arith, ap length (sym p), length-take (next - from) (drop from s), w.start, w.behind) in
      let r : carried c rs ≡ rs = take_all (readings_size c) rs lr in
      let two : length (take 2 (drop at s)) ≡ 2 = length-take-le 2 (drop at s) (omega (arith, length-drop at s, size_law, w.behind, w.there)) in
      let mk : bytes_of 2 (form_of w.mark).mark ≡ take 2 (drop at s) =
      ap (λ x. bytes_of 2 x) (mark_found (number_at 2 s at) w.mark w.found)
      ∙ ap (λ n. bytes_of n (number (take 2 (drop at s)))) (sym two)
      ∙ bytes_of-number (take 2 (drop at s)) (bytes_take 2 (drop at s) (bytes_drop at s h)) in
      let fs : encode ws (decode ws (drop (at + 2) s)) ≡ take (sum ws) (drop (at + 2) s) =
      encode-decode ws (drop (at + 2) s) (bytes_drop (at + 2) s h) (omega (arith, length-drop (at + 2) s, size_law, w.behind, w.there)) in
      rw (mark_again i, values_again i, r, mk, fs) (sym read-bytes)

-- a record read with its fields in range is written again to its own bytes
pub read_is_written : ReadIsWritten
read_is_written s at c from next out h r e k =
    let w = read_shows s at c from next r in
    let z = record_again s at c from next w h e in
    let n : record_size c ≤ length out =
    omega (arith, w.behind, ap (λ (m : Mark). (form_of m).size) (mark_again s at c from next w (in_range c (part_of s from next) e).0)) in
    let a = write_whole c (part_of s from next) out e n in
    record {
      accepted = a;
      bytes = write_put c (part_of s from next) out a ∙ ap (λ (x : List ℕ). written out 0 x) z;
    }

-- a read record's next place is beyond its start and within the journal
pub read_is_placed : ReadIsPlaced
read_is_placed s at c from next r =
    let w = read_shows s at c from next r in
    let z = (lawful w.mark).size in
    record {
      beyond = omega (arith, z, w.behind);
      within = w.there;
      readings_beyond = omega (arith, z, w.start);
      readings_within = omega (arith, w.start, w.behind);
    }

-- what is read of a list that goes on is what is read of its front
module _ (p more : List ℕ) (at : ℕ) where
  same_mark : at + 2 ≤ length p → number_at 2 (p ++ more) at ≡ number_at 2 p at
  same_mark h = rw (drop-append-le at p more (omega arith), take-append-le 2 (drop at p) more (omega (arith, length-drop at p)))

  same_fields : (ws : List ℕ) → at + 2 + sum ws ≤ length p → decode ws (drop (at + 2) (p ++ more)) ≡ decode ws (drop (at + 2) p)
  same_fields ws h =
      rw (drop-append-le (at + 2) p more (omega arith), decode-append ws (drop (at + 2) p) more (omega (arith, length-drop (at + 2) p)))

  module _ (c : Call) (from next : ℕ) (h : next ≤ length p) where
    longer_shows : Shows p at c from next → Shows (p ++ more) at c from next
    longer_shows w =
        let z = (lawful w.mark).size in
        record {
          mark = w.mark;
          found = ap mark_at (same_mark (omega (arith, z, w.behind))) ∙ w.found;
          call =
              w.call ∙ ap (λ (v : List ℕ). call_of w.mark v) (sym (same_fields (form_of w.mark).widths (omega (arith, z, w.behind))));
          start = w.start;
          behind = w.behind;
          there = omega (arith, length-append p more);
        }

    shorter_shows : Shows (p ++ more) at c from next → Shows p at c from next
    shorter_shows w =
        let z = (lawful w.mark).size in
        record {
          mark = w.mark;
          found = ap mark_at (sym (same_mark (omega (arith, z, w.behind)))) ∙ w.found;
          call =
              w.call ∙ ap (λ (v : List ℕ). call_of w.mark v) (same_fields (form_of w.mark).widths (omega (arith, z, w.behind)));
          start = w.start;
          behind = w.behind;
          there = h;
        }

    same_part : from ≤ next → part_of (p ++ more) from next ≡ part_of p from next
    same_part k =
        sym (part_of_lem (p ++ more) from next k (omega (arith, length-append p more)))
        ∙ rw (drop-append-le from p more (omega arith), take-append-le (next - from) (drop from p) more (omega (arith, length-drop from p)))
        (part_of_lem p from next k h)

-- the reading of a record does not depend on what follows it
pub read_is_alone : ReadIsAlone
read_is_alone s at c from next more r =
    let w = read_shows s at c from next r in
    let p : List ℕ = take next s in
    let l : length p ≡ next = length-take-le next s w.there in
    let h : next ≤ length p = omega arith in
    let k : from ≤ next = omega (arith, w.start, w.behind) in
    let cut : p ++ drop next s ≡ s = take-append-drop next s in
    let v : Shows p at c from next =
    shorter_shows p (drop next s) at c from next h (rw cut w) in
    record {
      longer = shows_read (s ++ more) at c from next (longer_shows s more at c from next w.there w);
      other = shows_read (p ++ more) at c from next (longer_shows p more at c from next h v);
      longer_readings = same_part s more at c from next w.there k;
      other_readings =
          same_part p more at c from next h k
          ∙ sym (same_part p (drop next s) at c from next h k)
          ∙ ap (λ (x : List ℕ). part_of x from next) cut;
    }
