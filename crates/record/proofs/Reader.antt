-- What stands at a place, case by case.
use mathlib.Core.Path.{◌≡◌, ap, ◌∙◌}
use mathlib.Core.List.{List}
use Prim.Native.Nat.{ℕ, ◌+◌, ◌-◌, ◌≤◌, ◌<◌}
use native.Mathlib.Omega.{arith}
use borrow.Author.Tests.{le-leb, lt-leb, lt-ltb, le-ltb}
use lib.ListN.{length, take, drop, length-drop}
use lib.Seq.{length-take-le}
use Rattle.basis.specs.Numbers.{number_at}
use Rattle.basis.specs.Sums.{sum}
use Rattle.table.specs.Records.{call_of, readings_size, form_of, mark_at}
use Rattle.table.specs.Fields.{decode}
use Rattle.record.specs.Reading.{read_call, read_marked, read_found, read_at, part_of}
use Rattle.table.specs.declared.calls.Call.{Call}
use Rattle.std.specs.Prelude.{Option}
use Rattle.table.specs.declared.forms.Mark.{Mark}
use Rattle.record.specs.declared.reading.Read.TheVariants.{End, Cut, Record}
use Rattle.table.proofs.Codec.{decode_part}
use Rattle.table.proofs.Table.{lawful}

pub at_end : (s : List ℕ) (at : ℕ) → length s ≤ at → End ≡ read_at s at
unfolding read_at
at_end s at h = rw (le-leb (length s) at h)

pub at_one : (s : List ℕ) (at : ℕ) → at < length s → length s - at < 2 → Cut ≡ read_at s at
unfolding read_at
at_one s at h k = rw (lt-leb (length s) at h, lt-ltb (length s - at) 2 k)

pub at_two : (s : List ℕ) (at : ℕ) (f : Option Mark) → at < length s → 2 ≤ length s - at → f ≡ mark_at (number_at 2 s at) → read_found s at f ≡ read_at s at
unfolding read_at
at_two s at f h k e = rw (lt-leb (length s) at h, le-ltb (length s - at) 2 k, e)

module _ (s : List ℕ) (at : ℕ) (m : Mark) (size : ℕ) (type_size : size ≡ (form_of m).size) where
  -- the fields are not there
  pub cut_fields : length s - at < size → Cut ≡ read_marked s at m
  unfolding read_marked
  cut_fields h = rw (lt-ltb (length s - at) (form_of m).size (omega (arith, type_size)))

  module _ (h : size ≤ length s - at) where
    -- the part of the journal that holds the fields has their bytes
    fields_size_lem : at < length s → length (take (at + size - (at + 2)) (drop (at + 2) s)) ≡ sum (form_of m).widths
    fields_size_lem k =
        let z : size ≡ 2 + sum (form_of m).widths = type_size ∙ (lawful m).size in
        length-take-le (at + size - (at + 2)) (drop (at + 2) s) (omega (arith, length-drop (at + 2) s)) ∙ omega arith

    -- so the call of those bytes is that of the journal
    pub fields_call : (c : Call) → at < length s →
        c ≡ call_of m (decode (form_of m).widths (take (at + size - (at + 2)) (drop (at + 2) s))) →
        c ≡ call_of m (decode (form_of m).widths (drop (at + 2) s))
    fields_call c k ec =
        ec
        ∙ ap (call_of m) (decode_part (form_of m).widths (drop (at + 2) s) (at + size - (at + 2)) (omega (arith, fields_size_lem k)))

  module _ (c : Call) (n : ℕ)
      (ec : c ≡ call_of m (decode (form_of m).widths (drop (at + 2) s))) (en : n ≡ readings_size c) (h : size ≤ length s - at) where
    read-call : read_call s at (form_of m).size c ≡ read_marked s at m
    unfolding read_marked
    read-call =
        rw (le-ltb (length s - at) (form_of m).size (omega (arith, type_size)))
        (ap (λ (d : Call). read_call s at (form_of m).size d) ec)

    -- the readings are not there
    pub cut-readings : length s - at - size < n → Cut ≡ read_marked s at m
    unfolding read_call
    cut-readings k =
        rw (lt-ltb (length s - at) ((form_of m).size + readings_size c) (omega (arith, type_size))) at read-call

    -- all is there
    pub whole-record : n ≤ length s - at - size → Record c (at + size) (at + size + n) ≡ read_marked s at m
    unfolding read_call
    whole-record k =
        rw (type_size, en)
        (rw (le-ltb (length s - at) ((form_of m).size + readings_size c) (omega (arith, type_size))) at read-call)

pub part_of_lem : (s : List ℕ) (from to : ℕ) → from ≤ to → to ≤ length s → take (to - from) (drop from s) ≡ part_of s from to
unfolding part_of
part_of_lem s from to h k = rw (le-leb from to h, le-leb to (length s) k)
