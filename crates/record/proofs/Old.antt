-- What stands at a place reads as it did, but where a mark for consumers above 64 stands.
use mathlib.Core.Path.{◌≡◌, refl, sym, ap, ◌∙◌}
use mathlib.Core.Bool.{Bool, true, false, false≢true}
use mathlib.Core.List.{List}
use Prim.Native.Nat.{ℕ, ◌+◌, ◌-◌}
use lib.Dec.{leb, ltb}
use lib.ListN.{length, drop}
use Rattle.std.specs.Prelude.{Option, None, Some}
use Rattle.basis.specs.Choice.{pick}
use Rattle.basis.specs.Numbers.{number_at}
use Rattle.table.specs.Records.{is_wide, mark_at, form_of, table_of, parts_of, call_of, readings_size}
use Rattle.table.specs.Fields.{decode}
use Rattle.table.specs.Old.{old_mark_at, old_call_of, renewed}
use Rattle.table.specs.declared.calls.Call.{Call}
use Rattle.table.specs.declared.calls.Call.TheVariants.{Year, Fix, Close, Unit, Consumer, Contract}
use Rattle.table.specs.declared.units.UnitCall.TheVariants.{Enrol, Test, Availability}
use Rattle.table.specs.declared.consumers.ConsumerCall.TheVariants.{Declare, Meter, Mean}
use Rattle.table.specs.declared.contracts.ContractCall.TheVariants.{Commit, Release}
use Rattle.table.specs.declared.forms.ConsumerField.TheVariants.{Narrow, Wide}
use Rattle.table.specs.declared.forms.Mark.{Mark}
use Rattle.table.specs.declared.forms.Mark.TheVariants as mark
use Rattle.table.proofs.Old.{old_found, old_unfound}
use Rattle.record.specs.declared.reading.Read.{Read}
use Rattle.record.specs.declared.reading.Read.TheVariants.{End, Cut, Record}
use Rattle.record.specs.Reading.{read_call, read_marked, read_found, read_at, is_wide_mark, wide_at}
use Rattle.record.specs.Old.{old_read_marked, old_read_found, old_read_at, renewed_read, ReadsAsBefore}

-- the call of an old record is now the one that is renewed
call_renewed : (m : Mark) (v : List ℕ) → is_wide m ≡ false → call_of m v ≡ renewed (old_call_of m v)
unfolding call_of
call_renewed mark.Year v h = refl
call_renewed mark.Enrol v h = refl
call_renewed mark.Test v h = refl
call_renewed mark.Availability v h = refl
call_renewed (mark.Declare Narrow) v h = refl
call_renewed (mark.Declare Wide) v h = absurd (false≢true (sym h))
call_renewed mark.Fix v h = refl
call_renewed (mark.Commit Narrow) v h = refl
call_renewed (mark.Commit Wide) v h = absurd (false≢true (sym h))
call_renewed (mark.Release Narrow) v h = refl
call_renewed (mark.Release Wide) v h = absurd (false≢true (sym h))
call_renewed (mark.Meter Narrow) v h = refl
call_renewed (mark.Meter Wide) v h = absurd (false≢true (sym h))
call_renewed mark.Close v h = refl
call_renewed (mark.Mean Narrow) v h = refl
call_renewed (mark.Mean Wide) v h = absurd (false≢true (sym h))

-- and has the same readings
size_renewed : (c : Call) → readings_size (renewed c) ≡ readings_size c
unfolding readings_size table_of parts_of
size_renewed (Year h) = refl
size_renewed (Fix dmp) = refl
size_renewed (Close p) = refl
size_renewed (Unit unit (Enrol e)) = refl
size_renewed (Unit unit (Test component t)) = refl
size_renewed (Unit unit (Availability component m)) = refl
size_renewed (Consumer consumer (Declare d a)) = refl
size_renewed (Consumer consumer (Meter dreal)) = refl
size_renewed (Consumer consumer (Mean mean)) = refl
size_renewed (Contract producer consumer (Commit q)) = refl
size_renewed (Contract producer consumer (Release q)) = refl

-- a test decides alike before and after
renewed_pick : (t : Bool) (x y : Read) → pick t (renewed_read x) (renewed_read y) ≡ renewed_read (pick t x y)
renewed_pick true x y = refl
renewed_pick false x y = refl

module _ (s : List ℕ) (at : ℕ) where
  call_read : (size : ℕ) (c : Call) → read_call s at size (renewed c) ≡ renewed_read (read_call s at size c)
  unfolding read_call
  call_read size c =
      ap (λ n. pick (ltb (length s - at) (size + n)) Cut (Record (renewed c) (at + size) (at + size + n))) (size_renewed c)
      ∙ renewed_pick (ltb (length s - at) (size + readings_size c)) Cut (Record c (at + size) (at + size + readings_size c))

  marked_read : (m : Mark) → is_wide m ≡ false → read_marked s at m ≡ renewed_read (old_read_marked s at m)
  unfolding read_marked old_read_marked
  marked_read m h =
      let n : ℕ = (form_of m).size in
      let v : List ℕ = decode (form_of m).widths (drop (at + 2) s) in
      ap (λ c. pick (ltb (length s - at) n) Cut (read_call s at n c)) (call_renewed m v h)
      ∙ ap (pick (ltb (length s - at) n) Cut) (call_read n (old_call_of m v))
      ∙ renewed_pick (ltb (length s - at) n) Cut (read_call s at n (old_call_of m v))

  found_read : (f : Option Mark) → mark_at (number_at 2 s at) ≡ f → is_wide_mark f ≡ false → read_found s at f ≡ renewed_read (old_read_found s at (old_mark_at (number_at 2 s at)))
  found_read None e h = ap (λ g. renewed_read (old_read_found s at g)) (sym (old_unfound (number_at 2 s at) e))
  found_read (Some m) e h =
      marked_read m h ∙ ap (λ g. renewed_read (old_read_found s at g)) (sym (old_found (number_at 2 s at) m e h))

pub reads_as_before : ReadsAsBefore
unfolding read_at old_read_at wide_at
reads_as_before s at h =
    let f = mark_at (number_at 2 s at) in
    let old : Read = old_read_found s at (old_mark_at (number_at 2 s at)) in
    ap (λ r. pick (leb (length s) at) End (pick (ltb (length s - at) 2) Cut r)) (found_read s at f refl h)
    ∙ ap (pick (leb (length s) at) End) (renewed_pick (ltb (length s - at) 2) Cut old)
    ∙ renewed_pick (leb (length s) at) End (pick (ltb (length s - at) 2) Cut old)
