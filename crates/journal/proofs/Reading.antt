-- What a record that was read says of the journal, and that what stands behind it does not matter.
use mathlib.Core.Path.{◌≡◌, refl}
use mathlib.Core.Bool.{Bool, true, false}
use mathlib.Core.List.{List, ◌++◌}
use Prim.Native.Nat.{ℕ, ◌+◌, ◌-◌, ◌≤◌, ◌<◌}
use native.Mathlib.Omega.{arith}
use borrow.Author.Tests.{leb-true}
use lib.Dec.{leb, ltb}
use lib.ListN.{length}
use Rattle.std.specs.Prelude.{Option, None, Some}
use Rattle.basis.specs.Choice.{pick}
use Rattle.basis.specs.Numbers.{number_at}
use Rattle.table.specs.Records.{form_of, mark_at}
use Rattle.table.specs.declared.calls.Call.{Call}
use Rattle.table.specs.declared.forms.Mark.{Mark}
use Rattle.record.specs.Reading.{read_call, read_marked, read_found, read_at, part_of}
use Rattle.record.specs.declared.reading.Read.{Read}
use Rattle.record.specs.declared.reading.Read.TheVariants.{End, Cut, Unknown, Record}
use Rattle.record.proofs.RoundTrip.{read_is_placed, read_is_alone}

module _ (s : List ℕ) (at : ℕ) {from next : ℕ} {c : Call} (e : read_at s at ≡ Record c from next) where
  -- the next record stands behind this one, in the journal or at its end
  pub next_above : at < next
  next_above = (read_is_placed s at c from next e).beyond

  pub next-within : next ≤ length s
  next-within = (read_is_placed s at c from next e).within

  -- with more behind the journal, the same record is read, with the same readings
  pub read_more : (more : List ℕ) → read_at (s ++ more) at ≡ Record c from next
  read_more more = (read_is_alone s at c from next more e).longer

  pub part_more : (more : List ℕ) → part_of (s ++ more) from next ≡ part_of s from next
  part_more more = (read_is_alone s at c from next more e).longer_readings

cut_or : (t : Bool) (x : Read) → (x ≡ End → ⊥) → pick t Cut x ≡ End → ⊥
cut_or true x h e = let z : ◌≡◌ {A = ℕ} 0 1 = cc in omega arith
cut_or false x h e = h e

not_unknown : Unknown ≡ End → ⊥
not_unknown e = let z : ◌≡◌ {A = ℕ} 0 1 = cc in omega arith

not_record : {c : Call} {from next : ℕ} → Record c from next ≡ End → ⊥
not_record e = let z : ◌≡◌ {A = ℕ} 0 1 = cc in omega arith

found_more : (s : List ℕ) (at : ℕ) (f : Option Mark) → read_found s at f ≡ End → ⊥
unfolding read_marked read_call
found_more s at None e = not_unknown e
found_more s at (Some m) e =
    cut_or (ltb (length s - at) (form_of m).size) _
    (λ p. cut_or (ltb (length s - at) ((form_of m).size + _)) (Record _ _ _) not_record p) e

-- the journal has ended only at its length or behind it
pub end_behind : (s : List ℕ) (at : ℕ) → read_at s at ≡ End → length s ≤ at
unfolding read_at
end_behind s at e = go (leb (length s) at) refl e
  where
    go : (t : Bool) → leb (length s) at ≡ t → pick t End (pick (ltb (length s - at) 2) Cut (read_found s at (mark_at (number_at 2 s at)))) ≡ End → length s ≤ at
    go true h e = leb-true (length s) at h
    go false h e = absurd (cut_or (ltb (length s - at) 2) (read_found s at (mark_at (number_at 2 s at))) (λ p. found_more s at (mark_at (number_at 2 s at)) p) e)
