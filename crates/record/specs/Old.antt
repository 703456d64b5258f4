-- Reading under the table of 64 consumers, as it was before document 02's A7.
use Rattle.std.specs.Prelude.{◌≡◌, false, List, ℕ, ◌+◌, ◌-◌, leb, ltb, length, drop, Option, None, Some}
use Rattle.basis.specs.Choice.{pick}
use Rattle.basis.specs.Numbers.{number_at}
use Rattle.table.specs.Records.{form_of}
use Rattle.table.specs.Fields.{decode}
use Rattle.table.specs.Old.{old_mark_at, old_call_of, renewed}
use Rattle.table.specs.declared.forms.Mark.{Mark}
use Rattle.record.specs.declared.reading.Read.{Read}
use Rattle.record.specs.declared.reading.Read.TheVariants.{End, Cut, Unknown, Record}
use Rattle.record.specs.Reading.{read_call, read_at, wide_at}

-- the record of a known mark that stands at a place
unfoldable pub old_read_marked : List ℕ → ℕ → Mark → Read
old_read_marked s at m =
    pick (ltb (length s - at) (form_of m).size) Cut
    (read_call s at (form_of m).size (old_call_of m (decode (form_of m).widths (drop (at + 2) s))))

abbrev pub old_read_found : List ℕ → ℕ → Option Mark → Read
old_read_found s at None = Unknown
old_read_found s at (Some m) = old_read_marked s at m

-- what stands at a place of a journal
unfoldable pub old_read_at : List ℕ → ℕ → Read
old_read_at s at =
    pick (leb (length s) at) End
    (pick (ltb (length s - at) 2) Cut (old_read_found s at (old_mark_at (number_at 2 s at))))

-- .. with its call as it is now
abbrev pub renewed_read : Read → Read
renewed_read End = End
renewed_read Cut = Cut
renewed_read Unknown = Unknown
renewed_read (Record c from next) = Record (renewed c) from next

-- what stands at a place where no mark for consumers above 64 does reads as it did
abbrev pub ReadsAsBefore : Type 0
ReadsAsBefore = (s : List ℕ) (at : ℕ) → wide_at s at ≡ false → read_at s at ≡ renewed_read (old_read_at s at)
