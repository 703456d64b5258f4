-- Reading: a record, the end of the journal, number 1 (cut short) or number 2 (unknown mark) ("Journal records", "Numbered replies").
use Rattle.std.specs.Prelude.{Bool, false, List, [], ℕ, ◌+◌, ◌-◌, leb, ltb, length, take, drop, Option, None, Some}
use Rattle.basis.specs.Choice.{pick}
use Rattle.basis.specs.Numbers.{number_at}
use Rattle.table.specs.Records.{call_of, readings_size, form_of, mark_at, is_wide}
use Rattle.table.specs.Fields.{decode}
use Rattle.table.specs.declared.calls.Call.{Call}
use Rattle.table.specs.declared.forms.Mark.{Mark}
use Rattle.record.specs.declared.reading.Read.{Read}
use Rattle.record.specs.declared.reading.Read.TheVariants.{End, Cut, Unknown, Record}

-- the call whose mark and fields, so many bytes, stand at a place: a record if its readings are there too
unfoldable pub read_call : List ℕ → ℕ → ℕ → Call → Read
read_call s at size c =
    pick (ltb (length s - at) (size + readings_size c)) Cut (Record c (at + size) (at + size + readings_size c))

-- the record of a known mark that stands at a place
unfoldable pub read_marked : List ℕ → ℕ → Mark → Read
read_marked s at m =
    pick (ltb (length s - at) (form_of m).size) Cut
    (read_call s at (form_of m).size (call_of m (decode (form_of m).widths (drop (at + 2) s))))

-- two bytes that are no mark
abbrev pub read_found : List ℕ → ℕ → Option Mark → Read
read_found s at None = Unknown
read_found s at (Some m) = read_marked s at m

-- what stands at a place of a journal; one byte that is left over is cut short, whatever it is
unfoldable pub read_at : List ℕ → ℕ → Read
read_at s at =
    pick (leb (length s) at) End
    (pick (ltb (length s - at) 2) Cut (read_found s at (mark_at (number_at 2 s at))))

-- the number at which the reading stops, 0 where it does not
abbrev pub stop_number : Read → ℕ
stop_number End = 0
stop_number Cut = 1
stop_number Unknown = 2
stop_number (Record c from next) = 0

-- the two bytes at a place are a mark for consumers above 64
abbrev pub is_wide_mark : Option Mark → Bool
is_wide_mark None = false
is_wide_mark (Some m) = is_wide m

unfoldable pub wide_at : List ℕ → ℕ → Bool
wide_at s at = is_wide_mark (mark_at (number_at 2 s at))

-- the part of a journal between two places, empty where there is none
unfoldable pub part_of : List ℕ → ℕ → ℕ → List ℕ
part_of s from to = pick (leb from to) (pick (leb to (length s)) (take (to - from) (drop from s)) []) []
