-- An outage log: lent whole, as bytes, low byte first. The window's start (4), its end (4) and HED (4), then the entries, each its start (4), its
-- end (4) and its kind (1).
use Rattle.std.specs.Prelude.{Bool, true, ◌&&◌, List, [], ◌∷◌, map, ℕ, ◌-◌, ◌/◌, ◌%◌, leb, ltb, eqb, length, drop}
use Rattle.std.specs.List.{list_all}
use Rattle.std.specs.Simd.{first_chunks}
use Rattle.basis.specs.Choice.{pick, between}
use Rattle.basis.specs.Numbers.{number_at}
use Rattle.quantities.specs.Limits.{greatest_minutes, last_minute, most_entries}
use Rattle.outages.specs.declared.log.Window.{Window}
use Rattle.outages.specs.declared.log.Entry.{Entry}

-- "a kind: 1 planned, 2 forced"
abbrev pub planned : ℕ
planned = 1

abbrev pub forced : ℕ
forced = 2

-- the window and HED stand in the first twelve bytes
abbrev pub window_of : List ℕ → Window
window_of log = record { start = number_at 4 log 0; end = number_at 4 log 4 }

abbrev pub hed_of : List ℕ → ℕ
hed_of log = number_at 4 log 8

-- an entry of nine bytes
abbrev pub entry_of : List ℕ → Entry
entry_of bytes = record { start = number_at 4 bytes 0; end = number_at 4 bytes 4; kind = number_at 1 bytes 8 }

-- the entries stand behind
abbrev pub entries_of : List ℕ → List Entry
entries_of log = map entry_of (first_chunks 9 ((length log - 12) / 9) (drop 12 log))

-- the length is 12 + 9·n
abbrev pub whole : List ℕ → Bool
whole log = leb 12 (length log) && eqb ((length log - 12) % 9) 0

-- "Minutes run from 0 to 4,000,000,000; other values or kinds, or more entries, meet 3."
abbrev pub window_in_range : Window → Bool
window_in_range w = leb w.start last_minute && leb w.end last_minute

abbrev pub entry_in_range : Entry → Bool
entry_in_range e = leb e.start last_minute && leb e.end last_minute && between planned forced e.kind

-- HED is 0 to 1,052,640, "else 3"
abbrev pub figures_in_range : Window → ℕ → List Entry → Bool
figures_in_range w hed es =
    window_in_range w && leb hed greatest_minutes && leb (length es) most_entries && list_all entry_in_range es

abbrev pub log_in_range : List ℕ → Bool
log_in_range log = whole log && figures_in_range (window_of log) (hed_of log) (entries_of log)

-- the window's end is after its start, and it is at most 1,052,640 minutes long
abbrev pub window_fits : Window → Bool
window_fits w = ltb w.start w.end && leb (w.end - w.start) greatest_minutes

-- "have a start, an end after it"; "no entry begins before the one before it has ended": none begins before the minute `free`
abbrev pub in_order : ℕ → List Entry → Bool
in_order free [] = true
in_order free (e ∷ es) = leb free e.start && ltb e.start e.end && in_order e.end es

-- 3 over the whole log, then 17, else 0
unfoldable pub log_number : List ℕ → ℕ
log_number log =
    pick (log_in_range log) (pick (window_fits (window_of log) && in_order 0 (entries_of log)) 0 17) 3
