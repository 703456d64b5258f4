-- What is promised of the run over a journal, beyond its own definition.
use Rattle.std.specs.Prelude.{◌≡◌, List, ℕ, ◌≤◌, ◌<◌, eqb, not, count_by, length, get_or, Option, None, Some}
use Rattle.record.specs.Reading.{read_at, stop_number}
use Rattle.record.specs.declared.reading.Read.TheVariants.{Cut, Unknown}
use Rattle.journal.specs.declared.outcome.Refused.{Refused}
use Rattle.journal.specs.declared.outcome.Run.{Run}
use Rattle.journal.specs.Run.{run_of}
use Rattle.journal.specs.Calls.{calls_of, record_places, reply_numbers, FirstRefusedAt}

-- without a stop the journal has ended; with one a record that is cut short or an unknown mark stands at its place
pub record Ends (s : List ℕ) (r : Run) : Type 0 where
  pub whole : r.stop ≡ 0 → r.place ≡ length s
  pub cut : r.stop ≡ stop_number Cut → read_at s r.place ≡ Cut
  pub unknown : r.stop ≡ stop_number Unknown → read_at s r.place ≡ Unknown
  pub numbers : r.stop ≤ stop_number Unknown

-- "the stop's number and byte place (0 and the journal's length without a stop)"
abbrev pub RunEnds : Type 0
RunEnds = (s : List ℕ) → Ends s (run_of s)

-- "the records read": each is one call of the list, "the stopping one is in no count"
abbrev pub ReadLength : Type 0
ReadLength = (s : List ℕ) → (run_of s).read ≡ length (calls_of s)

-- the counts of a run are those of the replies to the records that it read, by their numbers: "A call is accepted if it returned 0."
pub record CountsReplies (s : List ℕ) : Type 0 where
  pub accepted : (run_of s).accepted ≡ count_by (λ n. eqb n 0) (reply_numbers s)
  pub refused : (run_of s).refused ≡ count_by (λ n. not (eqb n 0)) (reply_numbers s)

abbrev pub RepliesCounted : Type 0
RepliesCounted = (s : List ℕ) → CountsReplies s

-- "no record read was refused"
abbrev pub NoneRefused : List ℕ → Type 0
NoneRefused s = (k : ℕ) → k < length (calls_of s) → get_or (reply_numbers s) k 0 ≡ 0

-- what is named is the first refused record, and "If it names none, no record read was refused."
abbrev pub Earliest : List ℕ → Option Refused → Type 0
Earliest s None = NoneRefused s
Earliest s (Some first) = FirstRefusedAt s first.place first.number

-- "it returns the place of the first refused record in the journal"
abbrev pub EarliestRefused : Type 0
EarliestRefused = (s : List ℕ) → Earliest s (run_of s).first

-- a later record stands at a later place, so that the first in the list is the first "in the journal"
abbrev pub PlacesAscend : Type 0
PlacesAscend =
    (s : List ℕ) (j k : ℕ) → j < k → k < length (record_places s) → get_or (record_places s) j 0 < get_or (record_places s) k 0
