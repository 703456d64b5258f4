-- A journal without marks for consumers above 64 runs as it did under the table of 64 (document 02, A7), and so does one that the converter takes.
use Rattle.std.specs.Prelude.{◌≡◌, Bool, true, false, List, [], ◌∷◌, map, ℕ, zero, suc, eqb, length, None}
use Rattle.basis.specs.Choice.{pick}
use Rattle.table.specs.declared.calls.Call.{Call}
use Rattle.table.specs.Old.{old_call_number, renewed}
use Rattle.record.specs.declared.reading.Read.TheVariants.{End, Cut, Unknown, Record}
use Rattle.record.specs.Reading.{read_at, stop_number, part_of, wide_at}
use Rattle.record.specs.Old.{old_read_at}
use Rattle.narrow.specs.Narrow.{narrow_stop}
use Rattle.state.specs.declared.kept.Book.{Book}
use Rattle.state.specs.State.{Reply, reply_with}
use Rattle.book.specs.Step.{step_of}
use Rattle.journal.specs.declared.outcome.Run.{Run}
use Rattle.journal.specs.Run.{started, answered, stopped, run_of}
use Rattle.journal.specs.Calls.{Recorded, records_from}

-- what a call came to: 3 by the ranges of the old table, else what it comes to
abbrev pub old_step : Book → Call → List ℕ → Reply
old_step b c readings =
    pick (eqb (old_call_number c readings) 0) (step_of b c readings) (reply_with (old_call_number c readings) b)

-- the run under the old table, from where it stands, with so many turns
unfoldable pub old_run_from : ℕ → List ℕ → Run → Run
old_run_from zero s r = r
old_run_from (suc turns) s r =
    elim (old_read_at s r.place) [
      | End ↦ r
      | Cut ↦ stopped r (stop_number Cut)
      | Unknown ↦ stopped r (stop_number Unknown)
      | Record call readings next ↦
          old_run_from turns s (answered r (old_step r.book call (part_of s readings next)) next)
    ]

unfoldable pub old_run_of : List ℕ → Run
old_run_of s = old_run_from (suc (length s)) s started

-- the records that it read
unfoldable pub old_records_from : ℕ → List ℕ → ℕ → List Recorded
old_records_from zero s at = []
old_records_from (suc turns) s at =
    elim (old_read_at s at) [
      | End ↦ []
      | Cut ↦ []
      | Unknown ↦ []
      | Record call readings next ↦
          record { place = at; event = record { call = call; readings = part_of s readings next } }
          ∷ old_records_from turns s next
    ]

-- a record with its call as it is now
abbrev pub renewed_record : Recorded → Recorded
renewed_record r =
    record { place = r.place; event = record { call = renewed r.event.call; readings = r.event.readings } }

-- "whose reading meets none of the marks": neither in a whole record nor in one that is cut short
unfoldable pub meets_none_from : ℕ → List ℕ → ℕ → Bool
meets_none_from zero s at = true
meets_none_from (suc turns) s at =
    pick (wide_at s at) false
    (elim (read_at s at) [
      | End ↦ true
      | Cut ↦ true
      | Unknown ↦ true
      | Record call readings next ↦ meets_none_from turns s next
    ])

unfoldable pub meets_none : List ℕ → Bool
meets_none s = meets_none_from (suc (length s)) s 0

-- a journal that "reads as it did"
pub record RunsAsBefore (s : List ℕ) : Type 0 where
  -- its records, their places and their readings; their calls but for a consumer out of the range of one byte, who is 0 now
  pub records : records_from (suc (length s)) s 0 ≡ map renewed_record (old_records_from (suc (length s)) s 0)
  -- its run: the book, the counts, the stop, and the first refused record with its number
  pub run : run_of s ≡ old_run_of s

-- "A journal whose reading meets none of the marks below reads as it did."
abbrev pub AsBefore : Type 0
AsBefore = (s : List ℕ) → meets_none s ≡ true → RunsAsBefore s

-- a journal that the converter takes is read to its end under the old table, record by record, as under the new one
pub record Converted (s : List ℕ) : Type 0 where
  pub none_met : meets_none s ≡ true
  pub before : RunsAsBefore s
  pub whole : (old_run_of s).stop ≡ 0

abbrev pub NarrowReadsAlike : Type 0
NarrowReadsAlike = (s : List ℕ) → narrow_stop s ≡ None → Converted s
