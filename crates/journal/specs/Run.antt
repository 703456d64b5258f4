-- The run over a journal ("Journal records").
use Rattle.std.specs.Prelude.{List, [], ◌∷◌, map, ℕ, zero, suc, ◌+◌, eqb, length, Option, None, Some}
use Rattle.basis.specs.Choice.{pick}
use Rattle.record.specs.declared.reading.Read.TheVariants.{End, Cut, Unknown, Record}
use Rattle.record.specs.Reading.{read_at, stop_number, part_of}
use Rattle.state.specs.State.{Reply, fresh_book}
use Rattle.book.specs.Step.{step_of}
use Rattle.journal.specs.declared.outcome.Refused.{Refused}
use Rattle.journal.specs.declared.outcome.Run.{Run}

-- "The run starts from a fresh book"
unfoldable pub started : Run
started =
    record { book = fresh_book; read = 0; accepted = 0; refused = 0; stop = 0; place = 0; first = None }

-- a record was refused at a place with a number
abbrev pub named_at : ℕ → ℕ → Option Refused
named_at place number = Some (record { place = place; number = number })

-- what the answer names: no record where nothing was refused, else one
abbrev pub named : Option Refused → List Refused
named None = []
named (Some first) = first ∷ []

-- .. its place
abbrev pub named_places : Option Refused → List ℕ
named_places f = map (λ first. first.place) (named f)

-- .. and its number
abbrev pub named_numbers : Option Refused → List ℕ
named_numbers f = map (λ first. first.number) (named f)

-- .. the first one that was refused stays
abbrev pub refused_at : Option Refused → ℕ → ℕ → Option Refused
refused_at None place number = named_at place number
refused_at (Some first) place number = Some first

-- the call of the record at the run's place was answered, and the next record is looked for behind it
abbrev pub answered : Run → Reply → ℕ → Run
answered r reply next =
    let accepted = eqb reply.number 0 in
    record {
      book = reply.book;
      read = r.read + 1;
      accepted = pick accepted (r.accepted + 1) r.accepted;
      refused = pick accepted r.refused (r.refused + 1);
      stop = r.stop;
      place = next;
      first = pick accepted r.first (refused_at r.first r.place reply.number);
    }

-- the reading stopped at the run's place, "the stopping one is in no count"
abbrev pub stopped : Run → ℕ → Run
stopped r number =
    record {
      book = r.book;
      read = r.read;
      accepted = r.accepted;
      refused = r.refused;
      stop = number;
      place = r.place;
      first = r.first;
    }

-- the run from where it stands, with so many turns; "The reading stops at the first record whose mark is unknown or which is cut short"
unfoldable pub run_from : ℕ → List ℕ → Run → Run
run_from zero s r = r
run_from (suc turns) s r =
    elim (read_at s r.place) [
      | End ↦ r
      | Cut ↦ stopped r (stop_number Cut)
      | Unknown ↦ stopped r (stop_number Unknown)
      | Record call readings next ↦
          run_from turns s (answered r (step_of r.book call (part_of s readings next)) next)
    ]

-- no record is empty, so that there are fewer records than bytes, and one turn more finds the end
unfoldable pub run_of : List ℕ → Run
run_of s = run_from (suc (length s)) s started
