-- The records that a run reads: their calls as a list of demand 3, their places and the numbers of the replies.
use Rattle.std.specs.Prelude.{◌≡◌, List, [], ◌∷◌, map, ℕ, zero, suc, ◌<◌, length, get_or}
use Rattle.table.specs.declared.calls.Call.{Call}
use Rattle.record.specs.declared.reading.Read.TheVariants.{End, Cut, Unknown, Record}
use Rattle.record.specs.Reading.{read_at, part_of}
use Rattle.state.specs.declared.kept.Book.{Book}
use Rattle.state.specs.State.{fresh_book}
use Rattle.book.specs.Lists.{Event, reply_to}

-- a record that was read: its place, and its call with the readings lent with it
pub record Recorded : Type 0 where
  pub place : ℕ
  pub event : Event

-- the records from a place on, in so many turns; "A read test shows its readings as that part of the lent journal." "The place is the
-- offset of the record's first byte."
unfoldable pub records_from : ℕ → List ℕ → ℕ → List Recorded
records_from zero s at = []
records_from (suc turns) s at =
    elim (read_at s at) [
      | End ↦ []
      | Cut ↦ []
      | Unknown ↦ []
      | Record call readings next ↦
          record { place = at; event = record { call = call; readings = part_of s readings next } } ∷ records_from turns s next
    ]

-- their calls
unfoldable pub calls_from : ℕ → List ℕ → ℕ → List Event
calls_from turns s at = map (λ r. r.event) (records_from turns s at)

-- their places
unfoldable pub places_from : ℕ → List ℕ → ℕ → List ℕ
places_from turns s at = map (λ r. r.place) (records_from turns s at)

unfoldable pub calls_of : List ℕ → List Event
calls_of s = calls_from (suc (length s)) s 0

unfoldable pub record_places : List ℕ → List ℕ
record_places s = places_from (suc (length s)) s 0

-- the number of each call's reply
unfoldable pub numbers_after : Book → List Event → List ℕ
numbers_after b [] = []
numbers_after b (e ∷ es) = (reply_to b e).number ∷ numbers_after (reply_to b e).book es

-- the numbers of the replies to the calls that a run reads
unfoldable pub reply_numbers : List ℕ → List ℕ
reply_numbers s = numbers_after fresh_book (calls_of s)

-- the record at a place is the first of the read records that was refused, with this number; it is read where it stands
pub record FirstRefusedAt (s : List ℕ) (place number : ℕ) : Type 0 where
  pub index : ℕ
  pub read : index < length (calls_of s)
  pub placed : get_or (record_places s) index 0 ≡ place
  pub call : Call
  pub readings : ℕ
  pub next : ℕ
  pub stands : read_at s place ≡ Record call readings next
  pub numbered : get_or (reply_numbers s) index 0 ≡ number
  pub refused : number ≡ 0 → ⊥
  pub earlier : (k : ℕ) → k < index → get_or (reply_numbers s) k 0 ≡ 0
