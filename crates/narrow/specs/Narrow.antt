-- The converter: "turns a journal for the new limit into one for the old, and refuses it when such a mark occurs" (document 02, A7).
use Rattle.std.specs.Prelude.{◌≡◌, List, ℕ, zero, suc, eqb, ltb, length, Option, None, Some}
use Rattle.basis.specs.Choice.{pick}
use Rattle.basis.specs.Numbers.{written}
use Rattle.record.specs.declared.reading.Read.TheVariants.{End, Cut, Unknown, Record}
use Rattle.record.specs.Reading.{read_at, stop_number, wide_at}
use Rattle.narrow.specs.declared.Stopped.{Stopped}

abbrev pub stopped_at : ℕ → ℕ → Option Stopped
stopped_at place number = Some (record { place = place; number = number })

-- "The first record to meet a number decides, 1 before 18": from a place on, in so many turns; 18 is met by a whole record, whatever its fields hold
unfoldable pub narrow_from : ℕ → List ℕ → ℕ → Option Stopped
narrow_from zero s at = None
narrow_from (suc turns) s at =
    elim (read_at s at) [
      | End ↦ None
      | Cut ↦ stopped_at at (stop_number Cut)
      | Unknown ↦ stopped_at at (stop_number Unknown)
      | Record call readings next ↦ pick (wide_at s at) (stopped_at at 18) (narrow_from turns s next)
    ]

-- no record is empty, so that there are fewer records than bytes, and one turn more finds the end
unfoldable pub narrow_stop : List ℕ → Option Stopped
narrow_stop s = narrow_from (suc (length s)) s 0

-- "a short buffer meets 15 last"
abbrev pub number_behind : Option Stopped → ℕ → ℕ → ℕ
number_behind None size room = pick (ltb room size) 15 0
number_behind (Some stopped) size room = stopped.number

unfoldable pub narrow_number : List ℕ → ℕ → ℕ
narrow_number s room = number_behind (narrow_stop s) (length s) room

-- "a journal that it accepts comes out with its own bytes"; a refusal writes no byte
unfoldable pub narrowed : List ℕ → List ℕ → List ℕ
narrowed s out = pick (eqb (narrow_number s (length out)) 0) (written out 0 s) out

-- what the converter answers and leaves
pub record Narrows (s old : List ℕ) (number : ℕ) (new : List ℕ) : Type 0 where
  pub answer : number ≡ narrow_number s (length old)
  pub bytes : new ≡ narrowed s old
