-- The replies to a journal's records, a line for each, and a last line that says where and why the reading stopped.
use Rattle.std.specs.Prelude.{Bool, true, false, ◌≡◌, List, [], ◌∷◌, ◌++◌, ℕ, zero, suc, ◌<◌, codes, eqb, ltb, length, Option, None, Some}
use Rattle.basis.specs.Choice.{pick}
use Rattle.table.specs.declared.calls.Call.{Call}
use Rattle.record.specs.declared.reading.Read.TheVariants.{End, Cut, Unknown, Record}
use Rattle.record.specs.Reading.{read_at, stop_number, part_of}
use Rattle.state.specs.declared.kept.Book.{Book}
use Rattle.state.specs.State.{fresh_book}
use Rattle.book.specs.Step.{step_of}
use Rattle.text.specs.Text.{decimal}
use Rattle.listing.specs.Listing.{most_input}
use Rattle.desk.specs.declared.replies.Rest.{Rest}
use Rattle.words.specs.Numbers.{said}
use Rattle.words.specs.Calls.{call_text}

-- place, call, number and meaning
unfoldable pub reply_line : ℕ → Call → List ℕ → ℕ → List ℕ
reply_line place c readings number =
    decimal place ++ (32 ∷ (call_text c readings ++ (codes ": " ++ said number)))

-- where the reading stopped, and why: at the journal's end, or at a record with number 1 or 2
unfoldable pub end_line : ℕ → ℕ → List ℕ
end_line place stop =
    decimal place ++ pick (eqb stop 0) (codes " end of journal\n") (codes " stop: " ++ said stop)

-- the line of what stands at a place, with the book that the calls before it have made
unfoldable pub line_at : List ℕ → Book → ℕ → List ℕ
line_at s b at =
    elim (read_at s at) [
      | End ↦ end_line at (stop_number End)
      | Cut ↦ end_line at (stop_number Cut)
      | Unknown ↦ end_line at (stop_number Unknown)
      | Record call readings next ↦
          let part = part_of s readings next in
          reply_line at call part (step_of b call part).number
    ]

-- what the next line is about: the book, the place, and whether there is none
unfoldable pub book_behind : List ℕ → Book → ℕ → Book
book_behind s b at =
    elim (read_at s at) [
      | End ↦ b
      | Cut ↦ b
      | Unknown ↦ b
      | Record call readings next ↦ (step_of b call (part_of s readings next)).book
    ]

unfoldable pub place_behind : List ℕ → ℕ → ℕ
place_behind s at =
    elim (read_at s at) [
      | End ↦ at
      | Cut ↦ at
      | Unknown ↦ at
      | Record call readings next ↦ next
    ]

unfoldable pub is_last : List ℕ → ℕ → Bool
is_last s at =
    elim (read_at s at) [
      | End ↦ true
      | Cut ↦ true
      | Unknown ↦ true
      | Record call readings next ↦ false
    ]

-- the lines from a place on, at most so many
unfoldable pub lines_from : ℕ → List ℕ → Book → ℕ → List ℕ
lines_from zero s b at = []
lines_from (suc most) s b at =
    line_at s b at ++ pick (is_last s at) [] (lines_from most s (book_behind s b at) (place_behind s at))

-- no record is empty, so that there are fewer records than bytes, and one line more tells the end
unfoldable pub replies_of : List ℕ → List ℕ
replies_of s = lines_from (suc (length s)) s fresh_book 0

-- what the program prints of an input under the word `replies`: nothing of one that is too long, of which it prints the line X
unfoldable pub replies_for : List ℕ → List ℕ
replies_for input = let replies = replies_of input in pick (ltb most_input (length input)) [] replies

-- the replies that are still to be told
abbrev pub rest_of : List ℕ → Rest → List ℕ
rest_of s rest = lines_from rest.left s rest.book rest.place

-- the next line of them, nothing where none is left
unfoldable pub next_line : List ℕ → Rest → List ℕ
next_line s rest = pick (eqb rest.left 0) [] (line_at s rest.book rest.place)

-- a line, if there is one
abbrev pub line_told : Option (List ℕ) → List ℕ
line_told None = []
line_told (Some line) = line

-- what telling a line answers and leaves: the line and the rest behind it are what was to be told, and less is left
pub record Tells (s : List ℕ) (rest : Rest) (told : Option (List ℕ)) (behind : Rest) : Type 0 where
  pub line : line_told told ≡ next_line s rest
  pub whole : rest_of s rest ≡ next_line s rest ++ rest_of s behind
  pub none : rest.left ≡ 0 → told ≡ None
  pub fewer : 0 < rest.left → behind.left < rest.left
