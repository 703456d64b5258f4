-- The run of a journal in words ("Journal records"): what it returns beside the book, a line for each.
use Rattle.std.specs.Prelude.{List, [], ◌∷◌, ◌++◌, ℕ, eqb, codes, Option, None, Some}
use Rattle.basis.specs.Choice.{pick}
use Rattle.text.specs.Text.{decimal}
use Rattle.words.specs.Conditions.{condition_line}
use Rattle.journal.specs.declared.outcome.Refused.{Refused}
use Rattle.journal.specs.declared.outcome.Run.{Run}

-- words and a count, with a line feed
unfoldable pub count_line : List ℕ → ℕ → List ℕ
count_line label count = label ++ (decimal count ++ (10 ∷ []))

-- "the records read, accepted and refused"
unfoldable pub counts : ℕ → ℕ → ℕ → List ℕ
counts read accepted refused =
    count_line (codes "records read: ") read
    ++ (count_line (codes "accepted: ") accepted ++ count_line (codes "refused: ") refused)

-- why the reading stopped: no record there, or what its number says
unfoldable pub reason : ℕ → List ℕ
reason stop = pick (eqb stop 0) (codes "end of journal\n") (condition_line stop)

-- "the stop's number and byte place (0 and the journal's length without a stop)"
unfoldable pub stop_line : ℕ → ℕ → List ℕ
stop_line stop place = codes "reading stopped at byte " ++ (decimal place ++ (codes ": " ++ reason stop))

-- "the place of the first refused record", and the number that it met
unfoldable pub first_line : Option Refused → List ℕ
first_line None = codes "no record refused\n"
first_line (Some first) =
    codes "first refused record at byte " ++ (decimal first.place ++ (codes ": " ++ condition_line first.number))

unfoldable pub summary_of : Run → List ℕ
summary_of r = counts r.read r.accepted r.refused ++ (stop_line r.stop r.place ++ first_line r.first)
