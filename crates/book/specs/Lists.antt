-- Lists of calls, accepted and refused ("The list of demand 3").
use Rattle.std.specs.Prelude.{List, [], ◌∷◌, ℕ, eqb}
use Rattle.basis.specs.Choice.{pick}
use Rattle.table.specs.declared.calls.Call.{Call}
use Rattle.state.specs.declared.kept.Book.{Book}
use Rattle.state.specs.State.{Reply}
use Rattle.book.specs.Step.{step_of}

-- a call, and the readings that are lent with it
pub record Event : Type 0 where
  pub call : Call
  pub readings : List ℕ

abbrev pub reply_to : Book → Event → Reply
reply_to b e = step_of b e.call e.readings

-- "each later call gets the book that the one before returned, accepted or refused"
unfoldable pub after_all : Book → List Event → Book
after_all b [] = b
after_all b (e ∷ es) = after_all (reply_to b e).book es

-- the accepted calls, the last one first, behind those that there were: "A call is accepted if it returned 0."
unfoldable pub accepted_by : Book → List Event → List Event → List Event
accepted_by b history [] = history
accepted_by b history (e ∷ es) =
    accepted_by (reply_to b e).book (pick (eqb (reply_to b e).number 0) (e ∷ history) history) es
