-- What the run over a journal of any bytes promises, beyond its own definition.
use Rattle.std.specs.Prelude.{◌≡◌, List, [], ◌++◌, ℕ, suc, ◌+◌, length}
use Rattle.state.specs.State.{fresh_book}
use Rattle.book.specs.Lists.{accepted_by}
use Rattle.journal.specs.Run.{named_places, run_of, run_from}
use Rattle.journal.specs.Calls.{calls_of}
use Rattle.journal.specs.Promises.{CountsReplies, Earliest}
use Rattle.claims.specs.Demand.{Demand3}
use Rattle.claims.specs.Printed.{PrintedClose}

pub record EveryJournal (journal : List ℕ) : Type 0 where
  -- the run's book is the book after the list of the calls that it read, so demand 3 holds of it
  pub demand : Demand3 (accepted_by fresh_book [] (calls_of journal)) (run_of journal).book
  -- and so does what is promised of the printed close
  pub printed : PrintedClose (accepted_by fresh_book [] (calls_of journal)) (run_of journal).book
  -- records read are those accepted and those refused
  pub counts : (run_of journal).read ≡ (run_of journal).accepted + (run_of journal).refused
  -- .. each count that of the replies
  pub counted : CountsReplies journal
  -- the record named is the first refused one, with the number of its reply; where none is named none was refused
  pub first : Earliest journal (run_of journal).first
  -- none is named only where none was refused
  pub none_named : named_places (run_of journal).first ≡ [] → (run_of journal).refused ≡ 0
  -- the run of a journal's beginning that stops nowhere is the run's beginning
  pub beginning : (more : List ℕ) → (run_of journal).stop ≡ 0 → run_of (journal ++ more) ≡ run_from (suc (length (journal ++ more))) (journal ++ more) (run_of journal)
