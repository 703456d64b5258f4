-- What is promised of the replies and of the findings, beyond their own definitions.
use Rattle.std.specs.Prelude.{◌≡◌, List, [], ◌∷◌, ◌++◌, ℕ, ◌≤◌, length}
use Rattle.state.specs.declared.kept.Stage.TheVariants.{Closed}
use Rattle.state.specs.State.{stage_number}
use Rattle.book.specs.Lists.{Event}
use Rattle.journal.specs.Run.{run_of}
use Rattle.journal.specs.Calls.{calls_of, record_places, reply_numbers}
use Rattle.listing.specs.Listing.{most_input}
use Rattle.desk.specs.Replies.{reply_line, end_line, replies_of}
use Rattle.desk.specs.Findings.{findings_for}
use Rattle.desk.specs.Printing.{page_findings_for}

-- a line for each record, from its place, its call and the number of its reply; there are as many places and numbers as calls
unfoldable pub lines_of : List ℕ → List Event → List ℕ → List ℕ
lines_of [] events numbers = []
lines_of (place ∷ places) [] numbers = []
lines_of (place ∷ places) (e ∷ events) [] = []
lines_of (place ∷ places) (e ∷ events) (number ∷ numbers) =
    reply_line place e.call e.readings number ++ lines_of places events numbers

-- the replies are those of the run, to the records that it read, and the last line tells its stop
abbrev pub RepliesOfTheRun : Type 0
RepliesOfTheRun =
    (s : List ℕ) → replies_of s ≡ lines_of (record_places s) (calls_of s) (reply_numbers s) ++ end_line (run_of s).place (run_of s).stop

-- nothing is found exactly where the whole input was read and nothing was refused
pub record Silent (input : List ℕ) : Type 0 where
  pub taken : findings_for input ≡ [] → length input ≤ most_input
  pub whole : findings_for input ≡ [] → (run_of input).stop ≡ 0
  pub accepted : findings_for input ≡ [] → (run_of input).refused ≡ 0
  pub silent : length input ≤ most_input → (run_of input).stop ≡ 0 → (run_of input).refused ≡ 0 → findings_for input ≡ []

abbrev pub SilentExactly : Type 0
SilentExactly = (input : List ℕ) → Silent input

-- under the word `page` nothing is said exactly where, besides, the year is closed
pub record SilentPage (input : List ℕ) : Type 0 where
  pub as_before : page_findings_for input ≡ [] → findings_for input ≡ []
  pub closed : page_findings_for input ≡ [] → stage_number (run_of input).book.stage ≡ stage_number Closed
  pub silent : findings_for input ≡ [] → stage_number (run_of input).book.stage ≡ stage_number Closed → page_findings_for input ≡ []

abbrev pub SilentPageExactly : Type 0
SilentPageExactly = (input : List ℕ) → SilentPage input
