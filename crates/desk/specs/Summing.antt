-- The run of a journal in words, as the program prints it.
use Rattle.std.specs.Prelude.{List, ℕ, ltb, length}
use Rattle.basis.specs.Choice.{pick}
use Rattle.journal.specs.Run.{run_of}
use Rattle.listing.specs.Listing.{too_long, most_input}
use Rattle.summary.specs.Summary.{summary_of}

-- what the program prints of an input under the word `run`; what it says is `findings_for`, as without a word
unfoldable pub summary_for : List ℕ → List ℕ
summary_for input = let summary = summary_of (run_of input) in pick (ltb most_input (length input)) too_long summary
