-- The printed close of a journal, and what is said of it on standard error.
use Rattle.std.specs.Prelude.{List, [], ◌++◌, ℕ, codes, eqb, ltb, length}
use Rattle.basis.specs.Choice.{pick}
use Rattle.state.specs.declared.kept.Stage.TheVariants.{Closed}
use Rattle.state.specs.declared.kept.Book.{Book}
use Rattle.state.specs.State.{staged}
use Rattle.page.specs.Page.{text_of}
use Rattle.journal.specs.Run.{run_of}
use Rattle.listing.specs.Listing.{too_long, most_input}
use Rattle.words.specs.Numbers.{said}
use Rattle.desk.specs.Findings.{findings_of, nothing_read}

-- "A book not closed meets number 4"; a buffer of the program is never too short
abbrev pub open_number : Book → ℕ
open_number b = staged Closed b.stage 0

-- the printed close, nothing where the book is not closed
unfoldable pub page_of : Book → List ℕ
page_of b = pick (eqb (open_number b) 0) (text_of b) []

-- why there is no page
unfoldable pub unclosed : ℕ → List ℕ
unclosed number = pick (eqb number 0) [] (codes "yearbook: no page, the year is not closed: " ++ said number)

-- what the program prints of an input under the word `page`, and what it says
unfoldable pub page_for : List ℕ → List ℕ
page_for input = let text = page_of (run_of input).book in pick (ltb most_input (length input)) too_long text

unfoldable pub page_findings_for : List ℕ → List ℕ
page_findings_for input =
    let found = findings_of (run_of input) ++ unclosed (open_number (run_of input).book) in
    pick (ltb most_input (length input)) nothing_read found
