-- What is wrong with a journal, said on standard error: nothing where the whole input was read and nothing was refused.
use Rattle.std.specs.Prelude.{List, [], ◌++◌, ℕ, codes, eqb, ltb, length, Option, None, Some}
use Rattle.basis.specs.Choice.{pick}
use Rattle.text.specs.Text.{decimal}
use Rattle.journal.specs.declared.outcome.Refused.{Refused}
use Rattle.journal.specs.declared.outcome.Run.{Run}
use Rattle.journal.specs.Run.{run_of}
use Rattle.listing.specs.Listing.{most_input}
use Rattle.words.specs.Numbers.{at_place}

-- how many of the records read were refused, with place and number of the first
unfoldable pub refusals : Option Refused → ℕ → ℕ → List ℕ
refusals None refused read = []
refusals (Some first) refused read =
    codes "yearbook: "
    ++ (decimal refused ++ (codes " of " ++ (decimal read ++ (codes " records refused, the first at byte " ++ at_place first.place first.number))))

-- where and why the reading stopped before the journal's end
unfoldable pub stopping : ℕ → ℕ → List ℕ
stopping stop place = pick (eqb stop 0) [] (codes "yearbook: reading stopped at byte " ++ at_place place stop)

unfoldable pub findings_of : Run → List ℕ
findings_of r = refusals r.first r.refused r.read ++ stopping r.stop r.place

-- "longer input prints only `X`"
abbrev pub nothing_read : List ℕ
nothing_read = codes "yearbook: input longer than 65536 bytes, nothing read\n"

unfoldable pub findings_for : List ℕ → List ℕ
findings_for input = let found = findings_of (run_of input) in pick (ltb most_input (length input)) nothing_read found
