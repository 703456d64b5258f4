-- The journal for 64 consumers that the program makes of one for 300, and what is said where there is none (document 02, A7).
use Rattle.std.specs.Prelude.{List, [], ◌++◌, ℕ, codes, ltb, length, Option, None, Some}
use Rattle.basis.specs.Choice.{pick}
use Rattle.narrow.specs.declared.Stopped.{Stopped}
use Rattle.narrow.specs.Narrow.{narrow_stop}
use Rattle.listing.specs.Listing.{too_long, most_input}
use Rattle.words.specs.Numbers.{at_place}
use Rattle.desk.specs.Findings.{nothing_read}

-- the journal's own bytes, nothing where a record meets a number
abbrev pub unless_stopped : Option Stopped → List ℕ → List ℕ
unless_stopped None s = s
unless_stopped (Some stopped) s = []

-- where and why there is no journal for 64
abbrev pub unconverted : Option Stopped → List ℕ
unconverted None = []
unconverted (Some stopped) =
    codes "yearbook: no journal for 64 consumers, at byte " ++ at_place stopped.place stopped.number

-- what the program prints of an input under the word `narrow`, and what it says
unfoldable pub narrow_for : List ℕ → List ℕ
narrow_for input = pick (ltb most_input (length input)) too_long (unless_stopped (narrow_stop input) input)

unfoldable pub narrow_findings_for : List ℕ → List ℕ
narrow_findings_for input = pick (ltb most_input (length input)) nothing_read (unconverted (narrow_stop input))
