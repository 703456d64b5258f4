-- The printed close on 36 columns (document 02, A1), in the order of its sentences.
use Rattle.std.specs.Prelude.{◌≡◌, List, [], ◌∷◌, ◌++◌, map, ℕ, zero, suc, ◌+◌, ◌-◌, ◌*◌, ◌/◌, ◌%◌, ◌≤◌, eqb, ltb, length, get_or, take, drop, codes}
use Rattle.basis.specs.Choice.{pick}
use Rattle.basis.specs.Numbers.{written}
use Rattle.text.specs.declared.amounts.Amount.{Amount}
use Rattle.text.specs.Text.{less, plain, amount_of, joined}
use Rattle.text.specs.Columns.{blanks, column}
use Rattle.quantities.specs.Limits.{consumers}
use Rattle.quantities.specs.Refusals.{Filled, filled_with}
use Rattle.state.specs.declared.kept.Stage.TheVariants.{Closed}
use Rattle.state.specs.declared.kept.Declaration.{Declaration}
use Rattle.state.specs.declared.kept.Declaration.TheVariants.{Undeclared, Declared}
use Rattle.state.specs.declared.kept.Consumer.{Consumer}
use Rattle.state.specs.declared.kept.Book.{Book}
use Rattle.state.specs.State.{fresh_consumer, consumer_at, firm_demand_by, staged}

-- "one line per declared consumer, ascending": the declared consumers by their numbers
abbrev pub number_if : ℕ → Declaration → List ℕ
number_if number Undeclared = []
number_if number (Declared f) = number ∷ []

abbrev pub number_at : List Consumer → ℕ → List ℕ
number_at xs i = number_if (i + 1) (get_or xs i fresh_consumer).declaration

unfoldable pub declared_consumers : List Consumer → List ℕ
declared_consumers xs = joined (number_at xs) consumers

-- "each right-aligned, with one blank between": an amount behind its blank; "A minus sign stands directly before the first digit", as in `amount_of`
abbrev pub behind_blank : (ℕ → List ℕ → List ℕ) → ℕ → Amount → List ℕ
behind_blank aligned width amount = 32 ∷ aligned width (amount_of amount)

-- "consumer in 3 columns, firm demand in 7, adjustment in 8, cents as in line S in 15, .. then a line feed"; ADF is DF less DFA
unfoldable pub line_with : (ℕ → List ℕ → List ℕ) → ℕ → ℕ → ℕ → ℕ → ℕ → List ℕ
line_with aligned number df dfa charge credit =
    aligned 3 (amount_of (plain number))
    ++ (behind_blank aligned 7 (plain df) ++ (behind_blank aligned 8 (less df dfa) ++ (behind_blank aligned 15 (less credit charge) ++ (10 ∷ []))))

abbrev pub line_of : ℕ → ℕ → ℕ → ℕ → ℕ → List ℕ
line_of = line_with column

-- the line of a consumer, from the figures that the book has
abbrev pub line_for : List Consumer → List ℕ → List ℕ → List ℕ → ℕ → List ℕ
line_for xs adjusted charges credits c =
    line_of c (firm_demand_by (consumer_at xs c).declaration) (get_or adjusted (c - 1) 0) (get_or charges (c - 1) 0) (get_or credits (c - 1) 0)

unfoldable pub lines_of : List Consumer → List ℕ → List ℕ → List ℕ → List (List ℕ)
lines_of xs adjusted charges credits = map (line_for xs adjusted charges credits) (declared_consumers xs)

-- "Each page has a heading line first: PAGE, a blank, the page number in 4 columns right-aligned, then blanks to column 36. .. The heading ends with a line feed too."
unfoldable pub heading_with : (ℕ → List ℕ → List ℕ) → ℕ → List ℕ
heading_with aligned number = codes "PAGE " ++ (aligned 4 (amount_of (plain number)) ++ (blanks 27 ++ (10 ∷ [])))

abbrev pub heading : ℕ → List ℕ
heading = heading_with column

-- lines one after the other
unfoldable pub flat : List (List ℕ) → List ℕ
flat [] = []
flat (line ∷ lines) = line ++ flat lines

unfoldable pub page : ℕ → List (List ℕ) → List ℕ
page number lines = heading number ++ flat lines

-- "Pages count from 1; all but the last carry 50 consumers, the last 1 to 50."
abbrev pub page_lines : ℕ
page_lines = 50

abbrev pub page_count : ℕ → ℕ
page_count lines = (lines + (page_lines - 1)) / page_lines

unfoldable pub pages_from : ℕ → ℕ → List (List ℕ) → List ℕ
pages_from zero number lines = []
pages_from (suc more) number lines = page number (take page_lines lines) ++ pages_from more (suc number) (drop page_lines lines)

unfoldable pub pages_of : List (List ℕ) → List ℕ
pages_of lines = pages_from (page_count (length lines)) 1 lines

-- what a closed book prints
unfoldable pub text_of : Book → List ℕ
text_of b = pages_of (lines_of b.consumers b.closing.adjusted b.closing.charges b.closing.credits)

-- 36 columns and a line feed; the bytes of so many lines and their headings
abbrev pub line_length : ℕ
line_length = 37

abbrev pub bytes_for : ℕ → ℕ
bytes_for lines = line_length * (lines + page_count lines)

-- the most bytes that are printed: all consumers are declared
abbrev pub printed_most : ℕ
printed_most = bytes_for consumers

-- "A book not closed meets number 4, a short buffer 15."
unfoldable pub print_number : Book → ℕ → ℕ
print_number b room = staged Closed b.stage (pick (ltb room (length (text_of b))) 15 0)

-- 0 and the bytes of the text; a refusal tells no length
abbrev pub printed_by : ℕ → List ℕ → Filled
printed_by number text = filled_with number (pick (eqb number 0) (length text) 0)

unfoldable pub printed_of : Book → ℕ → Filled
printed_of b room = printed_by (print_number b room) (text_of b)

-- the buffer afterwards: as it was, or with the text over its front
unfoldable pub printed_in : Book → List ℕ → List ℕ
printed_in b old = pick (eqb (print_number b (length old)) 0) (written old 0 (text_of b)) old

-- what printing answers and leaves in the buffer, where unlike a listing the book's stage can refuse it too; no text is longer than the bound
pub record Prints (b : Book) (old : List ℕ) (r : Filled) (new : List ℕ) : Type 0 where
  pub answer : r ≡ printed_of b (length old)
  pub bytes_left : new ≡ printed_in b old
  pub short : length (text_of b) ≤ printed_most

-- the heading behind so many lines, where a page begins there: a step of the program
unfoldable pub heading_behind : ℕ → List ℕ
heading_behind lines = pick (eqb (lines % page_lines) 0) (heading (lines / page_lines + 1)) []
