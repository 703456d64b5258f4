-- The printed close over every list of calls (document 02, A1): figures of the accepted calls alone, each whole in its columns.
use Rattle.std.specs.Prelude.{◌≡◌, true, false, List, [], ◌∷◌, ◌++◌, map, ℕ, ◌+◌, ◌-◌, ◌≤◌, ◌<◌, length, get_or, take, drop}
use Rattle.basis.specs.Choice.{pick}
use Rattle.text.specs.Text.{plain, less, amount_of, joined}
use Rattle.text.specs.Columns.{whole}
use Rattle.quantities.specs.Limits.{consumers}
use Rattle.state.specs.declared.kept.Book.{Book}
use Rattle.state.specs.State.{fresh_book}
use Rattle.book.specs.Lists.{Event, after_all, accepted_by}
use Rattle.page.specs.Page.{line_with, heading_with, heading, page, page_count, pages_of, text_of, bytes_for, print_number}
use Rattle.claims.specs.History.{happened, closed_in, declared_in}
use Rattle.claims.specs.Figures.{demand_in, adjusted_demands_in, all_charges_in, all_credits_in}

-- "one line per declared consumer, ascending": those with an accepted declare
abbrev pub declared_number : List Event → ℕ → List ℕ
declared_number h i = pick (happened (declared_in h (i + 1))) ((i + 1) ∷ []) []

unfoldable pub declared_consumers_in : List Event → List ℕ
declared_consumers_in h = joined (declared_number h) consumers

-- DFA, charge and credit of a consumer
abbrev pub adjusted_demand_in : List Event → ℕ → ℕ
adjusted_demand_in h c = get_or (adjusted_demands_in h) (c - 1) 0

abbrev pub charge_in : List Event → ℕ → ℕ
charge_in h c = get_or (all_charges_in h) (c - 1) 0

abbrev pub credit_in : List Event → ℕ → ℕ
credit_in h c = get_or (all_credits_in h) (c - 1) 0

-- the line of a consumer: all characters of each figure behind the blanks that are left
abbrev pub whole_line_in : List Event → ℕ → List ℕ
whole_line_in h c = line_with whole c (demand_in h c) (adjusted_demand_in h c) (charge_in h c) (credit_in h c)

abbrev pub whole_lines_in : List Event → List (List ℕ)
whole_lines_in h = map (whole_line_in h) (declared_consumers_in h)

-- h: the accepted calls of the list, the last one first; b: the book after the list
pub record PrintedClose (h : List Event) (b : Book) : Type 0 where
  -- "In every book that calls return from a fresh one each figure fits its columns": consumer, firm demand, adjustment, cents and page number
  pub consumer_fits : (c : ℕ) → c ≤ consumers → length (amount_of (plain c)) ≤ 3
  pub demand_fits : closed_in h ≡ true → (c : ℕ) → 1 ≤ c → length (amount_of (plain (demand_in h c))) ≤ 7
  pub adjustment_fits : closed_in h ≡ true → (c : ℕ) → 1 ≤ c → length (amount_of (less (demand_in h c) (adjusted_demand_in h c))) ≤ 8
  pub cents_fit : closed_in h ≡ true → (c : ℕ) → 1 ≤ c → length (amount_of (less (credit_in h c) (charge_in h c))) ≤ 15
  pub page_number_fits : (number : ℕ) → number ≤ page_count (length (declared_consumers_in h)) → length (amount_of (plain number)) ≤ 4
  pub heading_whole : (number : ℕ) → number ≤ page_count (length (declared_consumers_in h)) → heading number ≡ heading_with whole number
  -- so that what is printed are the figures themselves
  pub text : closed_in h ≡ true → text_of b ≡ pages_of (whole_lines_in h)
  -- "one line per declared consumer, ascending"; there is one, since a year without a declaration is never fixed
  pub lines : length (whole_lines_in h) ≡ length (declared_consumers_in h)
  pub size : closed_in h ≡ true → length (text_of b) ≡ bytes_for (length (declared_consumers_in h))
  pub ascending : (i j : ℕ) → i < j → j < length (declared_consumers_in h) → get_or (declared_consumers_in h) i 0 < get_or (declared_consumers_in h) j 0
  pub some : closed_in h ≡ true → 1 ≤ length (declared_consumers_in h)
  -- 51 declared consumers make two pages, of 50 and 1
  pub fifty_one : closed_in h ≡ true → length (declared_consumers_in h) ≡ 51 → (text_of b ≡ page 1 (take 50 (whole_lines_in h)) ++ page 2 (drop 50 (whole_lines_in h))) × (length (take 50 (whole_lines_in h)) ≡ 50) × (length (drop 50 (whole_lines_in h)) ≡ 1)
  -- "A book not closed meets number 4, a short buffer 15."
  pub not_closed : closed_in h ≡ false → (room : ℕ) → print_number b room ≡ 4
  pub too_short : closed_in h ≡ true → (room : ℕ) → room < length (text_of b) → print_number b room ≡ 15
  pub taken : closed_in h ≡ true → (room : ℕ) → length (text_of b) ≤ room → print_number b room ≡ 0

abbrev pub AlwaysPrinted : Type 0
AlwaysPrinted = (calls : List Event) → PrintedClose (accepted_by fresh_book [] calls) (after_all fresh_book calls)
