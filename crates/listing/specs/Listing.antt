-- The listing of a run, and what is put into a lent buffer ("Journal in, listing out").
use Rattle.std.specs.Prelude.{◌≡◌, List, [], ◌∷◌, ◌++◌, ℕ, ◌+◌, ◌*◌, ◌≤◌, ltb, length}
use Rattle.basis.specs.Choice.{pick}
use Rattle.basis.specs.Numbers.{written}
use Rattle.quantities.specs.Limits.{units, producers, consumers}
use Rattle.state.specs.declared.kept.Stage.{Stage}
use Rattle.state.specs.declared.kept.Stage.TheVariants.{Blank, Gathering, Firm, Closed}
use Rattle.state.specs.declared.kept.Book.{Book}
use Rattle.journal.specs.declared.outcome.Run.{Run}
use Rattle.journal.specs.Run.{run_of}
use Rattle.quantities.specs.Refusals.{Filled, filled_with}
use Rattle.text.specs.Text.{line_most, line_of, plain}
use Rattle.letters.specs.Letters.{unit_lines, owners_of, producer_lines, demand_lines, settlement_lines}

-- U, P, D
unfoldable pub firm_lines : Book → List ℕ
firm_lines b =
    unit_lines b.units b.offers b.efficient
    ++ (producer_lines (owners_of b.units) b.limits b.balances ++ demand_lines b.consumers)

abbrev pub firm_most : ℕ
firm_most = (units + producers + consumers) * line_most

-- "T: charges, credits, undistributed."
abbrev pub totals_line : Book → List ℕ
totals_line b =
    line_of 84 (plain b.closing.charged ∷ plain b.closing.credited ∷ plain b.closing.undistributed ∷ [])

-- S and T
unfoldable pub closed_lines : Book → List ℕ
closed_lines b =
    settlement_lines b.consumers b.closing.adjusted b.closing.charges b.closing.credits
    ++ totals_line b

abbrev pub closed_most : ℕ
closed_most = (consumers + 1) * line_most

-- "U, P, D appear in stages firm and closed, S and T in closed"
unfoldable pub stage_lines : Stage → Book → List ℕ
stage_lines Blank b = []
stage_lines Gathering b = []
stage_lines Firm b = firm_lines b
stage_lines Closed b = firm_lines b ++ closed_lines b

-- "R: read, accepted, refused."
abbrev pub counts_line : Run → List ℕ
counts_line r = line_of 82 (plain r.read ∷ plain r.accepted ∷ plain r.refused ∷ [])

-- "R always"
unfoldable pub listing_of : Run → List ℕ
listing_of r =
    stage_lines r.book.stage r.book
    ++ counts_line r

-- the most bytes of a listing: a line for each unit and each producer, two for each consumer, T and R
abbrev pub listing_most : ℕ
listing_most = (units + producers + 2 * consumers + 2) * line_most

-- number 15 where the buffer is shorter than the text; else 0 and the bytes of the text
unfoldable pub listed_of : List ℕ → ℕ → Filled
listed_of text room = pick (ltb room (length text)) (filled_with 15 0) (filled_with 0 (length text))

-- the buffer afterwards: as it was, or with the text over its front
unfoldable pub listed_in : List ℕ → List ℕ → List ℕ
listed_in text old = pick (ltb (length old) (length text)) old (written old 0 text)

-- what putting a listing answers and leaves in the buffer, which alone can refuse it; no listing is longer than the bound
pub record Lists (text old : List ℕ) (r : Filled) (new : List ℕ) : Type 0 where
  pub answer : r ≡ listed_of text (length old)
  pub bytes : new ≡ listed_in text old
  pub short : length text ≤ listing_most

-- "reads up to 65,536 bytes of standard input; longer input prints only `X` and a line feed"
abbrev pub most_input : ℕ
most_input = 65536

abbrev pub too_long : List ℕ
too_long = 88 ∷ 10 ∷ []

unfoldable pub output_of : List ℕ → List ℕ
output_of input = let listing = listing_of (run_of input) in pick (ltb most_input (length input)) too_long listing
