-- The answers in the paper's terms: the figures of lines U, P, D and S ("Journal in, listing out"), and none where there is no line.
use Rattle.state.specs.declared.kept.Entry.{Entry}
use Rattle.std.specs.Prelude.{◌≡◌, Bool, true, false, List, [], ◌∷◌, ℕ, ◌-◌, eqb, get_or, Option, None, Some}
use Rattle.basis.specs.Choice.{pick, between}
use Rattle.basis.specs.Sums.{sum}
use Rattle.quantities.specs.Limits.{units, producers, consumers}
use Rattle.state.specs.declared.kept.Stage.TheVariants.{Closed}
use Rattle.state.specs.declared.kept.Figures.{Figures}
use Rattle.state.specs.declared.kept.Declaration.{Declaration}
use Rattle.state.specs.declared.kept.Declaration.TheVariants.{Undeclared, Declared}
use Rattle.state.specs.declared.kept.CloseFigures.{CloseFigures}
use Rattle.state.specs.declared.kept.Book.{Book}
use Rattle.questions.specs.declared.Offers.{Offers}
use Rattle.questions.specs.declared.Totals.{Totals}
use Rattle.questions.specs.declared.Signed.{Signed}
use Rattle.questions.specs.declared.Signed.TheVariants.{Plus, Minus}
use Rattle.questions.specs.declared.Adjustment.{Adjustment}
use Rattle.state.specs.State.{stage_number, unit_at, consumer_at, row_of}
use Rattle.questions.specs.Questions.{unit_offers_of, has_unit, producer_totals_of, declaration_of, adjustment_of}

-- "U: enrolled unit, offer, efficient offer."
abbrev pub unit_values : Option Offers → List ℕ
unit_values None = []
unit_values (Some o) = o.firm ∷ o.efficient ∷ []

-- "P: producer with a unit, its efficient total, the sum of its balances."
abbrev pub producer_values : Option Totals → List ℕ
producer_values None = []
producer_values (Some t) = t.limit ∷ t.committed ∷ []

-- "D: declared consumer, firm demand.", behind what it declared: D, A, DF
abbrev pub declaration_values : Declaration → List ℕ
declaration_values Undeclared = []
declaration_values (Declared f) = f.d ∷ f.a ∷ f.df ∷ []

-- a number with a sign is a pair, what is added and what is taken away, of which one is 0: 334 is (334, 0) and -667 is (0, 667)
abbrev pub SignedNumber : Type 0
SignedNumber = ℕ × ℕ

abbrev pub signed_value : Signed → SignedNumber
signed_value (Plus n) = (n, 0)
signed_value (Minus n) = (0, n)

-- a less b
abbrev pub difference : ℕ → ℕ → SignedNumber
difference a b = (a - b, b - a)

-- "S: declared consumer, ADF, cents (charge negative, credit positive, else 0)."
abbrev pub adjustment_values : Option Adjustment → List SignedNumber
adjustment_values None = []
adjustment_values (Some a) = signed_value a.adf ∷ difference a.credit a.charge ∷ []

-- the book has the unit enrolled; it has a unit of the producer
abbrev pub enrolled_by : Option Entry → Bool
enrolled_by None = false
enrolled_by (Some e) = true

abbrev pub is_enrolled : Book → ℕ → Bool
is_enrolled b unit = pick (between 1 units unit) (enrolled_by (unit_at b.units unit).enrolment) false

abbrev pub is_producer : Book → ℕ → Bool
is_producer b producer = pick (between 1 producers producer) (has_unit producer b.units) false

-- the figures of lines U and P, as the book has them
unfoldable pub unit_figures : Book → ℕ → List ℕ
unit_figures b unit =
    pick (is_enrolled b unit) (get_or b.offers (unit - 1) 0 ∷ get_or b.efficient (unit - 1) 0 ∷ []) []

unfoldable pub producer_figures : Book → ℕ → List ℕ
producer_figures b producer =
    pick (is_producer b producer) (get_or b.limits (producer - 1) 0 ∷ sum (row_of b.balances producer) ∷ []) []

-- figures of a declared consumer, and none of another
abbrev pub where_declared : {A : Type 0} → Declaration → (Figures → List A) → List A
where_declared Undeclared figures = []
where_declared (Declared f) figures = figures f

abbrev pub of_declared : {A : Type 0} → Book → ℕ → (Figures → List A) → List A
of_declared b consumer figures =
    pick (between 1 consumers consumer) (where_declared (consumer_at b.consumers consumer).declaration figures) []

-- the figures of lines D and S, as the book has them
unfoldable pub declaration_figures : Book → ℕ → List ℕ
declaration_figures b consumer = of_declared b consumer (λ f. f.d ∷ f.a ∷ f.df ∷ [])

-- ADF = DF - DFA, and the credit less the charge
abbrev pub settled_figures : CloseFigures → ℕ → Figures → List SignedNumber
settled_figures closing i f =
    difference f.df (get_or closing.adjusted i 0)
    ∷ difference (get_or closing.credits i 0) (get_or closing.charges i 0)
    ∷ []

unfoldable pub adjustment_figures : Book → ℕ → List SignedNumber
adjustment_figures b consumer =
    pick (eqb (stage_number b.stage) (stage_number Closed))
    (of_declared b consumer (settled_figures b.closing (consumer - 1)))
    []

-- the values of each answer are the figures of the book, whatever the book and the number
pub record ValuesOfTheBook : Type 0 where
  pub of_unit : (b : Book) (unit : ℕ) → unit_values (unit_offers_of b unit) ≡ unit_figures b unit
  pub of_producer : (b : Book) (producer : ℕ) → producer_values (producer_totals_of b producer) ≡ producer_figures b producer
  pub of_declaration : (b : Book) (consumer : ℕ) → declaration_values (declaration_of b consumer) ≡ declaration_figures b consumer
  pub of_adjustment : (b : Book) (consumer : ℕ) → adjustment_values (adjustment_of b consumer) ≡ adjustment_figures b consumer
