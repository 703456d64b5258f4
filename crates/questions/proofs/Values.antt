-- The values of each answer are the figures of the book.
use Rattle.std.specs.Prelude.{Option, None, Some}
use Rattle.state.specs.declared.kept.Entry.{Entry}
use mathlib.Core.Path.{◌≡◌, refl, ap, ◌∙◌}
use mathlib.Core.Bool.{Bool, true, false}
use mathlib.Core.List.{[], ◌∷◌}
use Prim.Native.Nat.{ℕ, ◌-◌}
use native.Mathlib.Omega.{arith}
use borrow.Author.Tests.{leb-true, leb-false}
use lib.Dec.{leb, eqb}
use lib.ListN.{get_or}
use Rattle.basis.specs.Choice.{pick, between}
use Rattle.basis.specs.Sums.{sum}
use Rattle.quantities.specs.Limits.{units, producers, consumers}
use Rattle.state.specs.declared.kept.Stage.TheVariants.{Closed}
use Rattle.state.specs.declared.kept.Declaration.{Declaration}
use Rattle.state.specs.declared.kept.Declaration.TheVariants.{Undeclared, Declared}
use Rattle.state.specs.declared.kept.Book.{Book}
use Rattle.state.specs.State.{stage_number, unit_at, consumer_at, row_of}
use Rattle.questions.specs.declared.Offers.{Offers}
use Rattle.questions.specs.declared.Totals.{Totals}
use Rattle.questions.specs.declared.Signed.TheVariants.{Plus, Minus}
use Rattle.questions.specs.declared.Adjustment.{Adjustment}
use Rattle.questions.specs.Questions.{offers_by, has_unit, signed_of, adjustment_by}
use Rattle.questions.specs.Questions.{unit_offers_of, producer_totals_of, declaration_of, adjustment_of}
use Rattle.questions.specs.Values.{unit_values, producer_values, declaration_values, signed_value, difference, adjustment_values}
use Rattle.questions.specs.Values.{enrolled_by, unit_figures, producer_figures, where_declared, declaration_figures, adjustment_figures}
use Rattle.questions.specs.Values.{ValuesOfTheBook}

of_unit : (b : Book) (unit : ℕ) → unit_values (unit_offers_of b unit) ≡ unit_figures b unit
unfolding unit_offers_of unit_figures
of_unit b unit =
    go (between 1 units unit) (unit_at b.units unit).enrolment
    (get_or b.offers (unit - 1) 0)
    (get_or b.efficient (unit - 1) 0)
  where
    go : (t : Bool) (e : Option Entry) (firm efficient : ℕ)
        → unit_values (pick t (offers_by e firm efficient) None) ≡ pick (pick t (enrolled_by e) false) (firm ∷ efficient ∷ []) []
    go true None firm efficient = refl
    go true (Some e) firm efficient = refl
    go false e firm efficient = refl

of_producer : (b : Book) (producer : ℕ) → producer_values (producer_totals_of b producer) ≡ producer_figures b producer
unfolding producer_totals_of producer_figures
of_producer b producer =
    go (between 1 producers producer) (has_unit producer b.units)
    (get_or b.limits (producer - 1) 0)
    (sum (row_of b.balances producer))
  where
    go : (t h : Bool) (limit s : ℕ)
        → producer_values (pick t (pick h (Some (record { limit = limit; committed = pick t s 0 })) None) None) ≡ pick (pick t h false) (limit ∷ s ∷ []) []
    go true true limit s = refl
    go true false limit s = refl
    go false h limit s = refl

of_declaration : (b : Book) (consumer : ℕ) → declaration_values (declaration_of b consumer) ≡ declaration_figures b consumer
unfolding declaration_of declaration_figures
of_declaration b consumer = go (between 1 consumers consumer) (consumer_at b.consumers consumer).declaration
  where
    go : (t : Bool) (x : Declaration)
        → declaration_values (pick t x Undeclared) ≡ pick t (where_declared x (λ f. f.d ∷ f.a ∷ f.df ∷ [])) []
    go true Undeclared = refl
    go true (Declared f) = refl
    go false x = refl

signed_difference : (a b : ℕ) → signed_value (signed_of a b) ≡ difference a b
signed_difference a b = go (leb b a) refl
  where
    go : (t : Bool) → leb b a ≡ t → signed_value (pick t (Plus (a - b)) (Minus (b - a))) ≡ difference a b
    go true e = let h = leb-true b a e in ap (λ n. (a - b, n)) (omega arith)
    go false e = let h = leb-false b a e in ap (λ n. (n, b - a)) (omega arith)

of_adjustment : (b : Book) (consumer : ℕ) → adjustment_values (adjustment_of b consumer) ≡ adjustment_figures b consumer
unfolding adjustment_of adjustment_figures
of_adjustment b consumer =
    go (eqb (stage_number b.stage) (stage_number Closed)) (between 1 consumers consumer) (consumer_at b.consumers consumer).declaration
    (get_or b.closing.adjusted (consumer - 1) 0)
    (get_or b.closing.charges (consumer - 1) 0)
    (get_or b.closing.credits (consumer - 1) 0)
  where
    go : (s t : Bool) (x : Declaration) (dfa charge credit : ℕ)
        → adjustment_values (pick s (pick t (adjustment_by x dfa charge credit) None) None)
        ≡ pick s (pick t (where_declared x (λ f. difference f.df dfa ∷ difference credit charge ∷ [])) []) []
    go true true Undeclared dfa charge credit = refl
    go true true (Declared f) dfa charge credit = ap (λ adf. adf ∷ difference credit charge ∷ []) (signed_difference f.df dfa)
    go true false x dfa charge credit = refl
    go false t x dfa charge credit = refl

pub values_of_the_book : ValuesOfTheBook
values_of_the_book =
    record {
      of_unit = of_unit;
      of_producer = of_producer;
      of_declaration = of_declaration;
      of_adjustment = of_adjustment;
    }

-- an answer by its definition has the values of the book
pub unit_told : (b : Book) (unit : ℕ) {r : Option Offers}
    → r ≡ unit_offers_of b unit → (r ≡ unit_offers_of b unit) × (unit_values r ≡ unit_figures b unit)
unit_told b unit e = (e, ap unit_values e ∙ of_unit b unit)

pub producer_told : (b : Book) (producer : ℕ) {r : Option Totals}
    → r ≡ producer_totals_of b producer → (r ≡ producer_totals_of b producer) × (producer_values r ≡ producer_figures b producer)
producer_told b producer e = (e, ap producer_values e ∙ of_producer b producer)

pub declaration_told : (b : Book) (consumer : ℕ) {r : Declaration}
    → r ≡ declaration_of b consumer → (r ≡ declaration_of b consumer) × (declaration_values r ≡ declaration_figures b consumer)
declaration_told b consumer e = (e, ap declaration_values e ∙ of_declaration b consumer)

pub adjustment_told : (b : Book) (consumer : ℕ) {r : Option Adjustment}
    → r ≡ adjustment_of b consumer → (r ≡ adjustment_of b consumer) × (adjustment_values r ≡ adjustment_figures b consumer)
adjustment_told b consumer e = (e, ap adjustment_values e ∙ of_adjustment b consumer)
