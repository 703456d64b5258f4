-- What a listing or a screen asks of a book. A number out of its range has the answer of one that is not there.
use Rattle.state.specs.declared.kept.Entry.{Entry}
use Rattle.std.specs.Prelude.{Bool, false, List, ℕ, ◌-◌, leb, eqb, get_or, Option, None, Some}
use Rattle.std.specs.List.{list_any}
use Rattle.basis.specs.Choice.{pick, between}
use Rattle.quantities.specs.Limits.{units, producers, consumers}
use Rattle.state.specs.declared.kept.Stage.TheVariants.{Closed}
use Rattle.state.specs.declared.kept.Unit.{Unit}
use Rattle.state.specs.declared.kept.Declaration.{Declaration}
use Rattle.state.specs.declared.kept.Declaration.TheVariants.{Undeclared, Declared}
use Rattle.state.specs.declared.kept.Book.{Book}
use Rattle.questions.specs.declared.Offers.{Offers}
use Rattle.questions.specs.declared.Totals.{Totals}
use Rattle.questions.specs.declared.Signed.{Signed}
use Rattle.questions.specs.declared.Signed.TheVariants.{Plus, Minus}
use Rattle.questions.specs.declared.Adjustment.{Adjustment}
use Rattle.questions.specs.declared.CloseTotals.{CloseTotals}
use Rattle.state.specs.State.{stage_number, unit_at, consumer_at}
use Rattle.decision.specs.ContractCalls.{producer_balance}

-- line U: an enrolled unit's offer and efficient offer
abbrev pub offers_by : Option Entry → ℕ → ℕ → Option Offers
offers_by None firm efficient = None
offers_by (Some e) firm efficient = Some (record { firm = firm; efficient = efficient })

unfoldable pub unit_offers_of : Book → ℕ → Option Offers
unit_offers_of b unit =
    pick (between 1 units unit)
    (offers_by (unit_at b.units unit).enrolment (get_or b.offers (unit - 1) 0) (get_or b.efficient (unit - 1) 0))
    None

-- one of the units is enrolled by the producer
abbrev pub owned_by : ℕ → Option Entry → Bool
owned_by producer None = false
owned_by producer (Some e) = eqb e.producer producer

abbrev pub has_unit : ℕ → List Unit → Bool
has_unit producer us = list_any (λ (u : Unit). owned_by producer u.enrolment) us

-- line P: a producer with a unit, its efficient total, the sum of its balances
unfoldable pub producer_totals_of : Book → ℕ → Option Totals
producer_totals_of b producer =
    pick (between 1 producers producer)
    (pick (has_unit producer b.units)
    (Some (record { limit = get_or b.limits (producer - 1) 0; committed = producer_balance b.balances producer }))
    None)
    None

-- line D: what a consumer declared, with its firm demand
unfoldable pub declaration_of : Book → ℕ → Declaration
declaration_of b consumer =
    pick (between 1 consumers consumer) (consumer_at b.consumers consumer).declaration Undeclared

-- a difference with its sign
abbrev pub signed_of : ℕ → ℕ → Signed
signed_of a b = pick (leb b a) (Plus (a - b)) (Minus (b - a))

-- line S: ADF = DF - DFA, and the cents, of a declared consumer in a closed book
abbrev pub adjustment_by : Declaration → ℕ → ℕ → ℕ → Option Adjustment
adjustment_by Undeclared dfa charge credit = None
adjustment_by (Declared f) dfa charge credit = Some (record { adf = signed_of f.df dfa; charge = charge; credit = credit })

unfoldable pub adjustment_of : Book → ℕ → Option Adjustment
adjustment_of b consumer =
    pick (eqb (stage_number b.stage) (stage_number Closed))
    (pick (between 1 consumers consumer)
    (adjustment_by (consumer_at b.consumers consumer).declaration
    (get_or b.closing.adjusted (consumer - 1) 0)
    (get_or b.closing.charges (consumer - 1) 0)
    (get_or b.closing.credits (consumer - 1) 0))
    None)
    None

-- line T: charges, credits, undistributed
unfoldable pub close_totals_of : Book → CloseTotals
close_totals_of b = record { charged = b.closing.charged; credited = b.closing.credited; undistributed = b.closing.undistributed }
