-- The figures of document 01, taken from the accepted calls' fields and readings alone.
use Rattle.std.specs.Prelude.{List, ℕ, suc, ◌-◌, eqb, get_or, Option, None, Some}
use Rattle.basis.specs.Choice.{pick}
use Rattle.basis.specs.Sums.{sum, sum_up}
use Rattle.basis.specs.Tables.{tab}
use Rattle.share.specs.Division.{shares}
use Rattle.power.specs.Power.{maximum_power}
use Rattle.quantities.specs.Limits.{units, consumers}
use Rattle.state.specs.declared.kept.Unit.{Unit}
use Rattle.state.specs.declared.kept.Declaration.{Declaration}
use Rattle.state.specs.declared.kept.Declaration.TheVariants.{Undeclared, Declared}
use Rattle.state.specs.declared.kept.Consumer.{Consumer}
use Rattle.book.specs.Lists.{Event}
use Rattle.fix.specs.Fix.{offers_of, efficient_in, producer_by}
use Rattle.close.specs.Close.{adjusted_in, surpluses_in, charges_in, credits_of, undistributed_of}
use Rattle.claims.specs.History.{field, field_in, fixed_in, hours_in, dmp_in, price_in, declared_in, metered_in, mean_in, entry_in, component_in}

-- a unit and its components
abbrev pub unit_in : List Event → ℕ → Unit
unit_in h u =
    record {
      enrolment = entry_in h u;
      components =
          record {
            set = component_in h u 0;
            generator = component_in h u 1;
            storage = component_in h u 2;
          };
    }

unfoldable pub units_in : List Event → List Unit
units_in h = tab (λ i. unit_in h (suc i)) units

-- PP, the maximum power of a unit in watts: that of component 0
abbrev pub power_in : List Event → ℕ → ℕ
power_in h u = (maximum_power (component_in h u 0)).0

-- the firm offers of all units, and the efficient offers
unfoldable pub offers_in : List Event → List ℕ
offers_in h = offers_of (hours_in h) (units_in h)

unfoldable pub efficient_offers_in : List Event → List ℕ
efficient_offers_in h = efficient_in (units_in h) (offers_in h)

abbrev pub efficient_offer_in : List Event → ℕ → ℕ
efficient_offer_in h u = get_or (efficient_offers_in h) (u - 1) 0

-- the efficient offers of a producer's units
abbrev pub producer_offer_in : List Event → ℕ → ℕ
producer_offer_in h p =
    sum_up (λ i. pick (eqb (producer_by (entry_in h (suc i))) p) (efficient_offer_in h (suc i)) 0) units

-- D of each consumer, and ΣD: "the sum is over all consumers"
unfoldable pub declarations_in : List Event → List ℕ
declarations_in h = tab (λ i. field_in 1 (declared_in h (suc i))) consumers

abbrev pub total_declared_in : List Event → ℕ
total_declared_in h = sum (declarations_in h)

-- DF "divides DMP by D", once the year is fixed
unfoldable pub demand_in : List Event → ℕ → ℕ
demand_in h c = pick (fixed_in h) (get_or (shares (dmp_in h) (declarations_in h)) (c - 1) 0) 0

-- what a consumer declared, with its firm demand, its reading and its mean
abbrev pub declaration_by : ℕ → Option Event → Declaration
declaration_by df None = Undeclared
declaration_by df (Some e) = Declared (record { d = field 1 e; a = field 2 e; df = df })

abbrev pub reading_by : Option Event → Option ℕ
reading_by None = None
reading_by (Some e) = Some (field 1 e)

abbrev pub consumer_in : List Event → ℕ → Consumer
consumer_in h c =
    record {
      declaration = declaration_by (demand_in h c) (declared_in h c);
      reading = reading_by (metered_in h c);
      mean = reading_by (mean_in h c);
    }

unfoldable pub consumers_in : List Event → List Consumer
consumers_in h = tab (λ i. consumer_in h (suc i)) consumers

-- DFA, the positive adjustments, the charges and the credits of all consumers, and what nobody gets
unfoldable pub adjusted_demands_in : List Event → List ℕ
adjusted_demands_in h = adjusted_in (dmp_in h) (consumers_in h)

unfoldable pub positive_adjustments_in : List Event → List ℕ
positive_adjustments_in h = surpluses_in (dmp_in h) (consumers_in h)

unfoldable pub all_charges_in : List Event → List ℕ
all_charges_in h = charges_in (price_in h) (dmp_in h) (consumers_in h)

unfoldable pub all_credits_in : List Event → List ℕ
all_credits_in h = credits_of (sum (all_charges_in h)) (positive_adjustments_in h)

unfoldable pub undistributed_in : List Event → ℕ
undistributed_in h = undistributed_of (sum (all_charges_in h)) (positive_adjustments_in h)
