-- The fix: firm and efficient offers, what each producer may commit, and firm demand (2.1, 2.2, 2.6.5.1).
use Rattle.state.specs.declared.kept.Entry.{Entry}
use Rattle.std.specs.Prelude.{List, [], map, ℕ, suc, min, ◌*◌, eqb, get_or, Option, None, Some}
use Rattle.basis.specs.Choice.{pick}
use Rattle.basis.specs.Sums.{sum_up}
use Rattle.basis.specs.Tables.{tab}
use Rattle.share.specs.Division.{division_number, shares}
use Rattle.quantities.specs.Limits.{greatest_power, units, producers, consumers}
use Rattle.plant.specs.Offer.{firm_offer}
use Rattle.plant.specs.Efficient.{chosen_year, efficient_offers}
use Rattle.power.specs.declared.component.Hours.{Hours}
use Rattle.table.specs.declared.calls.Call.TheVariants as call
use Rattle.state.specs.declared.kept.Stage.{Stage}
use Rattle.state.specs.declared.kept.Stage.TheVariants.{Gathering, Firm}
use Rattle.state.specs.declared.kept.Unit.{Unit}
use Rattle.state.specs.declared.kept.Declaration.{Declaration}
use Rattle.state.specs.declared.kept.Declaration.TheVariants.{Undeclared, Declared}
use Rattle.state.specs.declared.kept.Consumer.{Consumer}
use Rattle.state.specs.declared.kept.Book.{Book}
use Rattle.state.specs.State.{Reply}
use Rattle.state.specs.State.{fresh_unit, fresh_consumer, ranged, staged, reply_of}

-- the firm offer of a unit, 0 if not enrolled
abbrev pub offer_by : Hours → Unit → Option Entry → ℕ
offer_by h u None = 0
offer_by h u (Some e) = (firm_offer e.plant h u.components.set u.components.generator u.components.storage).0

unfoldable pub offers_of : Hours → List Unit → List ℕ
offers_of h us = map (λ u. offer_by h u u.enrolment) us

-- the flags and the producer of a unit, 0 if not enrolled
abbrev pub flags_by : Option Entry → ℕ
flags_by None = 0
flags_by (Some e) = e.flags

abbrev pub producer_by : Option Entry → ℕ
producer_by None = 0
producer_by (Some e) = e.producer

unfoldable pub flags_of : List Unit → List ℕ
flags_of us = map (λ u. flags_by u.enrolment) us

unfoldable pub efficient_in : List Unit → List ℕ → List ℕ
efficient_in us offers = efficient_offers units (chosen_year units (flags_of us) offers) (flags_of us) offers

-- what all units offer at most, which no producer's units exceed
abbrev pub greatest_limit : ℕ
greatest_limit = units * greatest_power

-- what a unit adds to a producer's limit: its efficient offer, if it is the producer's
abbrev pub added_at : List Unit → List ℕ → ℕ → ℕ → ℕ
added_at us efficient p i = pick (eqb (producer_by (get_or us i fresh_unit).enrolment) p) (get_or efficient i 0) 0

-- the efficient offers of a producer's units
unfoldable pub limit_of : List Unit → List ℕ → ℕ → ℕ
limit_of us efficient p = min greatest_limit (sum_up (added_at us efficient p) units)

unfoldable pub limits_of : List Unit → List ℕ → List ℕ
limits_of us efficient = tab (λ i. limit_of us efficient (suc i)) producers

-- "the undeclared have 0 and count as declaring 0"
abbrev pub declared_by : Declaration → ℕ
declared_by Undeclared = 0
declared_by (Declared f) = f.d

unfoldable pub weights_of : List Consumer → List ℕ
weights_of xs = map (λ x. declared_by x.declaration) xs

-- a declared consumer's firm demand
abbrev pub demand_by : ℕ → Declaration → Declaration
demand_by df Undeclared = Undeclared
demand_by df (Declared f) = Declared (record { d = f.d; a = f.a; df = df })

abbrev pub with_demand : ℕ → Consumer → Consumer
with_demand df x = record { declaration = demand_by df x.declaration; reading = x.reading; mean = x.mean }

unfoldable pub with_demands : List ℕ → List Consumer → List Consumer
with_demands demands xs = tab (λ i. with_demand (get_or demands i 0) (get_or xs i fresh_consumer)) consumers

-- behind 3 and 4: what the division of DMP by D meets, which is 13
abbrev pub fix_rest : ℕ → List Consumer → ℕ
fix_rest dmp xs = division_number dmp (weights_of xs) consumers

-- fix: 3, 4, 13
unfoldable pub fix_number_by : Stage → List Consumer → ℕ → ℕ
fix_number_by stage xs dmp = ranged (call.Fix dmp) [] (staged Gathering stage (fix_rest dmp xs))

abbrev pub fix_number : Book → ℕ → ℕ
fix_number b dmp = fix_number_by b.stage b.consumers dmp

-- "fix leads to firm"; DF "divides DMP by D"
unfoldable pub fixed : Book → ℕ → Book
fixed b dmp =
    let offers = offers_of b.hours b.units in
    let efficient = efficient_in b.units offers in
    record {
      stage = Firm;
      hours = b.hours;
      units = b.units;
      consumers = with_demands (shares dmp (weights_of b.consumers)) b.consumers;
      balances = b.balances;
      dmp = dmp;
      offers = offers;
      efficient = efficient;
      limits = limits_of b.units efficient;
      closing = b.closing;
    }

unfoldable pub fix_of : Book → ℕ → Reply
fix_of b dmp = reply_of (fix_number b dmp) b (fixed b dmp)
