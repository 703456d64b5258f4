-- The close (2.6.5.2), declared consumers only.
use Rattle.std.specs.Prelude.{Bool, List, [], map, ℕ, ◌-◌, ◌*◌, ◌/◌, leb, ltb, eqb, replicate, Option, None, Some, is_some}
use Rattle.std.specs.List.{list_all, zip}
use Rattle.std.specs.Option.{option_or}
use Rattle.basis.specs.Choice.{pick}
use Rattle.basis.specs.Sums.{sum, all_at_most}
use Rattle.share.specs.Division.{division_number, shares}
use Rattle.quantities.specs.Limits.{greatest_total, greatest_power, consumers}
use Rattle.table.specs.declared.calls.Call.TheVariants as call
use Rattle.state.specs.declared.kept.Stage.{Stage}
use Rattle.state.specs.declared.kept.Stage.TheVariants.{Firm, Closed}
use Rattle.state.specs.declared.kept.Declaration.{Declaration}
use Rattle.state.specs.declared.kept.Declaration.TheVariants.{Undeclared, Declared}
use Rattle.state.specs.declared.kept.Consumer.{Consumer}
use Rattle.state.specs.declared.kept.CloseFigures.{CloseFigures}
use Rattle.state.specs.declared.kept.Book.{Book}
use Rattle.state.specs.State.{Reply}
use Rattle.state.specs.State.{ranged, staged, reply_of}
use Rattle.fix.specs.Fix.{weights_of}

-- "declared consumers only": the undeclared are asked for no Dreal, and 0 stands in its place
abbrev pub asked_of : Declaration → Option ℕ → Option ℕ
asked_of Undeclared real = Some 0
asked_of (Declared f) real = real

-- Dreal (document 02, A4): the mean, "[w]here it stands, .. whether or not a reading exists", else the reading
abbrev pub real_demand : Consumer → Option ℕ
real_demand x = asked_of x.declaration (option_or x.mean x.reading)

unfoldable pub reals_of : List Consumer → List (Option ℕ)
reals_of xs = map real_demand xs

-- DFA = Dreal·DMP / ΣD; who is asked and has no Dreal has no DFA, and stops the close: 0 stands in its place
abbrev pub adjusted_by : ℕ → ℕ → Option ℕ → ℕ
adjusted_by dmp total None = 0
adjusted_by dmp total (Some dreal) = dreal * dmp / total

unfoldable pub all_adjusted : ℕ → ℕ → List (Option ℕ) → List ℕ
all_adjusted dmp total reals = map (adjusted_by dmp total) reals

abbrev pub adjusted_of : ℕ → ℕ → Consumer → ℕ
adjusted_of dmp total x = adjusted_by dmp total (real_demand x)

unfoldable pub adjusted_in : ℕ → List Consumer → List ℕ
adjusted_in dmp xs = all_adjusted dmp (sum (weights_of xs)) (reals_of xs)

-- ADF = DF - DFA where that is positive, else 0
abbrev pub surplus_by : ℕ → Declaration → ℕ
surplus_by dfa Undeclared = 0
surplus_by dfa (Declared f) = f.df - dfa

-- "If ADF < 0 and 100·D < 98·A, the charge is -ADF·P·12"
abbrev pub charge_by : ℕ → ℕ → Declaration → ℕ
charge_by p dfa Undeclared = 0
charge_by p dfa (Declared f) = pick (ltb (100 * f.d) (98 * f.a)) ((dfa - f.df) * p * 12) 0

unfoldable pub surpluses_in : ℕ → List Consumer → List ℕ
surpluses_in dmp xs = map (λ x. surplus_by (adjusted_of dmp (sum (weights_of xs)) x) x.declaration) xs

-- the charge of each consumer, by its DFA
unfoldable pub charges_of : ℕ → List ℕ → List Consumer → List ℕ
charges_of p adjusted xs = map (λ (f : ℕ × Consumer). charge_by p f.0 f.1.declaration) (zip adjusted xs)

unfoldable pub charges_in : ℕ → ℕ → List Consumer → List ℕ
charges_in p dmp xs = charges_of p (adjusted_in dmp xs) xs

-- "The charges are divided by the positive ADF; with none, all is undistributed."
unfoldable pub credits_of : ℕ → List ℕ → List ℕ
credits_of total surpluses =
    pick (eqb (division_number total surpluses consumers) 0) (shares total surpluses) (replicate consumers 0)

unfoldable pub undistributed_of : ℕ → List ℕ → ℕ
undistributed_of total surpluses = pick (eqb (division_number total surpluses consumers) 0) 0 total

-- no declared consumer "has neither a reading nor a mean"
unfoldable pub all_heard : List (Option ℕ) → Bool
all_heard reals = list_all is_some reals

-- 19, "after 14: charges above 6,000,000,000,000 cents" (document 02, A7)
abbrev pub charged_rest : List ℕ → ℕ
charged_rest charges = pick (leb (sum charges) greatest_total) 0 19

-- behind 3 and 4: 16, "checked before 14: close while a declared consumer has neither a reading nor a mean"; 14, a DFA above 3,000,000; 19
abbrev pub close_rest : ℕ → ℕ → ℕ → List (Option ℕ) → List Consumer → ℕ
close_rest p dmp total reals xs =
    pick (all_heard reals)
    (pick (all_at_most greatest_power (all_adjusted dmp total reals)) (charged_rest (charges_of p (all_adjusted dmp total reals) xs)) 14) 16

-- close: 3, 4, 16, 14, 19; from DMP, ΣD, and the Dreal and the declaration of all consumers
unfoldable pub close_number_by : Stage → ℕ → ℕ → List (Option ℕ) → List Consumer → ℕ → ℕ
close_number_by stage dmp total reals xs p =
    ranged (call.Close p) [] (staged Firm stage (close_rest p dmp total reals xs))

abbrev pub close_number : Book → ℕ → ℕ
close_number b p =
    close_number_by b.stage b.dmp (sum (weights_of b.consumers)) (reals_of b.consumers) b.consumers p

-- the figures of a close at P
unfoldable pub figures_of : ℕ → ℕ → List Consumer → CloseFigures
figures_of p dmp xs =
    let charges = charges_in p dmp xs in
    let surpluses = surpluses_in dmp xs in
    let credits = credits_of (sum charges) surpluses in
    record {
      adjusted = adjusted_in dmp xs;
      charges = charges;
      credits = credits;
      charged = sum charges;
      credited = sum credits;
      undistributed = undistributed_of (sum charges) surpluses;
    }

-- "close leads to closed"
unfoldable pub closed : Book → ℕ → Book
closed b p =
    record {
      stage = Closed;
      hours = b.hours;
      units = b.units;
      consumers = b.consumers;
      balances = b.balances;
      dmp = b.dmp;
      offers = b.offers;
      efficient = b.efficient;
      limits = b.limits;
      closing = figures_of p b.dmp b.consumers;
    }

unfoldable pub close_of : Book → ℕ → Reply
close_of b p = reply_of (close_number b p) b (closed b p)
