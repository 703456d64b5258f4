-- The calls of a unit: an accepted one keeps what is kept, and the number of any one.
use Rattle.std.specs.Prelude.{Option, None, Some}
use Rattle.power.specs.declared.quantity.Kw.{Kw}
use mathlib.Core.Path.{◌≡◌, refl, sym, ap, ◌∙◌}
use mathlib.Core.Bool.{Bool, true, false}
use mathlib.Core.List.{List, ◌∷◌}
use Prim.Native.Nat.{ℕ, ◌-◌, zero-le}
use native.Mathlib.Nat.{le_refl}
use native.Mathlib.Omega.{arith}
use borrow.Author.Tests.{eq-eqb, ne_eqb, eqb-true, eqb-false}
use lib.Dec.{eqb}
use lib.ListN.{set}
use Rattle.basis.specs.Choice.{pick}
use Rattle.power.specs.Power.{fresh, count_fits, test_number}
use Rattle.plant.specs.Availability.{minutes_fit, availability_number}
use Rattle.power.specs.declared.component.Minutes.{Minutes}
use Rattle.power.specs.declared.component.Trial.{Trial}
use Rattle.quantities.specs.Limits.{units}
use Rattle.table.specs.Records.{parts_of}
use Rattle.table.specs.Records as name
use Rattle.table.specs.Ranges.{call_number, rest_in_range}
use Rattle.table.specs.declared.calls.Call.TheVariants as call
use Rattle.table.specs.declared.units.Enrolling.{Enrolling}
use Rattle.table.specs.declared.units.UnitCall.{UnitCall}
use Rattle.table.specs.declared.units.UnitCall.TheVariants.{Enrol, Test, Availability}
use Rattle.table.proofs.Laws.{in_range}
use Rattle.table.proofs.Laws.{Numbered}
use Rattle.table.proofs.UnitLaws.{unit-numbered, test-ranged, availability-ranged}
use Rattle.state.specs.declared.kept.Stage.TheVariants.{Gathering}
use Rattle.state.specs.declared.kept.Entry.{Entry}
use Rattle.state.specs.declared.kept.Unit.{Unit}
use Rattle.state.specs.declared.kept.Book.{Book}
use Rattle.state.specs.State.{unit_at, ranged}
use Rattle.gathering.specs.Units.{vacancy, entry_of, cap_of, enrolled_unit, has_test, has_availability, unit_rest, unit_after, unit_number, after_unit}
use Rattle.book.specs.Lists.{Event}
use Rattle.claims.specs.History.{happened, about, last_that, fixed_in, closed_in, begun_in, entry_by, entry_in, component_in}
use Rattle.claims.specs.Figures.{unit_in}
use Rattle.claims.specs.Refusals.{at_stage, already_enrolled, enrolled_as, number_in}
use Rattle.claims.proofs.SameFigures.{unit_is, about-last, about_another, component_as_before}
use Rattle.claims.proofs.Parts.{the_timing, the_consumers, the_contracts, the_firm_year, the_money, Untouched}
use Rattle.claims.proofs.Stages.{gathering_is, accepted_shows, behind}
use Rattle.claims.proofs.Kept.{Within, Plants, Kept}
use Rattle.claims.proofs.Untouched.{timing_other, consumers-other, contracts_other, firm_before, money_before}
use Rattle.claims.proofs.Places.{unit_at_lem, unit-stored}
use Rattle.claims.proofs.Components.{test_in, available_in, test_plants, availability_plants}

-- no unit is enrolled under the number
vacant_never : (l : Option Event) → vacancy (entry_by l) ≡ 0 → l ≡ None
vacant_never None z = refl
vacant_never (Some e) z = absurd (omega arith)

-- without a test every injection is kept to
fresh-within : (c : Option Kw) → Within c fresh
fresh-within None = le_refl 0
fresh-within (Some m) = zero-le

-- the units after an accepted enrolment
module _ (h : List Event) (b : Book) (k : Kept h b) (unit : ℕ) (enrolling : Enrolling) (readings : List ℕ) (numbered : Numbered units unit) (z : vacancy (unit_at b.units unit).enrolment ≡ 0) where
  abbrev entry : Entry
  entry =
      entry_of enrolling.producer enrolling.kind enrolling.flags enrolling.pic enrolling.ppr enrolling.e1 enrolling.e2 enrolling.cap

  abbrev enrol : Event
  enrol = record { call = call.Unit unit (Enrol enrolling); readings = readings }

  new : last_that (about name.Unit unit) h ≡ None
  new =
      vacant_never (last_that (about name.Unit unit) h)
      (ap (λ (u : Unit). vacancy u.enrolment) (sym (unit_at_lem h b k unit numbered)) ∙ z)

  this_unit : last_that (about name.Unit unit) (enrol ∷ h) ≡ Some enrol
  unfolding parts_of
  this_unit = about-last enrol h name.Unit unit refl (eq-eqb unit unit refl)

  other-unit : (w : ℕ) → (w ≡ unit → ⊥) → last_that (about name.Unit w) (enrol ∷ h) ≡ last_that (about name.Unit w) h
  unfolding parts_of
  other-unit w o = about_another enrol h name.Unit w (ne_eqb unit w (λ q. o (sym q)))

  same_component : (u j : ℕ) → component_in (enrol ∷ h) u j ≡ component_in h u j
  unfolding parts_of
  same_component u j = component_as_before enrol h refl refl u j

  of_unit : (u : ℕ) (t : Bool) → eqb u unit ≡ t → (Within (cap_of (entry_in (enrol ∷ h) u)) fresh) → ((j : ℕ) → Within (cap_of (entry_in (enrol ∷ h) u)) (component_in (enrol ∷ h) u j)) × ((j : ℕ) → last_that (about name.Unit u) (enrol ∷ h) ≡ None → component_in (enrol ∷ h) u j ≡ fresh)
  of_unit u true q w =
      let s = eqb-true u unit q in
      let nothing : (j : ℕ) → component_in (enrol ∷ h) u j ≡ fresh =
      λ j. same_component u j ∙ k.plants.untested u j (ap (λ n. last_that (about name.Unit n) h) s ∙ new) in
      ((λ j. rw (nothing j) w), λ j r. nothing j)
  of_unit u false q w =
      let o = other-unit u (eqb-false u unit q) in
      ((λ j. rw (ap entry_by o, same_component u j) (k.plants.power_capped u j)), λ j r. same_component u j ∙ k.plants.untested u j (sym o ∙ r))

  enrol_plants : Plants (enrol ∷ h) (set b.units (unit - 1) (enrolled_unit entry))
  unfolding parts_of
  enrol_plants =
      let free : (j : ℕ) → component_in (enrol ∷ h) unit j ≡ fresh = λ j. same_component unit j ∙ k.plants.untested unit j new in
      record {
        units_kept =
            unit-stored h b k enrol unit (enrolled_unit entry) numbered
            (unit_is (ap entry_by this_unit) (free 0) (free 1) (free 2))
            (λ w o. unit_is (ap entry_by (other-unit w o)) (same_component w 0) (same_component w 1) (same_component w 2));
        power_capped = λ u. (of_unit u (eqb u unit) refl (fresh-within (cap_of (entry_in (enrol ∷ h) u)))).0;
        power_small = λ u j. rw (same_component u j) (k.plants.power_small u j);
        untested = λ u. (of_unit u (eqb u unit) refl (fresh-within (cap_of (entry_in (enrol ∷ h) u)))).1;
      }

abbrev event : ℕ → UnitCall → List ℕ → Event
event unit act readings = record { call = call.Unit unit act; readings = readings }

-- a call of a unit touches plants, and of the fix only what it works from
beside_plants : (unit : ℕ) (act : UnitCall) (readings : List ℕ) → Untouched the_timing (event unit act readings) × Untouched the_consumers (event unit act readings) × Untouched the_contracts (event unit act readings) × Untouched the_firm_year (event unit act readings) × Untouched the_money (event unit act readings)
beside_plants unit (Enrol enrolling) readings = (refl, refl, refl, refl, refl)
beside_plants unit (Test component trial) readings = (refl, refl, refl, refl, refl)
beside_plants unit (Availability component m) readings = (refl, refl, refl, refl, refl)

-- the number behind 3 and 4: of an enrolment, of a test in range, and of an availability in range
vacancy_in : (l : Option Event) → vacancy (entry_by l) ≡ pick (happened l) 5 0
vacancy_in None = refl
vacancy_in (Some e) = refl

test-number : (unit component : ℕ) (trial : Trial) (rs : List ℕ) → call_number (call.Unit unit (Test component trial)) rs ≡ 0 → test_number trial.ending trial.tc trial.count rs ≡ pick (count_fits trial.ending trial.tc trial.count) 0 8
unfolding rest_in_range
test-number unit component trial rs z =
    ap (λ t. pick t (pick (count_fits trial.ending trial.tc trial.count) 0 8) 3) (in_range (call.Unit unit (Test component trial)) rs z).1

availability-number : (unit component : ℕ) (m : Minutes) (rs : List ℕ) → call_number (call.Unit unit (Availability component m)) rs ≡ 0 → availability_number m ≡ pick (minutes_fit m) 0 9
availability-number unit component m rs z =
    ap (λ t. pick t (pick (minutes_fit m) 0 9) 3) (availability-ranged unit component m rs z).minutes

module _ (h : List Event) (b : Book) (k : Kept h b) (unit : ℕ) where
  abbrev was : Unit
  was = unit_at b.units unit

  plants_after : (act : UnitCall) (readings : List ℕ) → call_number (call.Unit unit act) readings ≡ 0 → unit_rest act was readings ≡ 0 → Plants (event unit act readings ∷ h) (set b.units (unit - 1) (unit_after act was readings))
  unfolding unit_rest unit_after
  plants_after (Enrol enrolling) readings r z =
      enrol_plants h b k unit enrolling readings (unit-numbered unit (Enrol enrolling) readings r) z
  plants_after (Test component trial) readings r z =
      let ranges = test-ranged unit component trial readings r in
      test_plants h b k unit component ranges.unit ranges.component trial readings z
  plants_after (Availability component m) readings r z =
      let ranges = availability-ranged unit component m readings r in
      availability_plants h b k unit component ranges.unit ranges.component m readings z

  pub unit_kept : (act : UnitCall) (readings : List ℕ) → unit_number unit act b.stage was readings ≡ 0 → Kept (event unit act readings ∷ h) (after_unit b unit act readings)
  unfolding unit_number after_unit
  unit_kept act readings z =
      let e = event unit act readings in
      let shown = accepted_shows (call.Unit unit act) readings Gathering b.stage (unit_rest act was readings) z in
      let gathering = gathering_is (closed_in h) (fixed_in h) (begun_in h) (sym k.timing.stage_kept ∙ shown.stage) in
      let beside = beside_plants unit act readings in
      record {
        timing = timing_other e h beside.0 k.timing;
        plants = plants_after act readings shown.range shown.rest;
        consumers = consumers-other e h beside.1 k.consumers;
        contracts = contracts_other e h beside.2 k.contracts;
        firm = firm_before e h beside.3 gathering.1 k.firm;
        money = money_before e h beside.4 gathering.0;
      }

  -- the number, from what is left behind 3 and 4 for the unit that the history tells of
  exact_by : (act : UnitCall) (readings : List ℕ) (theirs : ℕ) → (call_number (call.Unit unit act) readings ≡ 0 → unit_rest act (unit_in h unit) readings ≡ theirs) → unit_number unit act b.stage was readings ≡ ranged (call.Unit unit act) readings (at_stage 1 h theirs)
  unfolding unit_number
  exact_by act readings theirs f =
      behind h b.stage k.timing.stage_kept (call.Unit unit act) readings Gathering (unit_rest act was readings) theirs
      (λ z s. ap (λ u. unit_rest act u readings) (unit_at_lem h b k unit (unit-numbered unit act readings z)) ∙ f z)

  abbrev enrolment : Option Event
  enrolment = last_that (about name.Unit unit) h

  pub unit_exact : (act : UnitCall) (readings : List ℕ) → unit_number unit act b.stage was readings ≡ number_in h (call.Unit unit act) readings
  unfolding number_in unit_rest call_number rest_in_range
  unit_exact (Enrol enrolling) readings =
      exact_by (Enrol enrolling) readings (already_enrolled h unit) (λ z. vacancy_in enrolment)
  unit_exact (Test component trial) readings =
      let by : ℕ → ℕ = λ own. enrolled_as enrolment (λ kind. pick (has_test kind component) own 7) in
      exact_by (Test component trial) readings (by (pick (count_fits trial.ending trial.tc trial.count) 0 8))
      (λ z. test_in enrolment component trial readings ∙ ap by (test-number unit component trial readings z))
  unit_exact (Availability component m) readings =
      let by : ℕ → ℕ = λ own. enrolled_as enrolment (λ kind. pick (has_availability kind component) own 7) in
      exact_by (Availability component m) readings (by (pick (minutes_fit m) 0 9))
      (λ z. available_in enrolment component m ∙ ap by (availability-number unit component m readings z))
