-- The units after an accepted test or availability.
use Rattle.std.specs.Prelude.{Option, None, Some}
use mathlib.Core.Path.{◌≡◌, refl, sym, ap, ◌∙◌, subst⁻¹}
use mathlib.Core.Bool.{Bool, true, false}
use mathlib.Core.List.{List, ◌∷◌}
use Prim.Native.Nat.{ℕ, zero, suc, ◌-◌, ◌≤◌}
use native.Mathlib.Nat.{le_refl}
use native.Mathlib.Omega.{arith}
use borrow.Author.Tests.{eq-eqb, ne_eqb, eqb-true, eqb-false}
use lib.Dec.{eqb}
use lib.ListN.{set}
use Rattle.basis.specs.Choice.{pick}
use Rattle.basis.proofs.Choice.{peel_not}
use Rattle.power.specs.Power.{fresh, maximum_power, test_number, test_of, energy_of, measured_of, after_test}
use Rattle.plant.specs.Availability.{availability_number, availability_of}
use Rattle.power.specs.Quantity.{in_watts, greatest_watts}
use Rattle.quantities.specs.Limits.{greatest_component, units}
use Rattle.power.specs.declared.quantity.Kw.{Kw}
use Rattle.power.specs.declared.quantity.Watts.{Watts}
use Rattle.power.specs.declared.component.Component.{Component}
use Rattle.power.specs.declared.component.Minutes.{Minutes}
use Rattle.power.specs.declared.component.Trial.{Trial}
use Rattle.plant.proofs.Results.{test_within_greatest, test_within_cap, availability_keeps_maximum}
use Rattle.table.proofs.Laws.{Numbered}
use Rattle.table.specs.Records.{parts_of}
use Rattle.table.specs.declared.calls.Call.TheVariants as call
use Rattle.table.specs.declared.units.UnitCall.TheVariants as unit-call
use Rattle.table.specs.Records as name
use Rattle.state.specs.declared.kept.Unit.{Unit}
use Rattle.state.specs.declared.kept.Book.{Book}
use Rattle.state.specs.State.{unit_at}
use Rattle.gathering.specs.Units.{has_test, has_availability, component_of, with_component, cap_of, test_rest, tested_unit, availability_rest, available_unit}
use Rattle.book.specs.Lists.{Event}
use Rattle.claims.specs.History.{is_a, field, about, last_that, entry_by, entry_in, component_in}
use Rattle.claims.specs.Figures.{unit_in}
use Rattle.claims.specs.Refusals.{enrolled_as}
use Rattle.claims.proofs.SameFigures.{unit_is, about_as_before, entry_as_before, component_another}
use Rattle.claims.proofs.Kept.{Within, Plants, Kept}
use Rattle.claims.proofs.Places.{unit_at_lem, unit-stored}

-- the number of a call on a component behind 3 and 4, from its unit's last accepted enrolment
pub test_in : (l : Option Event) (component : ℕ) (trial : Trial) (readings : List ℕ) → test_rest (entry_by l) component trial.ending trial.tc trial.count readings ≡ enrolled_as l (λ kind. pick (has_test kind component) (test_number trial.ending trial.tc trial.count readings) 7)
unfolding test_rest
test_in None component trial readings = refl
test_in (Some e) component trial readings = refl

pub available_in : (l : Option Event) (component : ℕ) (m : Minutes) → availability_rest (entry_by l) component m.hd m.hmp m.hif m.hed ≡ enrolled_as l (λ kind. pick (has_availability kind component) (availability_number m) 7)
unfolding availability_rest
available_in None component m = refl
available_in (Some e) component m = refl

-- accepted, the unit is enrolled, and the component's own number is 0
enrolled_passed : (l : Option Event) (has : ℕ → Bool) (own : ℕ) → enrolled_as l (λ kind. pick (has kind) own 7) ≡ 0 → (l ≡ None → ⊥) × (own ≡ 0)
enrolled_passed None has own z = absurd (omega arith)
enrolled_passed (Some e) has own z =
    ((λ q. let n : ◌≡◌ {A = ℕ} 0 1 = cc in absurd (omega arith)), (peel_not (has (field 2 e)) 6 own z).1)

-- one component of three replaced
replaced : (u : Unit) (component j : ℕ) (x : Component) → component ≤ greatest_component → j ≤ greatest_component → component_of (with_component u component x) j ≡ pick (eqb component j) x (component_of u j)
replaced u zero zero x p q = refl
replaced u zero (suc zero) x p q = refl
replaced u zero (suc (suc zero)) x p q = refl
replaced u zero (suc (suc (suc j))) x p q = absurd (omega arith)
replaced u (suc zero) zero x p q = refl
replaced u (suc zero) (suc zero) x p q = refl
replaced u (suc zero) (suc (suc zero)) x p q = refl
replaced u (suc zero) (suc (suc (suc j))) x p q = absurd (omega arith)
replaced u (suc (suc zero)) zero x p q = refl
replaced u (suc (suc zero)) (suc zero) x p q = refl
replaced u (suc (suc zero)) (suc (suc zero)) x p q = refl
replaced u (suc (suc zero)) (suc (suc (suc j))) x p q = absurd (omega arith)
replaced u (suc (suc (suc c))) j x p q = absurd (omega arith)

-- the component of a unit by its number
component_in_lem : (h : List Event) (w j : ℕ) → j ≤ greatest_component → component_of (unit_in h w) j ≡ component_in h w j
component_in_lem h w zero p = refl
component_in_lem h w (suc zero) p = refl
component_in_lem h w (suc (suc zero)) p = refl
component_in_lem h w (suc (suc (suc j))) p = absurd (omega arith)

-- a call on one component of one unit: the units and what is known of their powers
module _ (h : List Event) (b : Book) (k : Kept h b) (e : Event) (u component : ℕ) (x : Component) (numbered : Numbered units u) (few : component ≤ greatest_component) (not-unit : is_a name.Unit e ≡ false) (of_unit : field 0 e ≡ u) (this : (j : ℕ) → component_in (e ∷ h) u j ≡ pick (eqb component j) x (component_in h u j)) (cap-kept : Within (cap_of (entry_in h u)) x) (small-kept : (maximum_power x).0 ≤ greatest_watts) (there : last_that (about name.Unit u) h ≡ None → ⊥) where
  others : (w j : ℕ) → (w ≡ u → ⊥) → component_in (e ∷ h) w j ≡ component_in h w j
  others w j o = component_another e h w j (ne_eqb (field 0 e) w (λ q. o (sym q ∙ of_unit)))

  stored_at : (j : ℕ) → j ≤ greatest_component → component_in (e ∷ h) u j ≡ component_of (with_component (unit_in h u) component x) j
  stored_at j q =
      this j
      ∙ ap (λ y. pick (eqb component j) x y) (sym (component_in_lem h u j q))
      ∙ sym (replaced (unit_in h u) component j x few q)

  chosen : (P : Component → Type 0) (t : Bool) (y : Component) → P x → P y → P (pick t x y)
  chosen P true y px py = px
  chosen P false y px py = py

  within_kept : (w j : ℕ) (t : Bool) → eqb w u ≡ t → Within (cap_of (entry_in (e ∷ h) w)) (component_in (e ∷ h) w j)
  within_kept w j true q =
      rw (eqb-true w u q, entry_as_before e h not-unit u, this j)
      (chosen (λ y. Within (cap_of (entry_in h u)) y) (eqb component j) (component_in h u j) cap-kept (k.plants.power_capped u j))
  within_kept w j false q =
      rw (entry_as_before e h not-unit w, others w j (eqb-false w u q)) (k.plants.power_capped w j)

  smalls_kept : (w j : ℕ) (t : Bool) → eqb w u ≡ t → (maximum_power (component_in (e ∷ h) w j)).0 ≤ greatest_watts
  smalls_kept w j true q =
      rw (eqb-true w u q, this j)
      (chosen (λ y. (maximum_power y).0 ≤ greatest_watts) (eqb component j) (component_in h u j) small-kept (k.plants.power_small u j))
  smalls_kept w j false q = rw (others w j (eqb-false w u q)) (k.plants.power_small w j)

  untested_kept : (w j : ℕ) (t : Bool) → eqb w u ≡ t → last_that (about name.Unit w) (e ∷ h) ≡ None → component_in (e ∷ h) w j ≡ fresh
  untested_kept w j true q r =
      absurd (there (ap (λ n. last_that (about name.Unit n) h) (sym (eqb-true w u q)) ∙ sym (about_as_before e h name.Unit w not-unit) ∙ r))
  untested_kept w j false q r =
      others w j (eqb-false w u q) ∙ k.plants.untested w j (sym (about_as_before e h name.Unit w not-unit) ∙ r)

  pub component_stored : Plants (e ∷ h) (set b.units (u - 1) (with_component (unit_at b.units u) component x))
  component_stored =
      record {
        units_kept =
            ap (λ (v : Unit). set b.units (u - 1) (with_component v component x)) (unit_at_lem h b k u numbered)
            ∙ unit-stored h b k e u (with_component (unit_in h u) component x) numbered
            (unit_is (entry_as_before e h not-unit u) (stored_at 0 (omega arith)) (stored_at 1 (omega arith)) (stored_at 2 (omega arith)))
            (λ w o. unit_is (entry_as_before e h not-unit w) (others w 0 o) (others w 1 o) (others w 2 o));
        power_capped = λ w j. within_kept w j (eqb w u) refl;
        power_small = λ w j. smalls_kept w j (eqb w u) refl;
        untested = λ w j. untested_kept w j (eqb w u) refl;
      }

module _ (h : List Event) (b : Book) (k : Kept h b) (unit component : ℕ) (numbered : Numbered units unit) (few : component ≤ greatest_component) where
  was : component_of (unit_at b.units unit) component ≡ component_in h unit component
  was = ap (λ v. component_of v component) (unit_at_lem h b k unit numbered) ∙ component_in_lem h unit component few

  module _ (trial : Trial) (readings : List ℕ) (z : test_rest (unit_at b.units unit).enrolment component trial.ending trial.tc trial.count readings ≡ 0) where
    abbrev test : Event
    test = record { call = call.Unit unit (unit-call.Test component trial); readings = readings }

    there : (last_that (about name.Unit unit) h ≡ None → ⊥) × (test_number trial.ending trial.tc trial.count readings ≡ 0)
    there =
        let l = last_that (about name.Unit unit) h in
        enrolled_passed l (λ kind. has_test kind component) (test_number trial.ending trial.tc trial.count readings)
        (sym (test_in l component trial readings)
        ∙ ap (λ (v : Unit). test_rest v.enrolment component trial.ending trial.tc trial.count readings) (sym (unit_at_lem h b k unit numbered))
        ∙ z)

    abbrev before : Component
    before = component_of (unit_at b.units unit) component

    abbrev after : Component
    after = (test_of before (cap_of (unit_at b.units unit).enrolment) trial.ending trial.tc trial.count readings).component

    cap_was : cap_of (unit_at b.units unit).enrolment ≡ cap_of (entry_in h unit)
    cap_was = ap (λ (v : Unit). cap_of v.enrolment) (unit_at_lem h b k unit numbered)

    -- the test's component is the one of the rows of "Maximum power"
    by_rows : (x : Component) (cap : Option Kw) → (test_of x cap trial.ending trial.tc trial.count readings).component ≡ after_test cap trial.ending x (measured_of x.void_trip trial.ending trial.tc trial.count (energy_of trial.count readings))
    unfolding test_of
    by_rows x cap = simp there.1

    this : (j : ℕ) → component_in (test ∷ h) unit j ≡ pick (eqb component j) after (component_in h unit j)
    unfolding component_in parts_of
    this j =
        simp (eq-eqb unit unit refl) (go (eqb component j) refl)
      where
        go : (t : Bool) → eqb component j ≡ t → pick t (after_test (cap_of (entry_in h unit)) trial.ending (component_in h unit j) (measured_of (component_in h unit j).void_trip trial.ending trial.tc trial.count (energy_of trial.count readings))) (component_in h unit j) ≡ pick t after (component_in h unit j)
        go true q =
            ap (λ n. after_test (cap_of (entry_in h unit)) trial.ending (component_in h unit n) (measured_of (component_in h unit n).void_trip trial.ending trial.tc trial.count (energy_of trial.count readings))) (sym (eqb-true component j q))
            ∙ sym (by_rows (component_in h unit component) (cap_of (entry_in h unit)))
            ∙ ap (λ x. (test_of x (cap_of (entry_in h unit)) trial.ending trial.tc trial.count readings).component) (sym was)
            ∙ ap (λ c. (test_of before c trial.ending trial.tc trial.count readings).component) (sym cap_was)
        go false q = refl

    within : (cap : Option Kw) (x : Component) → Within cap x → Within cap (test_of x cap trial.ending trial.tc trial.count readings).component
    within None x q = le_refl (maximum_power (test_of x None trial.ending trial.tc trial.count readings).component).0
    within (Some m) x q = test_within_cap x m trial.ending trial.tc trial.count readings q

    after_is : after ≡ (test_of (component_in h unit component) (cap_of (entry_in h unit)) trial.ending trial.tc trial.count readings).component
    after_is =
        ap (λ x. (test_of x (cap_of (unit_at b.units unit).enrolment) trial.ending trial.tc trial.count readings).component) was
        ∙ ap (λ c. (test_of (component_in h unit component) c trial.ending trial.tc trial.count readings).component) cap_was

    pub test_plants : Plants (test ∷ h) (set b.units (unit - 1) (tested_unit (unit_at b.units unit) component trial.ending trial.tc trial.count readings))
    unfolding tested_unit parts_of
    test_plants =
        component_stored h b k test unit component after numbered few refl refl this
        (subst⁻¹ (λ x. Within (cap_of (entry_in h unit)) x) after_is (within (cap_of (entry_in h unit)) (component_in h unit component) (k.plants.power_capped unit component)))
        (subst⁻¹ (λ x. (maximum_power x).0 ≤ greatest_watts) after_is (test_within_greatest (component_in h unit component) (cap_of (entry_in h unit)) trial.ending trial.tc trial.count readings (k.plants.power_small unit component)))
        there.0

  module _ (m : Minutes) (readings : List ℕ) (z : availability_rest (unit_at b.units unit).enrolment component m.hd m.hmp m.hif m.hed ≡ 0) where
    abbrev availability : Event
    availability = record { call = call.Unit unit (unit-call.Availability component m); readings = readings }

    available_there : (last_that (about name.Unit unit) h ≡ None → ⊥) × (availability_number m ≡ 0)
    available_there =
        let l = last_that (about name.Unit unit) h in
        enrolled_passed l (λ kind. has_availability kind component) (availability_number m)
        (sym (available_in l component m)
        ∙ ap (λ (v : Unit). availability_rest v.enrolment component m.hd m.hmp m.hif m.hed) (sym (unit_at_lem h b k unit numbered))
        ∙ z)

    abbrev held : Component
    held = (availability_of (component_of (unit_at b.units unit) component) m).component

    held_is : held ≡ (availability_of (component_in h unit component) m).component
    held_is = ap (λ x. (availability_of x m).component) was

    by_minutes : (x : Component) → (availability_of x m).component ≡ record { result = x.result; void_trip = x.void_trip; availability = Some m }
    unfolding availability_of
    by_minutes x = rw available_there.1 refl

    available_this : (j : ℕ) → component_in (availability ∷ h) unit j ≡ pick (eqb component j) held (component_in h unit j)
    unfolding component_in parts_of
    available_this j = simp (eq-eqb unit unit refl) (go (eqb component j) refl)
      where
        go : (t : Bool) → eqb component j ≡ t → pick t (record { result = (component_in h unit j).result; void_trip = (component_in h unit j).void_trip; availability = Some m }) (component_in h unit j) ≡ pick t held (component_in h unit j)
        go true q =
            sym (by_minutes (component_in h unit j))
            ∙ ap (λ n. (availability_of (component_in h unit n) m).component) (sym (eqb-true component j q))
            ∙ sym held_is
        go false q = refl

    same_power : maximum_power held ≡ maximum_power (component_in h unit component)
    same_power = ap maximum_power held_is ∙ availability_keeps_maximum (component_in h unit component) m

    same_within : (cap : Option Kw) (x y : Component) → maximum_power x ≡ maximum_power y → Within cap y → Within cap x
    same_within None x y q w = le_refl (maximum_power x).0
    same_within (Some most) x y q w = subst⁻¹ (λ (p : Watts). p.0 ≤ (in_watts most).0) q w

    pub availability_plants : Plants (availability ∷ h) (set b.units (unit - 1) (available_unit (unit_at b.units unit) component m.hd m.hmp m.hif m.hed))
    unfolding available_unit parts_of
    availability_plants =
        component_stored h b k availability unit component held numbered few refl refl available_this
        (same_within (cap_of (entry_in h unit)) held (component_in h unit component) same_power (k.plants.power_capped unit component))
        (subst⁻¹ (λ (p : Watts). p.0 ≤ greatest_watts) same_power (k.plants.power_small unit component))
        available_there.0
