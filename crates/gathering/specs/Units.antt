-- The calls of a unit: enrolment, test, availability ("unit, test, availability .. belong to gathering").
use Rattle.power.specs.declared.quantity.Kw.{Kw}
use Rattle.std.specs.Prelude.{Bool, true, false, List, ℕ, ◌-◌, eqb, set, Option, None, Some}
use Rattle.basis.specs.Choice.{pick}
use Rattle.power.specs.Quantity.{kw, kwh}
use Rattle.power.specs.Power.{fresh_components, test_number, test_of}
use Rattle.plant.specs.Availability.{minutes, availability_number, availability_of}
use Rattle.quantities.specs.Flags.{flagged, injection_given, report_held}
use Rattle.power.specs.declared.component.Component.{Component}
use Rattle.table.specs.declared.calls.Call.TheVariants as call
use Rattle.table.specs.declared.units.UnitCall.{UnitCall}
use Rattle.table.specs.declared.units.UnitCall.TheVariants.{Enrol, Test, Availability}
use Rattle.state.specs.declared.kept.Stage.{Stage}
use Rattle.state.specs.declared.kept.Stage.TheVariants.{Gathering}
use Rattle.state.specs.declared.kept.Entry.{Entry}
use Rattle.state.specs.declared.kept.Unit.{Unit}
use Rattle.state.specs.declared.kept.Book.{Book}
use Rattle.state.specs.State.{Reply}
use Rattle.quantities.specs.Refusals.{Decided, decided_by}
use Rattle.state.specs.State.{unit_at, with_units, ranged, staged, reply_of}
use Rattle.gathering.specs.Lending.{component_in}

-- number 5: unit already enrolled
abbrev pub vacancy : Option Entry → ℕ
vacancy None = 0
vacancy (Some e) = 5

-- flag 8: PIC given; flag 16: supply report held
abbrev pub entry_of : ℕ → ℕ → ℕ → ℕ → ℕ → ℕ → ℕ → ℕ → Entry
entry_of producer kind flags pic ppr e1 e2 cap =
    record {
      producer = producer;
      flags = flags;
      cap = pick (flagged injection_given flags) (Some (kw pic)) None;
      plant =
          record {
            kind = kind;
            report = flagged report_held flags;
            ppr = kw ppr;
            e1 = kwh e1;
            e2 = kwh e2;
            cap = kwh cap;
          };
    }

-- a unit that is enrolled, with no test and no availability
abbrev pub enrolled_unit : Entry → Unit
enrolled_unit e = record { enrolment = Some e; components = fresh_components }

-- "Kind 8 has components 0 set, 1 generator, 2 storage, with availability for 1 and 2 only; others have component 0."
abbrev pub has_test : ℕ → ℕ → Bool
has_test kind component = pick (eqb kind 8) true (eqb component 0)

abbrev pub has_availability : ℕ → ℕ → Bool
has_availability kind component = pick (eqb kind 8) (pick (eqb component 0) false true) (eqb component 0)

abbrev pub component_of : Unit → ℕ → Component
component_of u component = component_in u.components component

abbrev pub with_component : Unit → ℕ → Component → Unit
with_component u component x =
    record {
      enrolment = u.enrolment;
      components =
          record {
            set = pick (eqb component 0) x u.components.set;
            generator = pick (eqb component 1) x u.components.generator;
            storage = pick (eqb component 2) x u.components.storage;
          };
    }

-- PIC, of a unit that is not enrolled none
abbrev pub cap_of : Option Entry → Option Kw
cap_of None = None
cap_of (Some e) = e.cap

-- 6 not enrolled, 7 component foreign to kind, then what the component answers
abbrev pub component_rest : (ℕ → ℕ → Bool) → Option Entry → ℕ → ℕ → ℕ
component_rest owned None component answered = 6
component_rest owned (Some e) component answered = pick (owned e.plant.kind component) answered 7

-- .. 8
unfoldable pub test_rest : Option Entry → ℕ → ℕ → ℕ → ℕ → List ℕ → ℕ
test_rest enrolment component ending tc count readings =
    component_rest has_test enrolment component (test_number ending tc count readings)

-- .. 9
unfoldable pub availability_rest : Option Entry → ℕ → ℕ → ℕ → ℕ → ℕ → ℕ
availability_rest enrolment component hd hmp hif hed =
    component_rest has_availability enrolment component (availability_number (minutes hd hmp hif hed))

-- behind 3 and 4. Enrolment: 5. Test: 6, 7, 8. Availability: 6, 7, 9
unfoldable pub unit_rest : UnitCall → Unit → List ℕ → ℕ
unit_rest (Enrol e) u readings = vacancy u.enrolment
unit_rest (Test component t) u readings = test_rest u.enrolment component t.ending t.tc t.count readings
unit_rest (Availability component m) u readings = availability_rest u.enrolment component m.hd m.hmp m.hif m.hed

-- the unit with the component after the test
unfoldable pub tested_unit : Unit → ℕ → ℕ → ℕ → ℕ → List ℕ → Unit
tested_unit u component ending tc count readings =
    with_component u component
    (test_of (component_of u component) (cap_of u.enrolment) ending tc count readings).component

unfoldable pub available_unit : Unit → ℕ → ℕ → ℕ → ℕ → ℕ → Unit
available_unit u component hd hmp hif hed =
    with_component u component (availability_of (component_of u component) (minutes hd hmp hif hed)).component

-- the unit after a call
unfoldable pub unit_after : UnitCall → Unit → List ℕ → Unit
unit_after (Enrol e) u readings = enrolled_unit (entry_of e.producer e.kind e.flags e.pic e.ppr e.e1 e.e2 e.cap)
unit_after (Test component t) u readings = tested_unit u component t.ending t.tc t.count readings
unit_after (Availability component m) u readings = available_unit u component m.hd m.hmp m.hif m.hed

-- unit: 3, 4, 5; test: 3, 4, 6, 7, 8; availability: 3, 4, 6, 7, 9
unfoldable pub unit_number : ℕ → UnitCall → Stage → Unit → List ℕ → ℕ
unit_number unit act stage u readings =
    ranged (call.Unit unit act) readings (staged Gathering stage (unit_rest act u readings))

-- the book after an accepted call of a unit
unfoldable pub after_unit : Book → ℕ → UnitCall → List ℕ → Book
after_unit b unit act readings =
    with_units b (set b.units (unit - 1) (unit_after act (unit_at b.units unit) readings))

unfoldable pub unit_of : Book → ℕ → UnitCall → List ℕ → Reply
unit_of b unit act readings =
    reply_of (unit_number unit act b.stage (unit_at b.units unit) readings) b (after_unit b unit act readings)

-- what a call comes to for its unit
unfoldable pub unit_answer_of : ℕ → UnitCall → Stage → Unit → List ℕ → Decided Unit
unit_answer_of unit act stage u readings = decided_by (unit_number unit act stage u readings) (unit_after act u readings)
