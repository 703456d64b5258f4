-- What a call of a unit in range shows of its fields.
use mathlib.Core.Path.{◌≡◌}
use mathlib.Core.Bool.{true}
use mathlib.Core.List.{List}
use Prim.Native.Nat.{ℕ, ◌≤◌}
use native.Mathlib.Omega.{arith}
use borrow.Author.Tests.{le-leb}
use Rattle.quantities.specs.Limits.{units, producers, greatest_minutes, greatest_kind, greatest_component}
use Rattle.power.specs.Ranges.{minutes_in_range}
use Rattle.power.specs.declared.component.Minutes.{Minutes}
use Rattle.power.specs.declared.component.Trial.{Trial}
use Rattle.table.specs.Records.{table_of, parts_of}
use Rattle.table.specs.Ranges.{call_number}
use Rattle.table.specs.declared.calls.Call.TheVariants.{Unit}
use Rattle.table.specs.declared.units.Enrolling.{Enrolling}
use Rattle.table.specs.declared.units.UnitCall.{UnitCall}
use Rattle.table.specs.declared.units.UnitCall.TheVariants.{Enrol, Test, Availability}
use Rattle.table.specs.declared.forms.Mark.TheVariants as mark
use Rattle.table.proofs.Laws.{field_in_range, Numbered, numbered}
use Rattle.table.proofs.Table.{lawful, of_parts}

pub record UnitRanged (u : ℕ) (e : Enrolling) : Type 0 where
  pub unit : Numbered units u
  pub producer : Numbered producers e.producer
  pub kind : Numbered greatest_kind e.kind

pub record TestRanged (u k : ℕ) : Type 0 where
  pub unit : Numbered units u
  pub component : k ≤ greatest_component

pub record AvailabilityRanged (u k : ℕ) (m : Minutes) : Type 0 where
  pub unit : Numbered units u
  pub component : k ≤ greatest_component
  pub minutes : minutes_in_range m.hd m.hmp m.hif m.hed ≡ true

pub unit-ranged : (unit : ℕ) (enrolling : Enrolling) (rs : List ℕ) → call_number (Unit unit (Enrol enrolling)) rs ≡ 0 → UnitRanged unit enrolling
unfolding table_of parts_of
unit-ranged unit enrolling rs e =
    let c = Unit unit (Enrol enrolling) in
    let f = field_in_range c (lawful mark.Enrol) (of_parts c) rs e in
    record { unit = numbered (f 0 (omega arith)); producer = numbered (f 1 (omega arith)); kind = numbered (f 2 (omega arith)) }

pub test-ranged : (unit component : ℕ) (trial : Trial) (rs : List ℕ) → call_number (Unit unit (Test component trial)) rs ≡ 0 → TestRanged unit component
unfolding table_of parts_of
test-ranged unit component trial rs e =
    let c = Unit unit (Test component trial) in
    let f = field_in_range c (lawful mark.Test) (of_parts c) rs e in
    record { unit = numbered (f 0 (omega arith)); component = (f 1 (omega arith)).1 }

pub availability-ranged : (unit component : ℕ) (m : Minutes) (rs : List ℕ) → call_number (Unit unit (Availability component m)) rs ≡ 0 → AvailabilityRanged unit component m
unfolding table_of parts_of
availability-ranged unit component m rs e =
    let c = Unit unit (Availability component m) in
    let f = field_in_range c (lawful mark.Availability) (of_parts c) rs e in
    record {
      unit = numbered (f 0 (omega arith));
      component = (f 1 (omega arith)).1;
      minutes =
          rw (le-leb m.hd greatest_minutes (f 2 (omega arith)).1, le-leb m.hmp greatest_minutes (f 3 (omega arith)).1, le-leb m.hif greatest_minutes (f 4 (omega arith)).1, le-leb m.hed greatest_minutes (f 5 (omega arith)).1);
    }

-- the unit of any call in range
pub unit-numbered : (unit : ℕ) (act : UnitCall) (rs : List ℕ) → call_number (Unit unit act) rs ≡ 0 → Numbered units unit
unit-numbered unit (Enrol enrolling) rs e = (unit-ranged unit enrolling rs e).unit
unit-numbered unit (Test component trial) rs e = (test-ranged unit component trial rs e).unit
unit-numbered unit (Availability component m) rs e = (availability-ranged unit component m rs e).unit
