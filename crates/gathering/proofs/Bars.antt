-- What the ranges that were tested tell of a call of a unit.
use Rattle.std.specs.Prelude.{◌≡◌, ℕ, ◌≤◌, Bool, true, false, List, eqb, refl}
use Rattle.std.proofs.Common.{sym, ap, ◌∙◌, arith}
use Rattle.basis.specs.Choice.{pick}
use Rattle.basis.proofs.Choice.{peel_not, handed_on}
use Rattle.quantities.specs.Limits.{greatest_component}
use Rattle.power.specs.declared.component.Minutes.{Minutes}
use Rattle.power.specs.declared.component.Trial.{Trial}
use Rattle.power.specs.Ranges.{test_in_range}
use Rattle.table.specs.Records.{no_column, table_of, parts_of}
use Rattle.table.specs.Ranges.{fields_in_range, fields_number, rest_in_range, call_number}
use Rattle.table.specs.declared.calls.Call.TheVariants.{Unit}
use Rattle.table.specs.declared.units.UnitCall.TheVariants.{Test, Availability}
use Rattle.table.specs.declared.forms.Mark.TheVariants as mark
use Rattle.table.proofs.Codec.{within_at}
use Rattle.table.proofs.UnitLaws.{availability-ranged}
use Rattle.state.specs.State.{ranged}

-- a test with its single fields in range
module _ (unit component : ℕ) (t : Trial) (e : 0 ≡ fields_number (Unit unit (Test component t))) where
  pub component_tested : component ≤ greatest_component
  unfolding fields_number table_of parts_of
  component_tested =
      let c = Unit unit (Test component t) in
      let h : fields_in_range c ≡ true = (peel_not (fields_in_range c) 2 0 (sym e)).0 in
      (within_at (table_of mark.Test).columns (parts_of c).values no_column h 1 (omega arith) (omega arith)).1

  pub test_in_fields : (rs : List ℕ) (rest : ℕ) → pick (test_in_range t.ending t.tc t.count rs) rest 3 ≡ ranged (Unit unit (Test component t)) rs rest
  unfolding call_number rest_in_range
  test_in_fields rs rest =
      go (test_in_range t.ending t.tc t.count rs) ∙ ap (λ n. pick (eqb (pick (eqb n 0) (pick (test_in_range t.ending t.tc t.count rs) 0 3) n) 0) rest (pick (eqb n 0) (pick (test_in_range t.ending t.tc t.count rs) 0 3) n)) e
    where
      go : (s : Bool) → pick s rest 3 ≡ pick (eqb (pick s 0 3) 0) rest (pick s 0 3)
      go true = refl
      go false = refl

-- the component of an availability in range
pub component_available : (unit component : ℕ) (m : Minutes) (rs : List ℕ) (rest : ℕ) → 0 ≡ ranged (Unit unit (Availability component m)) rs rest → component ≤ greatest_component
component_available unit component m rs rest e =
    (availability-ranged unit component m rs (handed_on (call_number (Unit unit (Availability component m)) rs) rest (sym e)).0).component
