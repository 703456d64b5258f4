-- A component of a unit, lent to be replaced.
use Rattle.std.specs.Prelude.{ℕ, eqb}
use Rattle.std.specs.Borrow.{Lends, MutBor, Fml}
use Rattle.basis.specs.Choice.{pick}
use Rattle.power.specs.declared.component.Component.{Component}
use Rattle.power.specs.declared.component.Components.{Components}
use Rattle.power.specs.contracts.component.Component.{the_row as component_row}
use Rattle.power.specs.contracts.component.Components.{the_row as components_row}

-- the component of a number
abbrev pub component_in : Components → ℕ → Component
component_in xs component = pick (eqb component 0) xs.set (pick (eqb component 1) xs.generator xs.storage)

-- the components with another in its place; above 2 it is the storage, where `with_component` has none, but no call gets there
abbrev pub with_component_in : Components → ℕ → Component → Components
with_component_in xs component x =
    record {
      set = pick (eqb component 0) x xs.set;
      generator = pick (eqb component 1) x xs.generator;
      storage = pick (eqb component 0) xs.storage (pick (eqb component 1) xs.storage x);
    }

-- the components end with the last value behind r in its place
abbrev pub LendsComponent : MutBor Components → ℕ → MutBor Component → Fml
LendsComponent xs component r = Lends components_row component_row xs r (with_component_in xs.now component)
