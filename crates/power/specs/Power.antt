-- Maximum power by a test ("Maximum power", 2.3.5), in watts (document 02, A6).
use Rattle.std.specs.Prelude.{Bool, true, false, List, ℕ, ◌*◌, leb, ltb, eqb, Option, None, Some, Result, Ok, Err}
use Rattle.basis.specs.Choice.{pick}
use Rattle.basis.specs.Sums.{sum}
use Rattle.power.specs.declared.quantity.Kw.{Kw}
use Rattle.power.specs.declared.quantity.Watts.{Watts}
use Rattle.power.specs.declared.quantity.Kwh.{Kwh}
use Rattle.power.specs.declared.component.Component.{Component}
use Rattle.power.specs.declared.component.Components.{Components}
use Rattle.quantities.specs.declared.refusals.Refusal.{Refusal}
use Rattle.quantities.specs.Refusals.{refusal_number}
use Rattle.power.specs.Quantity.{watts, kwh, in_watts, least, over_quarters}
use Rattle.power.specs.Ranges.{readings_of, test_in_range}

-- no test, no void test remembered, no availability
abbrev pub fresh : Component
fresh = record { result = None; void_trip = false; availability = None }

-- three components with no test and no availability
abbrev pub fresh_components : Components
fresh_components = record { set = fresh; generator = fresh; storage = fresh }

-- the power of a result, 0 without one
abbrev pub power_of : Option Watts → Watts
power_of None = watts 0
power_of (Some p) = p

-- PP, the maximum power of a component
abbrev pub maximum_power : Component → Watts
maximum_power x = power_of x.result

-- at 80 % of TC or more
abbrev pub reaches : ℕ → ℕ → Bool
reaches count tc = leb (4 * tc) (5 * count)

-- all of TC in a complete test, less in a tripped one (else number 8)
abbrev pub count_fits : ℕ → ℕ → ℕ → Bool
count_fits ending tc count = pick (eqb ending 0) (eqb count tc) (ltb count tc)

-- 3, then 8, else 0
abbrev pub test_number : ℕ → ℕ → ℕ → List ℕ → ℕ
test_number ending tc count bytes = pick (test_in_range ending tc count bytes) (pick (count_fits ending tc count) 0 8) 3

-- S, the sum of readings
abbrev pub energy_of : ℕ → List ℕ → Kwh
energy_of count bytes = kwh (sum (readings_of count bytes))

-- ending 1, trip not the plant's doing: at 80 % or more 4,000·S / count, below void
abbrev pub outside_trip : ℕ → ℕ → Kwh → Option Watts
outside_trip tc count s = pick (reaches count tc) (Some (over_quarters s count)) None

-- ending 2, trip of the plant's doing: at 80 % or more 4,000·S / TC, below void,
-- unless the last ending-2 test of the component was void with no result since: then 4,000·S / TC
abbrev pub own_trip : Bool → ℕ → ℕ → Kwh → Option Watts
own_trip trip tc count s =
    pick (reaches count tc) (Some (over_quarters s tc)) (pick trip (Some (over_quarters s tc)) None)

-- what a test gives, nothing where it is void; ending 0, complete: 4,000·S / TC
unfoldable pub measured_of : Bool → ℕ → ℕ → ℕ → Kwh → Option Watts
measured_of trip ending tc count s =
    pick (eqb ending 0) (Some (over_quarters s tc))
    (pick (eqb ending 1) (outside_trip tc count s) (own_trip trip tc count s))

-- what a test of a component gives
abbrev pub measured_by : Component → ℕ → ℕ → ℕ → List ℕ → Option Watts
measured_by x ending tc count bytes = measured_of x.void_trip ending tc count (energy_of count bytes)

-- capped by PIC · 1,000 if given
abbrev pub capped : Option Kw → Watts → Watts
capped None p = p
capped (Some most) p = least p (in_watts most)

-- a result replaces the earlier one and clears the memory; a void test leaves the earlier result, and of ending 2 is remembered
unfoldable pub after_test : Option Kw → ℕ → Component → Option Watts → Component
after_test cap ending x None =
    record { result = x.result; void_trip = pick (eqb ending 2) true x.void_trip; availability = x.availability }
after_test cap ending x (Some p) =
    record { result = Some (capped cap p); void_trip = false; availability = x.availability }

-- what a call on a component comes to: its number, 0 if accepted, and the component after it
pub record Answer : Type 0 where
  pub number : ℕ
  pub component : Component

-- refused, its number and the old component
abbrev pub answer_of : ℕ → Component → Component → Answer
answer_of number old new = record { number = number; component = pick (eqb number 0) new old }

-- what the answer to a call on the old component tells
abbrev pub answered : Component → Result Component Refusal → Answer
answered old (Ok new) = record { number = 0; component = new }
answered old (Err refusal) = record { number = refusal_number refusal; component = old }

-- a test of a component
unfoldable pub test_of : Component → Option Kw → ℕ → ℕ → ℕ → List ℕ → Answer
test_of x cap ending tc count bytes =
    answer_of (test_number ending tc count bytes) x (after_test cap ending x (measured_by x ending tc count bytes))
