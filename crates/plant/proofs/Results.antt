-- How large a maximum power can be: at most that of the greatest reading in every quarter, and at most the cap.
use Rattle.std.specs.Prelude.{Option, None, Some}
use mathlib.Core.Path.{◌≡◌}
use mathlib.Core.Bool.{Bool, true, false}
use mathlib.Core.List.{List}
use Prim.Native.Nat.{ℕ, ◌≤◌, zero-le}
use native.Mathlib.Nat.{le_refl, le_trans, min-le_left, min-le_right, mul-le-mul_right}
use native.Mathlib.Omega.{arith}
use Rattle.std.proofs.lemmas.Bool.Decides.{nat_tests}
use lib.Dec.{eqb}
use Rattle.basis.specs.Choice.{pick}
use Rattle.power.specs.declared.quantity.Kw.{Kw}
use Rattle.power.specs.declared.quantity.Watts.{Watts}
use Rattle.power.specs.declared.quantity.Kwh.{Kwh}
use Rattle.power.specs.declared.component.Minutes.{Minutes}
use Rattle.power.specs.declared.component.Component.{Component}
use Rattle.quantities.specs.Limits.{greatest_reading}
use Rattle.power.specs.Quantity.{in_watts, greatest_watts, over_quarters}
use Rattle.power.specs.Power.{power_of, maximum_power, reaches, test_number, energy_of, outside_trip, own_trip, measured_of, measured_by, capped, after_test, test_of}
use Rattle.plant.specs.Availability.{availability_of}
use Rattle.plant.specs.Promises.{TestWithinCap, TestWithinGreatest}
use Rattle.power.proofs.Quotients.{over_quarters_at_most}
use Rattle.power.proofs.Readings.{energy_at_most}
use Rattle.power.proofs.Accepted.{AcceptedTest, accepted-test, count_within_time}

-- a cap only lowers, and is kept
capped_at_most : (cap : Option Kw) (p : Watts) → (capped cap p).0 ≤ p.0
capped_at_most None p = le_refl p.0
capped_at_most (Some most) p = min-le_left p.0 (in_watts most).0

capped_at_cap : (most : Kw) (p : Watts) → (capped (Some most) p).0 ≤ (in_watts most).0
capped_at_cap most p = min-le_right p.0 (in_watts most).0

-- a choice keeps a limit that both sides keep
choice_within : (most : ℕ) (t : Bool) (a b : Option Watts) → (power_of a).0 ≤ most → (power_of b).0 ≤ most → (power_of (pick t a b)).0 ≤ most
choice_within most true a b h g = h
choice_within most false a b h g = g

module _ (trip : Bool) (ending tc count : ℕ) (bytes : List ℕ) (k : AcceptedTest ending tc count bytes) where
  -- over no less quarters than there are readings
  over : (quarters : ℕ) → count ≤ quarters → (over_quarters (energy_of count bytes) quarters).0 ≤ greatest_watts
  over quarters h =
      over_quarters_at_most (energy_of count bytes) quarters
      (le_trans (energy_at_most greatest_reading count bytes k.small) (mul-le-mul_right greatest_reading h))

  -- what an accepted test gives is at most the power of the greatest reading in every quarter
  measured_at_most : (power_of (measured_of trip ending tc count (energy_of count bytes))).0 ≤ greatest_watts
  unfolding measured_of
  measured_at_most =
      let s : Kwh = energy_of count bytes in
      let full : (over_quarters s tc).0 ≤ greatest_watts = over tc (count_within_time ending tc count k.fits) in
      choice_within greatest_watts (eqb ending 0) (Some (over_quarters s tc)) _ full
      (choice_within greatest_watts (eqb ending 1) (outside_trip tc count s) (own_trip trip tc count s)
      (choice_within greatest_watts (reaches count tc) (Some (over_quarters s count)) None (over count (le_refl count)) zero-le)
      (choice_within greatest_watts (reaches count tc) (Some (over_quarters s tc)) _ full
      (choice_within greatest_watts trip (Some (over_quarters s tc)) None full zero-le)))

-- a test keeps any limit that the earlier result and the new one keep
after_test-within : (most : ℕ) (cap : Option Kw) (ending : ℕ) (x : Component) (m : Option Watts) → (maximum_power x).0 ≤ most → (capped cap (power_of m)).0 ≤ most → (maximum_power (after_test cap ending x m)).0 ≤ most
unfolding after_test
after_test-within most cap ending x None old new = old
after_test-within most cap ending x (Some p) old new = new

module _ (x : Component) (cap : Option Kw) (ending tc count : ℕ) (bytes : List ℕ) where
  test-within : (most : ℕ) → (maximum_power x).0 ≤ most → (AcceptedTest ending tc count bytes → (capped cap (power_of (measured_by x ending tc count bytes))).0 ≤ most) → (maximum_power (test_of x cap ending tc count bytes).component).0 ≤ most
  unfolding test_of
  test-within most old new =
      grind (arith, nat_tests, after_test-within most cap ending x (measured_by x ending tc count bytes) old, λ (e : test_number ending tc count bytes ≡ 0). new (accepted-test ending tc count bytes e))

pub test_within_greatest : TestWithinGreatest
test_within_greatest x cap ending tc count bytes old =
    test-within x cap ending tc count bytes greatest_watts old
    (λ k.
    le_trans (capped_at_most cap (power_of (measured_by x ending tc count bytes)))
    (measured_at_most x.void_trip ending tc count bytes k))

pub test_within_cap : TestWithinCap
test_within_cap x pic ending tc count bytes old =
    test-within x (Some pic) ending tc count bytes (in_watts pic).0 old
    (λ k. capped_at_cap pic (power_of (measured_by x ending tc count bytes)))

-- an availability changes no maximum power
pub availability_keeps_maximum : (x : Component) (m : Minutes) → maximum_power (availability_of x m).component ≡ maximum_power x
unfolding availability_of
availability_keeps_maximum x m = grind (arith, nat_tests)
