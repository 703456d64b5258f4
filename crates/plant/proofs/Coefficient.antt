-- The coefficient of availability is at most 1.
use Rattle.std.specs.Prelude.{Option, None, Some}
use Prim.Native.Nat.{◌≤◌, zero-le}
use native.Mathlib.Omega.{arith}
use Rattle.std.proofs.lemmas.Bool.Decides.{nat_tests}
use Rattle.power.specs.declared.quantity.Watts.{Watts}
use Rattle.power.specs.declared.component.Minutes.{Minutes}
use Rattle.plant.specs.Availability.{ready_minutes, whole_minutes, times_c}
use Rattle.plant.specs.Promises.{ReadyAtMostWhole}
use Rattle.power.proofs.Quotients.{part_at_most}

pub ready_at_most_whole : ReadyAtMostWhole
ready_at_most_whole m = omega arith

-- power times c is at most the power
pub times_c_at_most : (power : Watts) (a : Option Minutes) → (times_c power a).0 ≤ power.0
unfolding times_c
times_c_at_most power None = zero-le
times_c_at_most power (Some m) = grind (arith, nat_tests, part_at_most power.0 (ready_minutes m) (whole_minutes m) (ready_at_most_whole m))
