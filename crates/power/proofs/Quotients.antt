-- Quotients and products, whatever the unit.
use Prim.Native.Nat.{ℕ, ◌*◌, ◌/◌, ◌≤◌}
use native.Mathlib.Nat.{mul_comm, mul-le-mul_left, div-le_of_le-mul}
use native.Mathlib.Omega.{arith}
use Rattle.power.specs.declared.quantity.Kwh.{Kwh}
use Rattle.quantities.specs.Limits.{greatest_reading}
use Rattle.power.specs.Quantity.{greatest_watts, over_quarters}

-- as much a quarter as the greatest reading gives at most the greatest power
pub over_quarters_at_most : (energy : Kwh) (quarters : ℕ) → energy.0 ≤ quarters * greatest_reading → (over_quarters energy quarters).0 ≤ greatest_watts
over_quarters_at_most energy quarters h = div-le_of_le-mul quarters (omega (arith, h))

-- a part of a power is no more than the power
pub part_at_most : (p part whole : ℕ) → part ≤ whole → p * part / whole ≤ p
part_at_most p part whole h = div-le_of_le-mul whole (rw (mul_comm whole p) (mul-le-mul_left p h))
