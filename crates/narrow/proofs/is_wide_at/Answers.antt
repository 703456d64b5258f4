-- A mark is a number of two bytes.
use native.Mathlib.Omega.{arith}
use Rattle.basis.proofs.Numbers.{number_at_below}
use Rattle.narrow.proofs.is_wide_at.Goals as goal

pub overflow_cast-number_at : goal.overflow_cast-number_at
overflow_cast-number_at c =
    let a = c.args in
    omega (arith, c.number_at.ensures, number_at_below 2 a.journal.now a.at (λ k. omega (arith, c.type_inv.journal k)))
