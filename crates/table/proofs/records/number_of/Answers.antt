-- A number of at most four bytes has 32 bits.
use mathlib.Core.List.{List}
use Prim.Native.Nat.{ℕ, ◌≤◌, ◌^◌, ◌<◌}
use native.Mathlib.Nat.{pow-le-pow_right}
use native.Mathlib.Omega.{arith}
use lib.ListN.{length}
use lib.Seq.{take-length}
use Rattle.basis.specs.Numbers.{Bytes, number}
use Rattle.basis.proofs.Numbers.{number_below}
use Rattle.table.specs.Records.{widest}
use Rattle.table.proofs.records.number_of.Goals as goal

narrow : (s : List ℕ) → Bytes s → length s ≤ widest → number s < 2 ^ 32
narrow s b h = omega (arith, number_below s b, pow-le-pow_right {n = 256} (omega arith) h)

pub overflow_cast-result : goal.overflow_cast-result
overflow_cast-result c =
    let s = c.args.field.now in
    let n = narrow s (λ k. omega (arith, c.type_inv.field k)) c.requires in
    rw (c.number_at.ensures, take-length s) (omega arith)
