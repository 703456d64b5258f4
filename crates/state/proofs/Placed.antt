-- The place of a unit or a consumer is its own where the number is in range.
use mathlib.Core.Path.{◌≡◌}
use Prim.Native.Nat.{ℕ, ◌-◌}
use borrow.Author.Tests.{le-leb}
use Rattle.table.proofs.Laws.{Numbered}
use Rattle.state.specs.Places.{place_of}

pub own_place : {greatest n : ℕ} → Numbered greatest n → place_of greatest n ≡ n - 1
own_place {greatest} {n} h = rw (le-leb n greatest h.most)
