-- The sum of a producer's balances.
use mathlib.Core.Path.{◌≡◌, refl, ◌∙◌}
use mathlib.Core.List.{List}
use Prim.Native.Nat.{ℕ, ◌+◌, ◌≤◌, ◌<◌}
use native.Mathlib.Omega.{arith}
use borrow.Author.Tests.{le-leb}
use lib.ListN.{get_or, take, drop}
use lib.Seq.{get_or-drop, get_or-take}
use Rattle.basis.specs.Sums.{sum}
use Rattle.basis.proofs.Sums.{at_most_sum}
use Rattle.quantities.specs.Limits.{producers}
use Rattle.table.proofs.Laws.{Numbered}
use Rattle.state.specs.State.{row_of}
use Rattle.decision.specs.ContractCalls.{producer_balance}

-- an element of a row is at most its sum
pub in_row : (l : List ℕ) (from n i : ℕ) → i < n → get_or l (from + i) 0 ≤ sum (take n (drop from l))
in_row l from n i h =
    let e : get_or (take n (drop from l)) i 0 ≡ get_or l (from + i) 0 = get_or-take n (drop from l) i 0 h ∙ get_or-drop from l i 0 in
    omega (arith, at_most_sum (take n (drop from l)) i)

-- the sum of the balances of a producer in range
pub total_in_range : (balances : List ℕ) {producer : ℕ} → Numbered producers producer → producer_balance balances producer ≡ sum (row_of balances producer)
total_in_range balances {producer} n = rw (le-leb 1 producer n.least, le-leb producer producers n.most) refl
