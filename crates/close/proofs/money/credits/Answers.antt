-- `close::credits` meets its contract. Assumes nothing.
use mathlib.Core.Path.{◌≡◌, ap, ◌∙◌}
use Prim.Native.Nat.{◌-◌}
use native.Mathlib.Omega.{arith}
use lib.ListN.{replicate}
use Rattle.std.specs.Result.{result_unwrap_or}
use Rattle.basis.specs.Sums.{sum}
use Rattle.quantities.specs.Limits.{consumers}
use Rattle.close.proofs.CloseLaws.{credited, undistributed}
use Rattle.close.proofs.money.credits.Goals as goal

pub returns : goal.returns
returns c =
    let a = c.args in
    let promised = c.among_consumers.ensures in
    let shared : c.unwrap_or.result ≡ result_unwrap_or c.among_consumers.result (replicate consumers 0) = c.unwrap_or.ensures in
    let left = undistributed a.charged a.surpluses.now c.among_consumers.result promised.number promised.whole in
    record {
      each = shared ∙ credited a.charged a.surpluses.now c.among_consumers.result promised.number promised.amounts;
      covered = omega (arith, ap sum shared, left.0);
      rest = ap (λ l. a.charged - sum l) shared ∙ left.1;
    }
