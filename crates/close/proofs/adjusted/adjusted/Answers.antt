-- `close::adjusted::adjusted` meets its contract. Assumes nothing.
use Prim.Native.Nat.{ℕ}
use Rattle.std.specs.Prelude.{Option, None}
use borrow.Author.Rules.{rules}
use Rattle.basis.proofs.Made.{made_map}
use Rattle.quantities.specs.Limits.{consumers}
use Rattle.close.specs.Close.{adjusted_by, all_adjusted}
use Rattle.close.proofs.adjusted.adjusted.Goals as goal

pub returns : goal.returns
unfolding all_adjusted
returns c =
    let a = c.args in
    made_map _ (λ (real : Option ℕ). adjusted_by a.dmp a.total real) a.reals.now None _ consumers (λ i y q l k. search rules) (search rules) c.from_fn.ensures.items
