-- `fix::with_demands` meets its contract. Assumes nothing.
use Rattle.std.proofs.Common.{rules}
use Rattle.quantities.specs.Limits.{consumers}
use Rattle.basis.proofs.Made.{made_tab}
use Rattle.fix.specs.Fix.{with_demands}
use Rattle.fix.proofs.demands.with_demands.Goals as goal

pub returns : goal.returns
unfolding with_demands
returns c = made_tab _ _ _ consumers (λ i y q l k. search rules) c.from_fn.ensures.items
