-- `fix::limits` meets its contract. Assumes nothing.
use Rattle.std.proofs.Common.{rules}
use Rattle.quantities.specs.Limits.{producers}
use Rattle.basis.proofs.Made.{made_tab}
use Rattle.fix.specs.Fix.{limits_of}
use Rattle.fix.proofs.offers.limits.Goals as goal

pub returns : goal.returns
unfolding limits_of
returns c = made_tab _ _ _ producers (λ i y q l k. search rules) c.from_fn.ensures.items
