-- `fix::limit` meets its contract. Assumes nothing.
use mathlib.Core.Path.{◌≡◌, ap, ◌∙◌}
use native.Mathlib.Omega.{arith}
use borrow.Author.Rules.{rules}
use Rattle.basis.specs.Sums.{sum}
use Rattle.basis.proofs.Tables.{sum-tab}
use Rattle.quantities.specs.Limits.{units}
use Rattle.fix.specs.Fix.{added_at, limit_of}
use Rattle.fix.proofs.offers.limit.Goals as goal

pub returns : goal.returns
unfolding limit_of
returns c =
    let summed : c.sum-sum.result ≡ sum c.additions.result = search rules in
    omega (arith, ap sum c.additions.ensures.each ∙ sum-tab (added_at c.args.units.now c.args.efficient.now c.args.producer) units)
