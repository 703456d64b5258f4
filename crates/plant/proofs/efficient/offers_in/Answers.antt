use Rattle.std.proofs.Common.{get_or, rules}
use Rattle.basis.proofs.Made.{made_tab}
use Rattle.quantities.specs.Limits.{units}
use Rattle.plant.specs.Efficient.{efficient_offer, efficient_offers}
use Rattle.plant.proofs.efficient.offers_in.Goals as goal

pub returns : goal.returns
unfolding efficient_offers
returns c =
    let a = c.args in
    made_tab _ (λ i. efficient_offer a.year (get_or a.flags.now i 0) (get_or a.offers.now i 0)) _ units (λ i y q l k. search rules) c.from_fn.ensures.items
