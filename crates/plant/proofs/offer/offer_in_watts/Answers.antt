use Rattle.std.proofs.Common.{arith}
use Rattle.plant.proofs.Offers.{offer_of_no_kind}
use Rattle.plant.proofs.offer.offer_in_watts.Goals as goal

pub returns-in_default : goal.returns-in_default
returns-in_default c =
    let s = c.args.components in
    offer_of_no_kind c.args.plant c.args.hours s.set s.generator s.storage (λ h. grind arith)
