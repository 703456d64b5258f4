-- `fix::flags` meets its contract. Assumes nothing.
use Rattle.std.proofs.Common.{rules}
use Rattle.quantities.specs.Limits.{units}
use Rattle.basis.proofs.Made.{made_map}
use Rattle.state.specs.State.{fresh_unit}
use Rattle.state.specs.declared.kept.Unit.{Unit}
use Rattle.fix.specs.Fix.{flags_by, flags_of}
use Rattle.fix.proofs.offers.flags.Goals as goal

pub returns : goal.returns
unfolding flags_of
returns c =
    made_map _ (λ (u : Unit). flags_by u.enrolment) c.args.units.now fresh_unit _ units (λ i y q l k. search rules) (search rules) c.from_fn.ensures.items
