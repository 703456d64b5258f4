-- `close::adjusted::real_demands` meets its contract. Assumes nothing.
use borrow.Author.Rules.{rules}
use Rattle.basis.proofs.Made.{made_map}
use Rattle.quantities.specs.Limits.{consumers}
use Rattle.state.specs.State.{fresh_consumer}
use Rattle.close.specs.Close.{real_demand, reals_of}
use Rattle.close.proofs.adjusted.real_demands.Goals as goal

pub returns : goal.returns
unfolding reals_of
returns c =
    made_map _ real_demand c.args.consumers.now fresh_consumer _ consumers (λ i y q l k. search rules) (search rules) c.from_fn.ensures.items
