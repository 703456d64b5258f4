-- `fix::weights` meets its contract. Assumes nothing.
use native.Mathlib.Omega.{arith}
use borrow.Author.Rules.{rules}
use Rattle.quantities.specs.Limits.{consumers}
use Rattle.basis.proofs.Made.{made_map, made_sum}
use Rattle.state.specs.State.{fresh_consumer}
use Rattle.state.specs.declared.kept.Consumer.{Consumer}
use Rattle.fix.specs.Fix.{declared_by, weights_of}
use Rattle.fix.proofs.demands.weights.Goals as goal

pub returns-clause-each : goal.returns-clause-each
unfolding weights_of
returns-clause-each c =
    made_map _ (λ (x : Consumer). declared_by x.declaration) c.args.consumers.now fresh_consumer _ consumers (λ i y q l k. search rules) (search rules) c.from_fn.ensures.items

pub returns-clause-fits : goal.returns-clause-fits
returns-clause-fits c = omega (arith, made_sum 4294967295 consumers _ (λ i y p q l k. omega (arith, k)) c.from_fn.ensures.items)
