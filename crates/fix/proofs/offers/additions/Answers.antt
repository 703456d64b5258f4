-- `fix::additions` meets its contract. Assumes nothing.
use native.Mathlib.Omega.{arith}
use borrow.Author.Rules.{rules}
use Rattle.quantities.specs.Limits.{units}
use Rattle.basis.proofs.Made.{made_tab, made_sum}
use Rattle.fix.proofs.offers.additions.Goals as goal

pub returns-clause-each : goal.returns-clause-each
returns-clause-each c = made_tab _ _ _ units (λ i y q l k. search rules) c.from_fn.ensures.items

pub returns-clause-fits : goal.returns-clause-fits
returns-clause-fits c =
    omega (arith, made_sum 4294967295 units _ (λ i y p q l k. omega (arith, k)) c.from_fn.ensures.items)
