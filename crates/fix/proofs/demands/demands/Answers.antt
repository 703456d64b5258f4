-- `fix::demands` meets its contract: each share of DMP fits 32 bits. Assumes nothing.
use borrow.Author.Rules.{rules}
use Rattle.quantities.specs.Limits.{consumers}
use Rattle.basis.proofs.Made.{made_same}
use Rattle.fix.proofs.demands.demands.Goals as goal

pub returns-clause-shared : goal.returns-clause-shared
returns-clause-shared c =
    let same = made_same _ c.in_ok-amounts.amounts 0 _ consumers (λ i y q l k. search rules) (search rules) c.from_fn.ensures.items in
    cc (same, c.in_ok-amounts.ensures.amounts)
