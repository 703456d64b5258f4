-- `close::surpluses` meets its contract. Assumes nothing.
use borrow.Author.Rules.{rules}
use Rattle.basis.proofs.Made.{made_tab}
use Rattle.quantities.specs.Limits.{consumers}
use Rattle.close.proofs.money.surpluses.Goals as goal

pub returns : goal.returns
returns c = made_tab _ _ _ consumers (λ i y q l k. search rules) c.from_fn.ensures.items
