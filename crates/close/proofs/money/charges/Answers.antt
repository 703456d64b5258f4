-- `close::charges` meets its contract. Assumes nothing.
use mathlib.Core.Path.{◌≡◌, ap, ◌∙◌}
use native.Mathlib.Omega.{arith}
use borrow.Author.Rules.{rules}
use lib.ListN.{get_or}
use Rattle.basis.specs.Sums.{sum}
use Rattle.basis.specs.Tables.{tab}
use Rattle.basis.proofs.Made.{made_tab}
use Rattle.quantities.specs.Limits.{consumers}
use Rattle.state.specs.State.{fresh_consumer}
use Rattle.close.specs.Close.{charge_by}
use Rattle.close.proofs.Bounds.{charges_at_most}
use Rattle.close.proofs.CloseLaws.{charges_by_place}
use Rattle.close.proofs.money.charges.Goals as goal

pub returns : goal.returns
returns c =
    let a = c.args in
    let each : c.from_fn.result ≡ tab (λ i. charge_by a.p (get_or a.adjusted.now i 0) (get_or a.consumers.now i fresh_consumer).declaration) consumers = made_tab _ _ _ consumers (λ i y q l k. search rules) c.from_fn.ensures.items in
    record {
      each = each ∙ charges_by_place a.p a.adjusted.now a.consumers.now (search rules) (search rules);
      fits = omega (arith, ap sum each, charges_at_most a.p a.adjusted.now a.consumers.now consumers c.requires.within c.requires.price);
    }
