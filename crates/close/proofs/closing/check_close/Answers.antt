-- `close::closing::check_close` meets its contract: the charges are added up of DFA and a price in their ranges. Assumes nothing.
use mathlib.Core.Path.{◌≡◌, sym}
use mathlib.Core.Bool.{true}
use mathlib.Core.List.{[]}
use borrow.Author.Rules.{rules}
use Rattle.basis.specs.Sums.{all_at_most}
use Rattle.basis.proofs.Choice.{handed_on}
use Rattle.quantities.specs.Limits.{greatest_power}
use Rattle.table.specs.Ranges.{call_number}
use Rattle.table.specs.declared.calls.Call.TheVariants as call
use Rattle.table.proofs.Table.{close-ranged}
use Rattle.state.specs.declared.kept.Stage.TheVariants.{Firm}
use Rattle.state.specs.State.{staged}
use Rattle.close.specs.Close.{all_adjusted}
use Rattle.close.proofs.CloseLaws.{each_within}
use Rattle.close.proofs.closing.check_close.Goals as goal

pub adjusted-requires : goal.adjusted-requires
adjusted-requires c k =
    let a = c.args in
    let within : all_at_most greatest_power (all_adjusted a.dmp a.total a.reals.now) ≡ true = search rules in
    each_within a.dmp a.total a.reals.now within k

pub check_charges-requires-clause-price : goal.check_charges-requires-clause-price
check_charges-requires-clause-price c =
    let a = c.args in
    (close-ranged a.p [] (handed_on (call_number (call.Close a.p) []) (staged Firm a.stage 0) (sym c.in_ok-check_open.ensures)).0).most
