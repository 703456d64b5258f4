-- `text::amounts::Amount::push_to` meets its contract: a sign and twenty digits at most. Assumes nothing.
use mathlib.Core.Path.{ap}
use mathlib.Core.List.{[], ◌∷◌}
use Prim.Native.Nat.{◌<◌, ◌^◌}
use native.Mathlib.Omega.{arith}
use borrow.Author.Rules.{rules}
use lib.ListN.{length, length-append}
use Rattle.text.specs.Text.{decimal}
use Rattle.text.proofs.Digits.{digits_short}
use Rattle.text.proofs.amounts.Amount.push_to.Goals as goal

pub push_decimal-requires : goal.push_decimal-requires
push_decimal-requires c =
    let fits : c.abs_diff-size.result < 2 ^ 64 = search rules in
    omega (arith, ap length c.push.ensures, length-append c.args.line.now (45 ∷ []), digits_short c.abs_diff-size.result fits, c.requires)

pub returns-then-below-clause-room : goal.returns-then-below-clause-room
returns-then-below-clause-room c =
    let fits : c.abs_diff-size.result < 2 ^ 64 = search rules in
    omega (arith, ap length c.push.ensures, length-append c.args.line.now (45 ∷ []), ap length c.push_decimal.ensures, length-append c.push.new.self (decimal c.abs_diff-size.result), digits_short c.abs_diff-size.result fits)

pub returns-else-below-clause-room : goal.returns-else-below-clause-room
returns-else-below-clause-room c =
    let x = c.abs_diff-size.result in
    let fits : c.abs_diff-size.result < 2 ^ 64 = search rules in
    omega (arith, ap length c.push_decimal-else-below.ensures, length-append c.args.line.now (decimal x), digits_short x fits)
