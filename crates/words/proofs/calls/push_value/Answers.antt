-- `words::calls::push_value` meets its contract: a blank and twenty digits at most. Assumes nothing.
use Rattle.std.proofs.Common.{rules, ◌<◌, ◌^◌, [], ◌∷◌, length, ap, arith}
use lib.ListN.{length-append}
use Rattle.text.specs.Text.{decimal}
use Rattle.text.proofs.Digits.{digits_short}
use Rattle.words.proofs.calls.push_value.Goals as goal

pub push_decimal-requires : goal.push_decimal-requires
push_decimal-requires g c =
    let fits : c.into.result < 2 ^ 64 = search rules in
    (search rules, omega (arith, ap length c.push.ensures, length-append c.args.text.now (32 ∷ []), digits_short c.into.result fits, c.requires))

pub returns-clause-room : goal.returns-clause-room
returns-clause-room g c =
    let fits : c.into.result < 2 ^ 64 = search rules in
    omega (arith, ap length c.push.ensures, length-append c.args.text.now (32 ∷ []), ap length c.push_decimal.ensures, length-append c.push.new.self (decimal c.into.result), digits_short c.into.result fits)
