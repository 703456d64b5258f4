-- `text::amounts::put_decimal` meets its contract: the last digit stands behind those of a tenth. Assumes nothing.
use Rattle.std.proofs.Common.{◌+◌, ◌%◌, ◌∷◌, [], ◌++◌, List, ℕ, sym, ap, ◌∙◌, arith}
use Rattle.std.proofs.lemmas.List.{take_more_set}
use Rattle.text.proofs.Digits.{decimal_digit, decimal_more, length_digit, length_more}
use Rattle.text.proofs.amounts.+put_decimal.Goals as goal

pub returns-then-x-lt10-clause-digits : goal.returns-then-x-lt10-clause-digits
returns-then-x-lt10-clause-digits t c =
    let a = c.args in
    take_more_set a.out.now 0 (48 + a.x) (omega (arith, length_digit a.x c.if-x-lt10.true, c.requires))
    ∙ sym (decimal_digit a.x c.if-x-lt10.true)

pub returns-clause-digits : goal.returns-clause-digits
returns-clause-digits t c =
    let x = c.args.x in
    let tenth = c.put_decimal-last in
    let last : List ℕ = (48 + x % 10) ∷ [] in
    take_more_set tenth.new.out tenth.result (48 + x % 10) (omega (arith, tenth.ensures.count, tenth.ensures.length, length_more x c.if-x-lt10.false, c.requires))
    ∙ ap (λ l. l ++ last) tenth.ensures.digits
    ∙ sym (decimal_more x c.if-x-lt10.false)
