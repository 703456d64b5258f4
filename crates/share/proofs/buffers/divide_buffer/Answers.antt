-- `share::buffers::divide_buffer` meets its contract: it divides the numbers that the buffer holds.
-- Assumes nothing.
use mathlib.Core.Path.{◌≡◌, ap, ◌∙◌}
use Prim.Native.Nat.{◌/◌}
use native.Mathlib.Omega.{arith}
use borrow.Author.Rules.{rules}
use lib.ListN.{length}
use Rattle.basis.specs.Numbers.{all_bytes_of, written}
use Rattle.share.specs.Division.{division_number}
use Rattle.share.proofs.Encoded.{refused_bytes, never_refused, room_for_all, shared}
use Rattle.share.proofs.buffers.divide_buffer.Goals as goal

pub returns-in_err-check_division : goal.returns-in_err-check_division
returns-in_err-check_division c =
    let a = c.args in
    refused_bytes a.total a.buffer.now a.amounts.now (length a.numbers.now) c.requires.0 c.read_weights.new.weights c.read_weights.ensures c.from_residual.result c.from_residual.ensures.0 (search rules)

pub returns-in_err-divide : goal.returns-in_err-divide
returns-in_err-divide c =
    let a = c.args in
    let z : division_number a.total c.read_weights.new.weights (length a.amounts.now / 8) ≡ 0 = search rules in
    absurd (never_refused a.total a.buffer.now a.amounts.now (length a.numbers.now) c.requires.0 c.read_weights.new.weights c.read_weights.ensures z a.parts.now a.parts.now c.requires.1 c.from_residual-in_err-divide.result c.from_residual-in_err-divide.ensures.0 (search rules))

pub put_numbers-requires : goal.put_numbers-requires
put_numbers-requires c =
    let a = c.args in
    let z : division_number a.total c.read_weights.new.weights (length a.amounts.now / 8) ≡ 0 = search rules in
    omega (arith, ap length c.divide.ensures.amounts, room_for_all a.total a.buffer.now a.amounts.now (length a.numbers.now) c.requires.0 c.read_weights.new.weights c.read_weights.ensures z a.parts.now a.parts.now c.requires.1)

pub returns : goal.returns
returns c =
    let a = c.args in
    let z : division_number a.total c.read_weights.new.weights (length a.amounts.now / 8) ≡ 0 = search rules in
    shared a.total a.buffer.now a.amounts.now (length a.numbers.now) c.requires.0 c.read_weights.new.weights c.read_weights.ensures z a.parts.now _ c.requires.1
    (c.put_numbers.ensures ∙ ap (λ l. written a.amounts.now 0 (all_bytes_of 8 l)) c.divide.ensures.amounts)
