use Rattle.std.proofs.Common.{◌∙◌, ap, length, arith, ◌∷◌, [], add-one}
use native.Mathlib.Nat.{pow-le-pow_right}
use Rattle.std.proofs.Math.ListN.{length-append}
use Rattle.basis.proofs.Numbers.{digit_more, read_more, all_read}
use Rattle.basis.proofs.number_at.Goals as goal

pub overflow_mul-x : goal.overflow_mul-x
overflow_mul-x c =
    let l = c.loop-byte in
    let n = ap length c.in-Some.ensures.steps ∙ length-append c.next.new.self.iter.rest.now (c.in-Some.byte.now ∷ []) in
    omega (arith, l.invariant.small, n, pow-le-pow_right {n = 256} (omega arith) {i = length l.yielded} {j = 7} (omega (arith, n)))

pub overflow_add-x : goal.overflow_add-x
overflow_add-x c =
    let l = c.loop-byte in
    let n = ap length c.in-Some.ensures.steps ∙ length-append c.next.new.self.iter.rest.now (c.in-Some.byte.now ∷ []) in
    omega (arith, l.invariant.small, n, pow-le-pow_right {n = 256} (omega arith) {i = length l.yielded} {j = 7} (omega (arith, n)))

pub loop-byte-preserved : goal.loop-byte-preserved
loop-byte-preserved c =
    let l = c.loop-byte in
    let n = ap length c.in-Some.ensures.steps ∙ length-append c.next.new.self.iter.rest.now (c.in-Some.byte.now ∷ []) in
    let y = length-append l.yielded (c.in-Some.byte ∷ []) in
    record {
      places = omega (arith, n, y);
      small = rw (y, add-one, c.from.ensures) (digit_more (length l.yielded) l.x c.in-Some.byte.now l.invariant.small (omega arith));
      value = rw c.from.ensures (read_more c.next.new.self.iter.rest.now l.byte-iterator.iter.rest.now c.in-Some.byte.now l.x c.in-Some.ensures.steps ∙ l.invariant.value);
    }

pub returns : goal.returns
returns c = all_read c.loop-byte.byte-iterator.iter.rest.now c.loop-byte.x c.in-None.ensures.steps.0 ∙ c.loop-byte.invariant.value
