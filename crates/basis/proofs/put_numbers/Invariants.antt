-- `basis::put_numbers` meets its contract. The invariant: the numbers that are passed are written over the front.
-- Assumes nothing.
use Rattle.std.proofs.Common.{◌≡◌, take}
use Rattle.basis.specs.Numbers.{all_bytes_of, written}
use Rattle.basis.proofs.put_numbers.Given as goal

abbrev pub invariant-loop-i : goal.invariant-loop-i
invariant-loop-i l = l.out ≡ written l.initial.out 0 (all_bytes_of l.width (take l.i l.numbers))
