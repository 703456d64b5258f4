-- `basis::number_at` meets its contract. The invariant: the bytes that are left, with x behind them, make the number.
-- Assumes nothing.
use Rattle.std.proofs.Common.{◌≡◌, ◌+◌, ◌*◌, ◌<◌, ◌^◌, length}
use Rattle.basis.specs.Numbers.{number, number_at}
use Rattle.basis.proofs.number_at.Given as goal

abbrev pub invariant-loop-byte : goal.invariant-loop-byte
invariant-loop-byte l =
    let left = l.byte-iterator.iter.rest.now in
    record {
      places : length left + length l.yielded ≡ l.width;
      small : l.x < 256 ^ length l.yielded;
      value : number left + 256 ^ length left * l.x ≡ number_at l.width l.s l.at;
    }
