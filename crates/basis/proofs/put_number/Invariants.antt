-- `basis::put_number` meets its contract. The invariant: the bytes written, with those of y behind them, are those of x.
-- Assumes nothing.
use Rattle.std.proofs.Common.{◌≡◌, ◌++◌, ◌-◌, take}
use Rattle.basis.specs.Numbers.{bytes_of}
use Rattle.basis.proofs.put_number.Given as goal

abbrev pub invariant-loop-byte : goal.invariant-loop-byte
invariant-loop-byte l =
    take l.byte-index l.byte-items ++ bytes_of (l.width - l.byte-index) l.y ≡ bytes_of l.width l.x
