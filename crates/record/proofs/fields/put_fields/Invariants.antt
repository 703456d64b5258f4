-- With what is still to be written over it, out is what it is to be.
use mathlib.Core.Path.{◌≡◌}
use Prim.Native.Nat.{◌+◌}
use lib.ListN.{length}
use Rattle.std.specs.Iterator.Adapters.{zip_first, zip_second}
use Rattle.std.specs.Slice.Iter.{iter_rest}
use Rattle.basis.specs.Numbers.{written}
use Rattle.basis.specs.Sums.{sum}
use Rattle.table.specs.Fields.{encode}
use Rattle.record.proofs.fields.put_fields.Given as goal

abbrev pub invariant-loop-width : goal.invariant-loop-width
invariant-loop-width l = record {
  room : length l.out ≡ length l.initial.out;
  place : l.place + sum (iter_rest (zip_first l.width-iterator)) ≡ l.at + sum l.widths;
  left : written l.out l.place (encode (iter_rest (zip_first l.width-iterator)) (iter_rest (zip_second l.width-iterator))) ≡ written l.initial.out l.at (encode l.widths l.values);
}
