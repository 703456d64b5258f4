-- The values so far are the first of all, and the rest holds the others.
use Rattle.std.proofs.Common.{◌≡◌, length, take, drop}
use Rattle.table.specs.Fields.{decode}
use Rattle.table.specs.Records.{most_fields}
use Rattle.table.proofs.records.decode.Given as goal

abbrev pub invariant-loop-i : goal.invariant-loop-i
invariant-loop-i l = record {
  widths_count : length l.widths ≡ most_fields;
  values_count : length l.values ≡ most_fields;
  passed : take l.i l.values ≡ take l.i (decode l.widths l.fn.fields);
  left : decode (drop l.i l.widths) l.rest ≡ drop l.i (decode l.widths l.fn.fields);
}
