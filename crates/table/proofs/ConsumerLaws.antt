-- What a call of a consumer in range shows of its fields.
use mathlib.Core.Path.{◌≡◌}
use mathlib.Core.List.{List}
use Prim.Native.Nat.{ℕ, ◌≤◌}
use native.Mathlib.Omega.{arith}
use Rattle.quantities.specs.Limits.{consumers, greatest_power}
use Rattle.table.specs.Records.{consumer_field, table_of, parts_of}
use Rattle.table.specs.Ranges.{call_number}
use Rattle.table.specs.declared.calls.Call.TheVariants.{Consumer}
use Rattle.table.specs.declared.consumers.ConsumerCall.{ConsumerCall}
use Rattle.table.specs.declared.consumers.ConsumerCall.TheVariants.{Declare, Meter, Mean}
use Rattle.table.specs.declared.forms.Mark.TheVariants as mark
use Rattle.table.proofs.ConsumerFields.{field_numbered}
use Rattle.table.proofs.Laws.{field_in_range, Numbered}
use Rattle.table.proofs.Table.{lawful, of_parts}

pub record DeclareRanged (c x y : ℕ) : Type 0 where
  pub consumer : Numbered consumers c
  pub d : x ≤ greatest_power
  pub a : y ≤ greatest_power

pub declare-ranged : (consumer d a : ℕ) (rs : List ℕ) → call_number (Consumer consumer (Declare d a)) rs ≡ 0 → DeclareRanged consumer d a
unfolding table_of parts_of
declare-ranged consumer d a rs e =
    let f = field_in_range (Consumer consumer (Declare d a)) (lawful (mark.Declare (consumer_field consumer))) (of_parts (Consumer consumer (Declare d a))) rs e in
    record { consumer = field_numbered (f 0 (omega arith)); d = (f 1 (omega arith)).1; a = (f 2 (omega arith)).1 }

-- the consumer of any call in range
pub consumer_numbered : (consumer : ℕ) (act : ConsumerCall) (rs : List ℕ) → call_number (Consumer consumer act) rs ≡ 0 → Numbered consumers consumer
unfolding table_of parts_of
consumer_numbered consumer (Declare d a) rs e = (declare-ranged consumer d a rs e).consumer
consumer_numbered consumer (Meter dreal) rs e =
    field_numbered (field_in_range (Consumer consumer (Meter dreal)) (lawful (mark.Meter (consumer_field consumer))) (of_parts (Consumer consumer (Meter dreal))) rs e 0 (omega arith))
consumer_numbered consumer (Mean mean) rs e =
    field_numbered (field_in_range (Consumer consumer (Mean mean)) (lawful (mark.Mean (consumer_field consumer))) (of_parts (Consumer consumer (Mean mean))) rs e 0 (omega arith))
