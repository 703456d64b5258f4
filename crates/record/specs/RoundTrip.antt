-- The claims on reading and writing: written is read, read is written, and a record's reading stands by itself.
use Rattle.std.specs.Prelude.{◌≡◌, List, ◌++◌, ℕ, ◌-◌, ◌≤◌, ◌<◌, length, take, drop}
use Rattle.basis.specs.Numbers.{Bytes, written}
use Rattle.table.specs.Records.{fields_size, record_size}
use Rattle.table.specs.Ranges.{call_number}
use Rattle.record.specs.Reading.{read_at, part_of}
use Rattle.record.specs.Writing.{carried, write_number, written_by}
use Rattle.table.specs.declared.calls.Call.{Call}
use Rattle.record.specs.declared.reading.Read.TheVariants.{Record}

-- a call is accepted and reads back at the buffer's start as that call, with those readings and the next place behind it; what
-- stood behind stands there still
pub record ReadBack (c : Call) (readings out : List ℕ) : Type 0 where
  pub accepted : write_number c readings (length out) ≡ 0
  pub read : read_at (written_by c readings out) 0 ≡ Record c (fields_size c) (record_size c)
  pub with_readings : part_of (written_by c readings out) (fields_size c) (record_size c) ≡ carried c readings
  pub behind : drop (record_size c) (written_by c readings out) ≡ drop (record_size c) out

-- a call with its fields in range, written to any buffer that is long enough, reads back
abbrev pub WrittenIsRead : Type 0
WrittenIsRead =
    (c : Call) (readings out : List ℕ) → call_number c readings ≡ 0 → record_size c ≤ length out → ReadBack c readings out

-- a call that was read between two places is accepted, and its record is the bytes that were read
pub record WrittenBack (s : List ℕ) (at : ℕ) (c : Call) (from next : ℕ) (out : List ℕ) : Type 0 where
  pub accepted : write_number c (part_of s from next) (length out) ≡ 0
  pub bytes : written_by c (part_of s from next) out ≡ written out 0 (part_of s at next)

-- a record read with its fields in range is written again to its own bytes
abbrev pub ReadIsWritten : Type 0
ReadIsWritten =
    (s : List ℕ) (at : ℕ) (c : Call) (from next : ℕ) (out : List ℕ) →
    Bytes s →
    read_at s at ≡ Record c from next →
    call_number c (part_of s from next) ≡ 0 →
    next - at ≤ length out →
    WrittenBack s at c from next out

-- a read record's next place is beyond its start and within the journal, and its readings stand before the next place
pub record ReadPlace (s : List ℕ) (at from next : ℕ) : Type 0 where
  pub beyond : at < next
  pub within : next ≤ length s
  pub readings_beyond : at < from
  pub readings_within : from ≤ next

abbrev pub ReadIsPlaced : Type 0
ReadIsPlaced =
    (s : List ℕ) (at : ℕ) (c : Call) (from next : ℕ) → read_at s at ≡ Record c from next → ReadPlace s at from next

-- the record reads the same, with the same readings, whatever else follows it
pub record Alone (s : List ℕ) (at : ℕ) (c : Call) (from next : ℕ) (more : List ℕ) : Type 0 where
  pub longer : read_at (s ++ more) at ≡ Record c from next
  pub other : read_at (take next s ++ more) at ≡ Record c from next
  pub longer_readings : part_of (s ++ more) from next ≡ part_of s from next
  pub other_readings : part_of (take next s ++ more) from next ≡ part_of s from next

-- the reading of a record does not depend on what follows it
abbrev pub ReadIsAlone : Type 0
ReadIsAlone =
    (s : List ℕ) (at : ℕ) (c : Call) (from next : ℕ) (more : List ℕ) →
    read_at s at ≡ Record c from next →
    Alone s at c from next more
