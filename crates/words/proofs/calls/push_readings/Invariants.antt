-- The readings so far.
use Rattle.std.proofs.Common.{◌≡◌, ◌++◌, ◌+◌, ◌*◌, ◌≤◌, length}
use Rattle.std.specs.Int.{from_le_bytes, w32}
use Rattle.std.specs.List.{flat_map}
use Rattle.words.specs.declared.calls.TheConstants.{LONGEST_VALUE}
use Rattle.words.specs.Calls.{value_text}
use Rattle.words.proofs.calls.push_readings.Given as goal

abbrev pub invariant-loop-reading : goal.invariant-loop-reading
invariant-loop-reading g l =
    record {
      can : (goal.iterator-loop-reading g).can_next l.reading-iterator;
      finite : (goal.iterator-loop-reading g).is_finite l.reading-iterator;
      text : l.text ≡ l.initial.text ++ flat_map (λ r. value_text (from_le_bytes w32 r.now)) l.yielded;
      room : length l.text ≤ length l.initial.text + length l.yielded * LONGEST_VALUE;
    }
