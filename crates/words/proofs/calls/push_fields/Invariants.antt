-- The fields so far.
use Rattle.std.proofs.Common.{◌≡◌, ◌++◌, ◌+◌, ◌*◌, ◌≤◌, length}
use Rattle.std.specs.List.{flat_map}
use Rattle.words.specs.declared.calls.TheConstants.{LONGEST_VALUE}
use Rattle.words.specs.Calls.{field_text}
use Rattle.words.proofs.calls.push_fields.Given as goal

abbrev pub invariant-loop-width : goal.invariant-loop-width
invariant-loop-width g l =
    record {
      can : (goal.iterator-loop-width g).can_next l.width-iterator;
      finite : (goal.iterator-loop-width g).is_finite l.width-iterator;
      text : l.text ≡ l.initial.text ++ flat_map (λ f. field_text f.0.now f.1.now) l.yielded;
      room : length l.text ≤ length l.initial.text + length l.yielded * LONGEST_VALUE;
    }
