-- The entries so far are in order and end at `free`; their minutes are those that are missing of all, and have room in the window up to there.
-- Assumes nothing.
use Rattle.std.proofs.Common.{◌≡◌, map, ◌+◌, ◌-◌, ◌≤◌, min, drop}
use Rattle.std.specs.List.{sum_by}
use Rattle.outages.specs.Log.{forced, entry_of, in_order}
use Rattle.outages.specs.Outages.{minutes_within, minutes_of_kind}
use Rattle.outages.proofs.entries.figures_of.Given as goal

abbrev pub invariant-loop-bytes : goal.invariant-loop-bytes
invariant-loop-bytes l =
    let w = l.log.window in
    let all = map entry_of l.log.entries.now in
    let left = map entry_of (drop l.bytes-index l.log.entries.now) in
    record {
      ordered : in_order l.free left ≡ in_order 0 all;
      all_left : l.outages + sum_by (λ e. minutes_within w e) left ≡ sum_by (λ e. minutes_within w e) all;
      forced_left : l.forced + minutes_of_kind w forced left ≡ minutes_of_kind w forced all;
      room : (l.forced ≤ l.outages) × (l.outages ≤ min w.end l.free - w.start);
    }
