-- `yearbook::read_whole` meets its contract, and ends: each turn but the last fills some of the space. Assumes nothing.
use Rattle.std.proofs.Common.{◌-◌, ◌≤◌, length}
use Rattle.yearbook.proofs.input.read_whole.Given as goal

abbrev pub invariant-loop-count : goal.invariant-loop-count
invariant-loop-count g l = l.count ≤ length l.space

abbrev pub decreases-loop-count : goal.decreases-loop-count
decreases-loop-count g l = length l.space - l.count
