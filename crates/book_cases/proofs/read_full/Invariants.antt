-- `book_cases::read_full` meets its contract, and ends: each turn but the last fills some of the space. Assumes nothing.
use Rattle.std.proofs.Common.{◌-◌, ◌≤◌, length}
use Rattle.book_cases.proofs.read_full.Given as goal

abbrev pub invariant-loop-count : goal.invariant-loop-count
invariant-loop-count g l = l.count ≤ length l.space

abbrev pub decreases-loop-count : goal.decreases-loop-count
decreases-loop-count g l = length l.space - l.count
