-- `yearbook::output::print_replies` is safe and ends: with each line fewer are left. Assumes nothing.
use Rattle.yearbook.proofs.output.print_replies.Given as goal

abbrev pub decreases-loop-line : goal.decreases-loop-line
decreases-loop-line l = l.rest.left
