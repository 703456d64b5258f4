use Rattle.std.proofs.Common.{append_assoc}
use Rattle.summary.specs.Summary.{counts}
use Rattle.summary.proofs.counts.Goals as goal

pub returns : goal.returns
unfolding counts
returns c =
    rw (c.push_text-3.ensures.text, c.push_text-2.ensures.text, c.push_text.ensures.text, c.new-lines.ensures, append_assoc c.count_line.result)
    (rw (c.count_line.ensures, c.count_line-2.ensures, c.count_line-3.ensures))
