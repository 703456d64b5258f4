-- The text of the consumers so far stands at the front.
use Rattle.page.proofs.Growing.{Standing}
use Rattle.page.proofs.pages.put_lines.Given as goal

abbrev pub invariant-loop-i : goal.invariant-loop-i
invariant-loop-i l = Standing l.consumers l.closing l.initial.out l.i l.lines l.out
