use Rattle.std.proofs.Common.{sym, ◌∙◌}
use Rattle.desk.proofs.Lines.{ending, tells_nothing, tells_ending, tells_record}
use Rattle.desk.proofs.replies.next_reply.Goals as goal

pub returns-then-rest-eq0 : goal.returns-then-rest-eq0
returns-then-rest-eq0 c = tells_nothing c.args.journal.now c.args.rest.now c.if-rest-eq0.true

pub returns-in_default : goal.returns-in_default
returns-in_default c =
    let s = c.args.journal.now in
    let rest = c.args.rest.now in
    tells_ending s rest c.if-rest-eq0.false (ending s rest.book rest.place c.read_at-read.result (sym c.read_at-read.ensures) c.in_default.not-Record) (rw c.stop_number.ensures at c.end_line.ensures)

pub returns : goal.returns
returns c =
    tells_record c.args.journal.now c.args.rest.now c.step-answer.result c.if-rest-eq0.false (sym c.read_at-read.ensures ∙ c.in-Record.is) c.readings_of-part.ensures c.step-answer.ensures (rw c.number_met.ensures at c.reply_line-line.ensures) c.unwrap_or-rest.ensures
