-- `narrow::narrow` meets its contract, by what the reading met and the room. Assumes nothing.
use Rattle.std.proofs.Common.{sym, ◌∙◌, length}
use native.Mathlib.Nat.{zero-add}
use Rattle.narrow.proofs.Turns.{narrows_stopped, narrows_short, narrows_whole, stop_met}
use Rattle.narrow.proofs.narrow.Goals as goal

pub returns-in-Some : goal.returns-in-Some
returns-in-Some c =
    let s = c.args.journal.now in
    let e = sym c.in-Some.is ∙ c.first_stop.ensures in
    narrows_stopped s c.args.out.now e (stop_met s e)

pub returns-in-None : goal.returns-in-None
returns-in-None c =
    rw c.into.ensures (narrows_short c.args.journal.now c.args.out.now (sym c.in-None.is ∙ c.first_stop.ensures) c.if-out-journal.true)

pub returns-in-None-2 : goal.returns-in-None-2
returns-in-None-2 c =
    let s = c.args.journal.now in
    let none = zero-add (length s) in
    rw c.copy_from_slice.ensures.after
    (rw none at (narrows_whole s c.args.out.now (sym c.in-None-2.is ∙ c.first_stop.ensures) c.if-out-journal.false))
