-- `close::closing::put_closed` meets its contract: a close that is accepted is within its ranges. Assumes nothing.
use Rattle.close.proofs.CloseLaws.{accepted-close}
use Rattle.close.proofs.closing.put_closed.Goals as goal

pub figures-book-requires : goal.figures-book-requires
figures-book-requires c =
    let b = c.args.book.now in
    let accepted = accepted-close b.stage b.dmp b.consumers c.args.p c.requires in
    (accepted.price, accepted.within)
