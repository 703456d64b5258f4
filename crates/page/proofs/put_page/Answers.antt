use Rattle.std.proofs.Common.{ap, ◌∙◌, arith}
use Rattle.page.specs.Page.{bytes_for}
use Rattle.page.proofs.Answers.{prints_put}
use Rattle.page.proofs.put_page.Goals as goal

pub returns : goal.returns
returns c =
    let stage = rw c.in_ok-check_stage.was at c.check_stage.ensures in
    let counted = c.size_of-size.ensures ∙ ap bytes_for c.count_declared.ensures.0 in
    prints_put c.args.book c.args.out.now stage counted (omega arith) c.put_lines.ensures
