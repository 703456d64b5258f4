-- `close::closing::check_book` meets its contract: the number is found from ΣD and the Dreal of all consumers. Assumes nothing.
use mathlib.Core.Path.{ap, ◌∙◌}
use mathlib.Core.List.{List}
use Prim.Native.Nat.{ℕ}
use Rattle.std.specs.Prelude.{Option}
use Rattle.basis.specs.Sums.{sum}
use Rattle.fix.specs.Fix.{weights_of}
use Rattle.close.specs.Close.{close_number_by}
use Rattle.close.proofs.closing.check_book.Goals as goal

pub returns : goal.returns
returns c =
    let b = c.args.book.now in
    c.check_close.ensures
    ∙ ap (λ (total : ℕ). close_number_by b.stage b.dmp total c.real_demands-reals.result b.consumers c.args.p) c.total_declared-total.ensures
    ∙ ap (λ (reals : List (Option ℕ)). close_number_by b.stage b.dmp (sum (weights_of b.consumers)) reals b.consumers c.args.p) c.real_demands-reals.ensures
