-- `close::adjusted::is_within` meets its contract: of each Dreal its DFA is looked at. Assumes nothing.
use mathlib.Core.Path.{sym, ◌∙◌}
use Prim.Native.Nat.{ℕ}
use borrow.Author.Rules.{rules}
use lib.Dec.{leb}
use Rattle.std.specs.Prelude.{Option}
use Rattle.std.proofs.Common.{tests}
use Rattle.std.proofs.lemmas.Iterator.{YieldsList-from_slice}
use Rattle.std.proofs.lemmas.Iterator.Search.{all_from_yields_List}
use Rattle.std.proofs.lemmas.List.Folds.{list_all-map}
use Rattle.quantities.specs.Limits.{greatest_power}
use Rattle.close.specs.Close.{adjusted_by, all_adjusted}
use Rattle.close.proofs.adjusted.is_within.Goals as goal

pub returns : goal.returns
unfolding all_adjusted
returns c =
    let a = c.args in
    all_from_yields_List (λ (real : Option ℕ). leb (adjusted_by a.dmp a.total real) greatest_power) _ _ _ c.all.ensures.ran (YieldsList-from_slice a.reals.now cc) (λ x b q k. search (rules, tests))
    ∙ sym (list_all-map (λ (x : ℕ). leb x greatest_power) (adjusted_by a.dmp a.total) a.reals.now)
