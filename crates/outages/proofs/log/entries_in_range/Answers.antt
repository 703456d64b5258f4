-- `outages::log::entries_in_range` meets its contract: each entry's bytes are looked at. Assumes nothing.
use Rattle.std.proofs.Common.{sym, ◌∙◌, List, ℕ, rules, tests}
use Rattle.std.proofs.lemmas.Iterator.{YieldsList-from_slice}
use Rattle.std.proofs.lemmas.Iterator.Search.{all_from_yields_List}
use Rattle.std.proofs.lemmas.List.Folds.{list_all-map}
use Rattle.outages.specs.Log.{entry_of, entry_in_range}
use Rattle.outages.proofs.log.entries_in_range.Goals as goal

pub returns : goal.returns
returns c =
    all_from_yields_List (λ (bytes : List ℕ). entry_in_range (entry_of bytes)) _ _ _ c.all.ensures.ran (YieldsList-from_slice c.args.entries.now cc) (λ x b q k. search (rules, tests))
    ∙ sym (list_all-map (λ e. entry_in_range e) (λ e. entry_of e) c.args.entries.now)
