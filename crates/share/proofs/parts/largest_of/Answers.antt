-- `share::parts::largest_of` meets its contract: the first place of the greatest, in two passes.
-- Assumes nothing.
use Rattle.std.proofs.Common.{rules, tests, ◌≡◌, sym, ap, ◌∙◌, length}
use lib.Dec.{ltb}
use Rattle.std.specs.Prelude.{Some, None, cond, unwrap_or}
use Rattle.std.proofs.lemmas.Iterator.{YieldsList-from_slice}
use Rattle.std.proofs.lemmas.Iterator.Adapters.{option_map_id}
use Rattle.std.proofs.lemmas.Iterator.Consumers.{YieldsList-from_copied, max_from_yields_List}
use Rattle.std.proofs.lemmas.Iterator.Search.{position_from_yields_List}
use Rattle.basis.specs.Sums.{greatest}
use Rattle.share.specs.Division.{largest, first_place_of}
use Rattle.share.proofs.Largest.{largest_is, greatest_found, first_found}
use Rattle.share.proofs.parts.largest_of.Goals as goal

pub returns : goal.returns
unfolding largest first_place_of
returns c =
    let r = c.args.rest.now in
    let most : c.unwrap_or-most.result ≡ greatest r =
    c.unwrap_or-most.ensures
    ∙ ap (λ o. unwrap_or o 0) (sym (option_map_id _) ∙ max_from_yields_List _ _ c.max.ensures.ran (YieldsList-from_copied (YieldsList-from_slice r cc)))
    ∙ greatest_found r in
    let found : c.position.result ≡ cond (ltb (largest r) (length r)) (Some (largest r)) None =
    position_from_yields_List _ _ _ _ c.position.ensures.ran (YieldsList-from_slice r cc) (λ x b q k. search (rules, tests, most)) in
    let place : c.unwrap_or.result ≡ largest r =
    c.unwrap_or.ensures ∙ ap (λ o. unwrap_or o (length r)) found ∙ first_found r (length r) c.requires in
    (place, rw place (largest_is r c.requires).within)
