use Rattle.std.proofs.Common.{eqb, sym, ◌∙◌, rules, tests}
use Rattle.std.proofs.lemmas.Iterator.{YieldsList-from_slice}
use Rattle.std.proofs.lemmas.Iterator.Search.{any_from_yields_List}
use Rattle.fix.specs.Fix.{producer_by}
use Rattle.letters.proofs.Owners.{owns_some}
use Rattle.letters.proofs.units.has_unit.Goals as goal

pub returns : goal.returns
returns c =
    any_from_yields_List (λ u. eqb (producer_by u.enrolment) c.args.producer) _ _ _ c.any.ensures.ran (YieldsList-from_slice c.args.units.now cc) (λ x b q k. search (rules, tests))
    ∙ sym (owns_some c.args.units.now c.args.producer (search rules))
