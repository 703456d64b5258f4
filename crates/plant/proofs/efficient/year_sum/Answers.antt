use Rattle.std.proofs.Common.{ℕ, ◌+◌, ◌^◌, ◌∙◌, rules, tests, arith}
use Rattle.std.specs.List.{zip}
use Rattle.std.proofs.iter.Yields.{fronts}
use Rattle.std.proofs.lemmas.List.Sums.{sum-map}
use Rattle.std.proofs.lemmas.Iterator.{YieldsList-from_slice, YieldsList-from_zip, YieldsList-from_map}
use Rattle.std.proofs.lemmas.Iterator.Adapters.{fits_from_length, at_most_from_yields_List, at_most_from_Zip, total_from_yields_List}
use Rattle.quantities.specs.Limits.{units}
use Rattle.plant.specs.Efficient.{counted}
use Rattle.plant.proofs.Selection.{year_sum_of_pairs}
use Rattle.plant.proofs.efficient.year_sum.Goals as goal

pub sum-requires-clause-fits : goal.sum-requires-clause-fits
sum-requires-clause-fits c =
    fits_from_length {s = c.map.result} _ _ units (2 ^ 64) (at_most_from_Zip (fronts {A = ℕ}) (at_most_from_yields_List (YieldsList-from_slice c.args.flags.now cc) (omega arith))) c.map.ensures.closure (omega arith) (λ x r q k. search (rules, tests))

pub returns : goal.returns
returns c =
    let a = c.args in
    total_from_yields_List (λ s x. s + x) 0 _ c.sum.ensures.ran
    (YieldsList-from_map _ (λ p. counted a.year p.0 p.1) (YieldsList-from_zip (YieldsList-from_slice a.flags.now cc) (YieldsList-from_slice a.offers.now cc)) c.map.ensures.closure (λ x r q k. search rules))
    ∙ sum-map (λ p. counted a.year p.0 p.1) (zip a.flags.now a.offers.now)
    ∙ year_sum_of_pairs units a.year a.flags.now a.offers.now (omega arith) (omega arith)
