use Rattle.std.proofs.Common.{◌≡◌, length, ◌∙◌, rules, tests, arith}
use Rattle.std.proofs.lemmas.Iterator.{YieldsList-from_slice}
use Rattle.std.proofs.lemmas.Iterator.Consumers.{YieldsList-from_filter, count_from_yields_List}
use Rattle.page.specs.Page.{declared_consumers}
use Rattle.page.proofs.Growing.{is_declared, counted, declared-within}
use Rattle.page.proofs.pages.count_declared.Goals as goal

pub returns : goal.returns
returns c =
    let xs = c.args.consumers.now in
    let n : c.count.result ≡ length (declared_consumers xs) = count_from_yields_List _ _ c.count.ensures.ran (YieldsList-from_filter _ is_declared (YieldsList-from_slice xs cc) c.filter.ensures.closure (λ x r q k. search (rules, tests))) ∙ counted xs (search rules) in
    (n, omega (arith, n, declared-within xs))
