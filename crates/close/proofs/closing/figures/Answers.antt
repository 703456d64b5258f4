-- `close::closing::figures` meets its contract: what is found one after the other. Assumes nothing.
use mathlib.Core.Path.{◌≡◌, ap, ◌∙◌}
use Prim.Native.Nat.{◌-◌}
use borrow.Author.Rules.{rules}
use lib.ListN.{length}
use Rattle.basis.specs.Sums.{sum, all_at_most}
use Rattle.basis.proofs.Sums.{all_at_most_lem}
use Rattle.quantities.specs.Limits.{greatest_power, consumers}
use Rattle.close.specs.Close.{adjusted_in}
use Rattle.close.proofs.CloseLaws.{all_adjusted_lem, each_within, charges_by_dfa, surpluses_by_consumer, figures_with}
use Rattle.close.proofs.closing.figures.Goals as goal

pub adjusted-adjusted-requires : goal.adjusted-adjusted-requires
adjusted-adjusted-requires c k =
    let a = c.args in
    let dfa = all_adjusted_lem a.dmp a.consumers.now c.total_declared.ensures c.real_demands.ensures in
    each_within a.dmp c.total_declared.result c.real_demands.result (ap (all_at_most greatest_power) dfa ∙ c.requires.1) k

pub charges-charges-requires-clause-within : goal.charges-charges-requires-clause-within
charges-charges-requires-clause-within c k =
    let a = c.args in
    let dfa = c.adjusted-adjusted.ensures ∙ all_adjusted_lem a.dmp a.consumers.now c.total_declared.ensures c.real_demands.ensures in
    rw dfa (all_at_most_lem greatest_power (adjusted_in a.dmp a.consumers.now) c.requires.1 k)

pub returns : goal.returns
returns c =
    let a = c.args in
    let xs = a.consumers.now in
    let charges = c.charges-charges.result in
    let surpluses = c.surpluses-surpluses.result in
    let credits = c.credits-credits.result in
    let all : length xs ≡ consumers = search rules in
    let dfa = c.adjusted-adjusted.ensures ∙ all_adjusted_lem a.dmp xs c.total_declared.ensures c.real_demands.ensures in
    let charged : c.sum-charged.result ≡ sum charges = search rules in
    let credited : c.sum-credited.result ≡ sum credits = search rules in
    figures_with a.p a.dmp xs c.adjusted-adjusted.result charges surpluses credits c.sum-charged.result c.sum-credited.result _
    dfa
    (c.charges-charges.ensures.each ∙ charges_by_dfa a.p a.dmp xs dfa)
    (c.surpluses-surpluses.ensures ∙ surpluses_by_consumer a.dmp c.adjusted-adjusted.result xs dfa all)
    charged
    c.credits-credits.ensures.each
    credited
    (ap (λ n. c.sum-charged.result - n) credited ∙ c.credits-credits.ensures.rest)
