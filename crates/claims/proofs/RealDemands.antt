-- Dreal in a history: who was heard, and the DFA of a declared consumer.
use Rattle.std.specs.Prelude.{Option, None, Some, is_some}
use Rattle.std.specs.List.{list_all, range_with_len}
use Rattle.std.specs.Option.{option_or}
use Rattle.std.proofs.lemmas.Bool.{and_parts}
use Rattle.std.proofs.lemmas.List.Folds.{list_all-map}
use mathlib.Core.Path.{◌≡◌, refl, sym, ap, ◌∙◌}
use mathlib.Core.Bool.{Bool, true, false≢true}
use mathlib.Core.List.{List, [], ◌∷◌, map}
use Prim.Native.Nat.{ℕ, zero, suc, ◌-◌, ◌*◌, ◌/◌}
use lib.ListN.{get_or, get_or-map}
use Rattle.basis.specs.Choice.{pick}
use Rattle.basis.specs.Sums.{sum}
use Rattle.basis.specs.Tables.{tab_from}
use Rattle.quantities.specs.Limits.{consumers}
use Rattle.table.proofs.Laws.{Numbered}
use Rattle.state.specs.State.{fresh_consumer}
use Rattle.fix.specs.Fix.{weights_of}
use Rattle.close.specs.Close.{asked_of, real_demand, reals_of, all_heard, adjusted_by, adjusted_of}
use Rattle.close.proofs.CloseLaws.{adjusted_at}
use Rattle.book.specs.Lists.{Event}
use Rattle.claims.specs.History.{field_in, happened, dmp_in, declared_in, metered_in, mean_in, real_in}
use Rattle.claims.specs.Figures.{total_declared_in, demand_in, declaration_by, reading_by, consumer_in, consumers_in, adjusted_demands_in}
use Rattle.claims.specs.Refusals.{heard_in, all_heard_in}
use Rattle.claims.proofs.Places.{numbered_at}
use Rattle.claims.proofs.Demands.{weights_in}

-- the mean where there is one, else the reading
real_in_lem : (mean reading : Option Event) → option_or (reading_by mean) (reading_by reading) ≡ reading_by (option_or mean reading)
real_in_lem None reading = refl
real_in_lem (Some e) reading = refl

-- who declared is heard by it
heard_by : (df : ℕ) (declared real : Option Event) → is_some (asked_of (declaration_by df declared) (reading_by real)) ≡ pick (happened declared) (happened real) true
heard_by df None real = refl
heard_by df (Some e) None = refl
heard_by df (Some e) (Some r) = refl

-- .. and has its DFA by it
adjusted_by_lem : (dmp total df : ℕ) (declared real : Option Event) → happened declared ≡ true → happened real ≡ true → adjusted_by dmp total (asked_of (declaration_by df declared) (reading_by real)) ≡ field_in 1 real * dmp / total
adjusted_by_lem dmp total df None real q r = absurd (false≢true q)
adjusted_by_lem dmp total df (Some e) None q r = absurd (false≢true r)
adjusted_by_lem dmp total df (Some e) (Some f) q r = refl

-- where all are heard, so is each; past the end nobody is asked
each_heard : (reals : List (Option ℕ)) → list_all is_some reals ≡ true → (i : ℕ) → is_some (get_or reals i (Some 0)) ≡ true
each_heard [] a i = refl
each_heard (real ∷ reals) a zero = (and_parts (is_some real) (list_all is_some reals) a).0
each_heard (real ∷ reals) a (suc i) = each_heard reals (and_parts (is_some real) (list_all is_some reals) a).1 i

module _ (h : List Event) where
  real_demand_lem : (c : ℕ) → real_demand (consumer_in h c) ≡ asked_of (declaration_by (demand_in h c) (declared_in h c)) (reading_by (real_in h c))
  real_demand_lem c = ap (asked_of (declaration_by (demand_in h c) (declared_in h c))) (real_in_lem (mean_in h c) (metered_in h c))

  heard_in_lem : (c : ℕ) → is_some (real_demand (consumer_in h c)) ≡ heard_in h c
  heard_in_lem c = ap is_some (real_demand_lem c) ∙ heard_by (demand_in h c) (declared_in h c) (real_in h c)

  -- all are heard if the accepted calls tell of all
  pub all_heard_lem : all_heard (reals_of (consumers_in h)) ≡ all_heard_in h
  unfolding all_heard reals_of consumers_in tab_from
  all_heard_lem =
      list_all-map is_some real_demand (map (λ i. consumer_in h (suc i)) (range_with_len 0 consumers))
      ∙ list_all-map (λ x. is_some (real_demand x)) (λ i. consumer_in h (suc i)) (range_with_len 0 consumers)
      ∙ ap (λ (p : ℕ → Bool). list_all p (range_with_len 0 consumers)) (λ j i. heard_in_lem (suc i) j)

  -- where all are heard, a declared consumer has a Dreal
  pub heard_at : all_heard (reals_of (consumers_in h)) ≡ true → (c : ℕ) → Numbered consumers c → happened (declared_in h c) ≡ true → happened (real_in h c) ≡ true
  unfolding all_heard reals_of consumers_in
  heard_at a c nc q =
      let at : get_or (reals_of (consumers_in h)) (c - 1) (Some 0) ≡ real_demand (consumer_in h c) =
      get_or-map real_demand (consumers_in h) (c - 1) fresh_consumer
      ∙ ap real_demand (numbered_at (consumer_in h) consumers c nc fresh_consumer) in
      ap (λ t. pick t (happened (real_in h c)) true) (sym q)
      ∙ sym (heard_in_lem c)
      ∙ ap is_some (sym at)
      ∙ each_heard (reals_of (consumers_in h)) a (c - 1)

  -- and its DFA is by that Dreal
  pub adjusted_by_real : (c : ℕ) → Numbered consumers c → happened (declared_in h c) ≡ true → happened (real_in h c) ≡ true → get_or (adjusted_demands_in h) (c - 1) 0 ≡ field_in 1 (real_in h c) * dmp_in h / total_declared_in h
  unfolding adjusted_demands_in consumers_in
  adjusted_by_real c nc q r =
      let total : ℕ = sum (weights_of (consumers_in h)) in
      adjusted_at (dmp_in h) (consumers_in h) (c - 1)
      ∙ ap (adjusted_of (dmp_in h) total) (numbered_at (consumer_in h) consumers c nc fresh_consumer)
      ∙ ap (adjusted_by (dmp_in h) total) (real_demand_lem c)
      ∙ adjusted_by_lem (dmp_in h) total (demand_in h c) (declared_in h c) (real_in h c) q r
      ∙ ap (λ ws. field_in 1 (real_in h c) * dmp_in h / sum ws) (weights_in h)
