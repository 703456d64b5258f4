-- The fix: an accepted one keeps what is kept, and the number of any one.
use Rattle.std.specs.Prelude.{Option, None, Some}
use mathlib.Core.Path.{◌≡◌, refl, sym, ap, ◌∙◌}
use mathlib.Core.Bool.{true, false, false≢true}
use mathlib.Core.List.{List, [], ◌∷◌}
use Prim.Native.Nat.{ℕ, suc, ◌+◌, ◌-◌, ◌*◌, ◌≤◌, ◌<◌, zero-le}
use native.Mathlib.Nat.{mul-zero}
use native.Mathlib.Omega.{arith}
use borrow.Author.Tests.{le-ltb, ne_eqb}
use lib.Dec.{eqb}
use lib.ListN.{length, get_or, take, drop}
use lib.Seq.{get_or-drop}
use Rattle.basis.specs.Choice.{pick}
use Rattle.basis.specs.Sums.{sum, all_at_most}
use Rattle.basis.proofs.Sums.{sum_at_most, at_most_all}
use Rattle.basis.proofs.Tables.{get_or-tab, tab_same}
use Rattle.share.specs.Division.{division_number, shares}
use Rattle.quantities.specs.Limits.{greatest_total, greatest_weight, most_weights, greatest_power, consumers}
use Rattle.table.specs.Ranges.{call_number}
use Rattle.table.proofs.Laws.{Numbered}
use Rattle.table.proofs.Table.{fix-ranged}
use Rattle.table.specs.Records.{parts_of}
use Rattle.table.specs.declared.calls.Call.TheVariants as call
use Rattle.table.specs.Records as name
use Rattle.state.specs.declared.kept.Stage.TheVariants.{Gathering}
use Rattle.state.specs.declared.kept.Book.{Book}
use Rattle.state.specs.State.{fresh_consumer, row_of}
use Rattle.fix.specs.Fix.{offers_of, efficient_in, limits_of, weights_of, demand_by, with_demand, with_demands, fix_rest, fix_number_by, fix_number, fixed}
use Rattle.book.specs.Lists.{Event}
use Rattle.claims.specs.History.{is_a, last_that, begun_in, fixed_in, closed_in, hours_in, dmp_in, declared_in}
use Rattle.claims.specs.Figures.{units_in, offers_in, efficient_offers_in, declarations_in, total_declared_in, demand_in, declaration_by, reading_by, consumer_in, consumers_in}
use Rattle.claims.specs.Refusals.{number_in}
use Rattle.claims.proofs.SameFigures.{consumer_is, last_this, about_as_before, hours_as_before, closed_as_before, declarations_as_before, sum_as_before}
use Rattle.claims.proofs.Stages.{gathering_is, Passed, accepted_shows, behind}
use Rattle.claims.proofs.Kept.{Kept}
use Rattle.claims.proofs.Untouched.{same_units, plants_other, money_before}
use Rattle.claims.proofs.Demands.{weights_in, declaration_at, length_declarations}

-- a row of balances that are all 0
pub empty_row : (balances : List ℕ) (p : ℕ) → ((i : ℕ) → get_or balances i 0 ≡ 0) → sum (row_of balances p) ≡ 0
empty_row balances p z =
    omega (arith, sum_at_most 0 (row_of balances p) (λ j. at j (drop ((p - 1) * consumers) balances) consumers (λ i. omega (arith, get_or-drop ((p - 1) * consumers) balances i 0, z ((p - 1) * consumers + i)))), mul-zero (length (row_of balances p)))
  where
    at : (j : ℕ) (l : List ℕ) (n : ℕ) → ((i : ℕ) → get_or l i 0 ≤ 0) → get_or (take n l) j 0 ≤ 0
    at j l ℕ.zero q = zero-le
    at j [] (suc n) q = zero-le
    at ℕ.zero (x ∷ l) (suc n) q = q 0
    at (suc j) (x ∷ l) (suc n) q = at j l n (λ i. q (suc i))

module _ (h : List Event) (b : Book) (k : Kept h b) (dmp : ℕ) (readings : List ℕ) (z : fix_number b dmp ≡ 0) where
  abbrev fix : Event
  fix = record { call = call.Fix dmp; readings = readings }

  shown : Passed (call.Fix dmp) [] Gathering b.stage (fix_rest dmp b.consumers)
  unfolding fix_number_by
  shown = accepted_shows (call.Fix dmp) [] Gathering b.stage (fix_rest dmp b.consumers) z

  dmp_range : Numbered greatest_power dmp
  dmp_range = fix-ranged dmp [] shown.range

  was_gathering : (closed_in h ≡ false) × (fixed_in h ≡ false) × (begun_in h ≡ true)
  was_gathering = gathering_is (closed_in h) (fixed_in h) (begun_in h) (sym k.timing.stage_kept ∙ shown.stage)

  this : last_that (is_a name.Fix) (fix ∷ h) ≡ Some fix
  unfolding parts_of
  this = last_this fix h (is_a name.Fix) refl

  now_fixed : fixed_in (fix ∷ h) ≡ true
  now_fixed = rw this refl

  now_dmp : dmp_in (fix ∷ h) ≡ dmp
  unfolding parts_of
  now_dmp = rw this refl

  units_were : b.units ≡ units_in (fix ∷ h)
  units_were = k.plants.units_kept ∙ sym (same_units fix h refl)

  same_declarations : declarations_in (fix ∷ h) ≡ declarations_in h
  unfolding parts_of
  same_declarations = declarations_as_before fix h refl

  weights : weights_of b.consumers ≡ declarations_in (fix ∷ h)
  weights = ap weights_of k.consumers.consumers_kept ∙ weights_in h ∙ sym same_declarations

  offers_now : offers_of b.hours b.units ≡ offers_in (fix ∷ h)
  unfolding offers_in parts_of
  offers_now =
      ap (λ t. offers_of t b.units) (k.timing.hours_kept ∙ sym (hours_as_before fix h refl))
      ∙ ap (offers_of (hours_in (fix ∷ h))) units_were

  efficient_now : efficient_in b.units (offers_of b.hours b.units) ≡ efficient_offers_in (fix ∷ h)
  unfolding efficient_offers_in
  efficient_now =
      ap (λ us. efficient_in us (offers_of b.hours b.units)) units_were
      ∙ ap (efficient_in (units_in (fix ∷ h))) offers_now

  limits_now : limits_of b.units (efficient_in b.units (offers_of b.hours b.units)) ≡ limits_of (units_in (fix ∷ h)) (efficient_offers_in (fix ∷ h))
  limits_now =
      ap (λ us. limits_of us (efficient_in b.units (offers_of b.hours b.units))) units_were
      ∙ ap (limits_of (units_in (fix ∷ h))) efficient_now

  -- the firm demand of a consumer is its share
  demand_now : (i : ℕ) → get_or (shares dmp (weights_of b.consumers)) i 0 ≡ demand_in (fix ∷ h) (suc i)
  unfolding demand_in
  demand_now i =
      let e : suc i - 1 ≡ i = omega arith in
      ap (λ ws. get_or (shares dmp ws) i 0) weights
      ∙ ap (λ t. get_or (shares t (declarations_in (fix ∷ h))) i 0) (sym now_dmp)
      ∙ sym (rw (now_fixed, e) refl)

  given : (df other : ℕ) (l : Option Event) → demand_by df (declaration_by other l) ≡ declaration_by df l
  given df other None = refl
  given df other (Some e) = refl

  consumer_now : (i : ℕ) → i < consumers → with_demand (get_or (shares dmp (weights_of b.consumers)) i 0) (get_or b.consumers i fresh_consumer) ≡ consumer_in (fix ∷ h) (suc i)
  unfolding consumers_in parts_of
  consumer_now i p =
      ap (λ xs. with_demand (get_or (shares dmp (weights_of b.consumers)) i 0) (get_or xs i fresh_consumer)) k.consumers.consumers_kept
      ∙ ap (with_demand (get_or (shares dmp (weights_of b.consumers)) i 0)) (get_or-tab (λ j. consumer_in h (suc j)) consumers i fresh_consumer p)
      ∙ consumer_is
      (given (get_or (shares dmp (weights_of b.consumers)) i 0) (demand_in h (suc i)) (declared_in h (suc i))
      ∙ ap (λ df. declaration_by df (declared_in h (suc i))) (demand_now i)
      ∙ ap (declaration_by (demand_in (fix ∷ h) (suc i))) (sym (about_as_before fix h name.Declare (suc i) refl)))
      (ap reading_by (sym (about_as_before fix h name.Meter (suc i) refl)))
      (ap reading_by (sym (about_as_before fix h name.Mean (suc i) refl)))

  pub fix_kept : Kept (fix ∷ h) (fixed b dmp)
  unfolding fixed with_demands consumers_in parts_of
  fix_kept =
      record {
        timing =
            record {
              stage_kept = sym (rw (closed_as_before fix h refl, was_gathering.0, now_fixed) refl);
              hours_kept = k.timing.hours_kept ∙ sym (hours_as_before fix h refl);
              dmp_kept = sym now_dmp;
            };
        plants = plants_other fix h refl k.plants;
        consumers =
            record {
              consumers_kept =
                  tab_same (λ i. with_demand (get_or (shares dmp (weights_of b.consumers)) i 0) (get_or b.consumers i fresh_consumer)) (λ i. consumer_in (fix ∷ h) (suc i)) consumers consumer_now;
              declared_small = λ w. rw (about_as_before fix h name.Declare w refl) (k.consumers.declared_small w);
            };
        contracts =
            record {
              length_kept = k.contracts.length_kept;
              balance_kept =
                  λ p c np nc.
                  ap (λ r. get_or b.balances (Rattle.state.specs.State.cell_of p c) 0 + r) (sum_as_before fix h name.Release p c refl)
                  ∙ k.contracts.balance_kept p c np nc
                  ∙ sym (sum_as_before fix h name.Commit p c refl);
              nothing_yet = λ q. absurd (false≢true (sym q ∙ now_fixed));
              total_kept = λ q p np. rw (empty_row b.balances p (k.contracts.nothing_yet was_gathering.1)) zero-le;
            };
        firm =
            record {
              offers_kept = λ q. offers_now;
              efficient_kept = λ q. efficient_now;
              limits_kept = λ q. limits_now;
              dmp_shared = λ q. rw (now_dmp, ← weights) shown.rest;
              dmp_small = rw now_dmp dmp_range.most;
            };
        money = money_before fix h refl was_gathering.0;
      }

-- the number of a fix
module _ (h : List Event) (b : Book) (k : Kept h b) where
  fix_in : (dmp : ℕ) → call_number (call.Fix dmp) [] ≡ 0 → fix_rest dmp b.consumers ≡ pick (eqb (total_declared_in h) 0) 13 0
  unfolding division_number parts_of
  fix_in dmp z =
      let w : weights_of b.consumers ≡ declarations_in h = ap weights_of k.consumers.consumers_kept ∙ weights_in h in
      let n = length_declarations h in
      let top : dmp ≤ greatest_power = (fix-ranged dmp [] z).most in
      let small : all_at_most greatest_weight (declarations_in h) ≡ true =
      at_most_all greatest_weight (declarations_in h) (λ i q. omega (arith, declaration_at h i (omega arith), k.consumers.declared_small (suc i))) in
      ap (λ ws. division_number dmp ws consumers) w
      ∙ simp (
        le-ltb greatest_total dmp (omega arith),
        ne_eqb (length (declarations_in h)) 0 (λ q. absurd (omega arith)),
        le-ltb most_weights (length (declarations_in h)) (omega arith),
        small,
      )

  pub fix_exact : (dmp : ℕ) (readings : List ℕ) → fix_number b dmp ≡ number_in h (call.Fix dmp) readings
  unfolding fix_number_by number_in
  fix_exact dmp readings =
      behind h b.stage k.timing.stage_kept (call.Fix dmp) [] Gathering (fix_rest dmp b.consumers) (pick (eqb (total_declared_in h) 0) 13 0) (λ z s. fix_in dmp z)
