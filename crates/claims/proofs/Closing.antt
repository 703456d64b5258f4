-- The close: an accepted one keeps what is kept, and the number of any one.
use Rattle.std.specs.Prelude.{Option, None, Some}
use mathlib.Core.Path.{◌≡◌, refl, sym, ap, ◌∙◌}
use mathlib.Core.Bool.{true, false}
use mathlib.Core.List.{List, [], ◌∷◌, map}
use mathlib.Core.Logic.{◌⊎◌, inl, inr}
use Prim.Native.Nat.{ℕ, zero, suc, ◌≤◌, ◌<◌, zero-le}
use native.Mathlib.Omega.{arith}
use lib.ListN.{length, get_or, length-map}
use Rattle.basis.specs.Choice.{pick}
use Rattle.basis.specs.Sums.{sum, all_at_most}
use Rattle.basis.proofs.Sums.{at_most_all}
use Rattle.basis.proofs.Tables.{length-tab, get_or-tab}
use Rattle.share.specs.Division.{division_number}
use Rattle.quantities.specs.Limits.{greatest_total, greatest_weight, greatest_power, consumers}
use Rattle.share.proofs.Accepted.{enough}
use Rattle.table.specs.Records.{parts_of}
use Rattle.table.specs.declared.calls.Call.TheVariants as call
use Rattle.table.specs.Records as name
use Rattle.state.specs.declared.kept.Stage.TheVariants.{Firm}
use Rattle.state.specs.declared.kept.Consumer.{Consumer}
use Rattle.state.specs.declared.kept.Book.{Book}
use Rattle.fix.specs.Fix.{weights_of}
use Rattle.close.specs.Close.{reals_of, adjusted_of, adjusted_in, surplus_by, surpluses_in, charges_in, charged_rest, credits_of, undistributed_of, close_rest, close_number, close_number_by, figures_of, closed}
use Rattle.close.proofs.Bounds.{AcceptedClose}
use Rattle.close.proofs.CloseLaws.{accepted-close}
use Rattle.book.specs.Lists.{Event}
use Rattle.claims.specs.History.{is_a, last_that, begun_in, fixed_in, closed_in, dmp_in, price_in, declared_in}
use Rattle.claims.specs.Figures.{demand_in, declaration_by, consumer_in, consumers_in, adjusted_demands_in, positive_adjustments_in, all_charges_in, all_credits_in, undistributed_in}
use Rattle.claims.specs.Refusals.{all_heard_in, charges_at, number_in}
use Rattle.claims.proofs.SameFigures.{last_this, hours_as_before, fixed_as_before, dmp_as_before}
use Rattle.claims.proofs.Stages.{firm_is, Passed, accepted_shows, behind}
use Rattle.claims.proofs.Kept.{Kept}
use Rattle.claims.proofs.Untouched.{same_consumers, plants_other, consumers-other, contracts_other, firm_other}
use Rattle.claims.proofs.Demands.{demand_at_most}
use Rattle.claims.proofs.RealDemands.{all_heard_lem}

module _ {A : Type 0} where
  -- a list mapped, at a place; past the end of both
  mapped_at_most : (g : A → ℕ) (l : List A) (m : ℕ) → ((i : ℕ) → i < length l → (d : A) → g (get_or l i d) ≤ m) → (i : ℕ) → get_or (map g l) i 0 ≤ m
  mapped_at_most g [] m h i = zero-le
  mapped_at_most g (x ∷ l) m h zero = h 0 (omega arith) x
  mapped_at_most g (x ∷ l) m h (suc i) = mapped_at_most g l m (λ j p d. h (suc j) (omega arith) d) i

surplus_at_most : (dfa df m : ℕ) (l : Option Event) → df ≤ m → surplus_by dfa (declaration_by df l) ≤ m
surplus_at_most dfa df m None h = zero-le
surplus_at_most dfa df m (Some e) h = omega arith

module _ (h : List Event) (b : Book) (k : Kept h b) (p : ℕ) (readings : List ℕ) (z : close_number b p ≡ 0) where
  abbrev close : Event
  close = record { call = call.Close p; readings = readings }

  shown : Passed (call.Close p) [] Firm b.stage (close_rest p b.dmp (sum (weights_of b.consumers)) (reals_of b.consumers) b.consumers)
  unfolding close_number_by
  shown = accepted_shows (call.Close p) [] Firm b.stage (close_rest p b.dmp (sum (weights_of b.consumers)) (reals_of b.consumers) b.consumers) z

  was_firm : (closed_in h ≡ false) × (fixed_in h ≡ true)
  was_firm = firm_is (closed_in h) (fixed_in h) (begun_in h) (sym k.timing.stage_kept ∙ shown.stage)

  this : last_that (is_a name.Close) (close ∷ h) ≡ Some close
  unfolding parts_of
  this = last_this close h (is_a name.Close) refl

  now_price : price_in (close ∷ h) ≡ p
  unfolding parts_of
  now_price = rw this refl

  dmp_was : b.dmp ≡ dmp_in (close ∷ h)
  dmp_was = k.timing.dmp_kept ∙ sym (dmp_as_before close h refl)

  consumers_were : b.consumers ≡ consumers_in (close ∷ h)
  consumers_were = k.consumers.consumers_kept ∙ sym (same_consumers close h refl)

  adjusted_now : adjusted_in b.dmp b.consumers ≡ adjusted_demands_in (close ∷ h)
  unfolding adjusted_demands_in
  adjusted_now = ap (λ d. adjusted_in d b.consumers) dmp_was ∙ ap (adjusted_in (dmp_in (close ∷ h))) consumers_were

  surpluses_now : surpluses_in b.dmp b.consumers ≡ positive_adjustments_in (close ∷ h)
  unfolding positive_adjustments_in
  surpluses_now = ap (λ d. surpluses_in d b.consumers) dmp_was ∙ ap (surpluses_in (dmp_in (close ∷ h))) consumers_were

  charges_now : charges_in p b.dmp b.consumers ≡ all_charges_in (close ∷ h)
  unfolding all_charges_in
  charges_now =
      ap (λ d. charges_in p d b.consumers) dmp_was
      ∙ ap (charges_in p (dmp_in (close ∷ h))) consumers_were
      ∙ ap (λ r. charges_in r (dmp_in (close ∷ h)) (consumers_in (close ∷ h))) (sym now_price)

  credits_now : credits_of (sum (charges_in p b.dmp b.consumers)) (surpluses_in b.dmp b.consumers) ≡ all_credits_in (close ∷ h)
  unfolding all_credits_in
  credits_now =
      ap (λ c. credits_of (sum c) (surpluses_in b.dmp b.consumers)) charges_now
      ∙ ap (credits_of (sum (all_charges_in (close ∷ h)))) surpluses_now

  undistributed_now : undistributed_of (sum (charges_in p b.dmp b.consumers)) (surpluses_in b.dmp b.consumers) ≡ undistributed_in (close ∷ h)
  unfolding undistributed_in
  undistributed_now =
      ap (λ c. undistributed_of (sum c) (surpluses_in b.dmp b.consumers)) charges_now
      ∙ ap (undistributed_of (sum (all_charges_in (close ∷ h)))) surpluses_now

  -- the price is in range, and so are every adjusted demand and the charges
  shown_close : AcceptedClose b.dmp b.consumers p
  shown_close = accepted-close b.stage b.dmp b.consumers p z

  count : length b.consumers ≡ consumers
  unfolding consumers_in
  count = ap length k.consumers.consumers_kept ∙ length-tab (λ i. consumer_in h (suc i)) consumers

  all_small : sum (charges_in p b.dmp b.consumers) ≤ greatest_total
  all_small = shown_close.charged

  demand_small : (i : ℕ) → i < length b.consumers → (d : Consumer) → (dfa : ℕ) → surplus_by dfa (get_or b.consumers i d).declaration ≤ greatest_weight
  unfolding consumers_in
  demand_small i q d dfa =
      let e : get_or b.consumers i d ≡ consumer_in h (suc i) =
      ap (λ xs. get_or xs i d) k.consumers.consumers_kept ∙ get_or-tab (λ j. consumer_in h (suc j)) consumers i d (omega (arith, count)) in
      let m : demand_in h (suc i) ≤ dmp_in h = demand_at_most h was_firm.1 (k.firm.dmp_shared was_firm.1) i in
      rw e (surplus_at_most dfa (demand_in h (suc i)) greatest_weight (declared_in h (suc i)) (omega (arith, m, k.firm.dmp_small)))

  surplus_small : all_at_most greatest_weight (surpluses_in b.dmp b.consumers) ≡ true
  unfolding surpluses_in
  surplus_small =
      at_most_all greatest_weight (surpluses_in b.dmp b.consumers)
      (λ j r. mapped_at_most (λ (x : Consumer). surplus_by (adjusted_of b.dmp (sum (weights_of b.consumers)) x) x.declaration) b.consumers greatest_weight (λ i q d. demand_small i q d (adjusted_of b.dmp (sum (weights_of b.consumers)) (get_or b.consumers i d))) j)

  length_surpluses : length (surpluses_in b.dmp b.consumers) ≡ consumers
  unfolding surpluses_in
  length_surpluses = length-map b.consumers (λ (x : Consumer). surplus_by (adjusted_of b.dmp (sum (weights_of b.consumers)) x) x.declaration) ∙ count

  -- the division of the charges is in range, unless there is nothing to divide by
  divides : (s : ℕ) → sum (surpluses_in b.dmp b.consumers) ≡ s → (division_number (sum (charges_in p b.dmp b.consumers)) (surpluses_in b.dmp b.consumers) consumers ≡ 0) ⊎ (sum (surpluses_in b.dmp b.consumers) ≡ 0)
  divides zero q = inr q
  divides (suc s) q =
      inl
      (enough (sum (charges_in p b.dmp b.consumers)) (surpluses_in b.dmp b.consumers) consumers consumers
      (record {
        total = all_small;
        some = omega (arith, length_surpluses);
        most = omega (arith, length_surpluses);
        weights = surplus_small;
        positive = omega (arith, q);
        fits = omega (arith, length_surpluses);
      })
      (omega (arith, length_surpluses)))

  pub close_kept : Kept (close ∷ h) (closed b p)
  unfolding closed figures_of parts_of
  close_kept =
      record {
        timing =
            record {
              stage_kept = sym (rw this refl);
              hours_kept = k.timing.hours_kept ∙ sym (hours_as_before close h refl);
              dmp_kept = dmp_was;
            };
        plants = plants_other close h refl k.plants;
        consumers = consumers-other close h refl k.consumers;
        contracts = contracts_other close h refl k.contracts;
        firm = firm_other close h refl k.firm;
        money =
            record {
              adjusted_kept = λ q. adjusted_now;
              charges_kept = λ q. charges_now;
              credits_kept = λ q. credits_now;
              charged_kept = λ q. refl;
              credited_kept = λ q. refl;
              undistributed_kept = λ q. undistributed_now;
              fixed_before = λ q. fixed_as_before close h refl ∙ was_firm.1;
              heard = λ q. rw (← consumers_were) shown_close.heard;
              adjusted_small = λ q. rw (← adjusted_now) shown_close.within;
              charges_small = λ q. rw (← charges_now) all_small;
              charges_divided = λ q. rw (← charges_now, ← surpluses_now) (divides (sum (surpluses_in b.dmp b.consumers)) refl);
            };
      }

-- the number of a close
pub close_exact : (h : List Event) (b : Book) (k : Kept h b) (p : ℕ) (readings : List ℕ) → close_number b p ≡ number_in h (call.Close p) readings
unfolding close_number_by number_in adjusted_demands_in adjusted_in charges_in
close_exact h b k p readings =
    let left : ℕ → List Consumer → ℕ = λ d xs. close_rest p d (sum (weights_of xs)) (reals_of xs) xs in
    let within : ℕ = pick (all_at_most greatest_power (adjusted_demands_in h)) (charged_rest (charges_at p h)) 14 in
    behind h b.stage k.timing.stage_kept (call.Close p) [] Firm (left b.dmp b.consumers) (pick (all_heard_in h) within 16)
    (λ z s. ap (λ d. left d b.consumers) k.timing.dmp_kept ∙ ap (left (dmp_in h)) k.consumers.consumers_kept ∙ ap (λ t. pick t within 16) (all_heard_lem h))
