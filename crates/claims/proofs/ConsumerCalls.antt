-- The calls of a consumer: an accepted one keeps what is kept, and the number of any one.
use mathlib.Core.Path.{◌≡◌, refl, sym, ap, ◌∙◌}
use mathlib.Core.Bool.{Bool, true, false}
use mathlib.Core.List.{List, [], ◌∷◌}
use Prim.Native.Nat.{ℕ, ◌≤◌}
use borrow.Author.Tests.{eq-eqb, ne_eqb}
use lib.Dec.{eqb}
use Rattle.quantities.specs.Limits.{greatest_power, consumers}
use Rattle.table.specs.Records.{parts_of}
use Rattle.table.specs.Records as name
use Rattle.table.specs.declared.calls.Call.TheVariants as call
use Rattle.table.specs.declared.consumers.ConsumerCall.{ConsumerCall}
use Rattle.table.specs.declared.consumers.ConsumerCall.TheVariants.{Declare, Meter, Mean}
use Rattle.table.proofs.Laws.{Numbered}
use Rattle.table.proofs.ConsumerLaws.{consumer_numbered, declare-ranged}
use Rattle.state.specs.declared.kept.Stage.TheVariants.{Gathering, Firm}
use Rattle.state.specs.declared.kept.Consumer.{Consumer}
use Rattle.state.specs.declared.kept.Book.{Book}
use Rattle.state.specs.State.{consumer_at, ranged, staged}
use Rattle.decision.specs.Consumers.{known, consumer_rest, declaring, metering, averaging, consumer_after, consumer_number, after_consumer}
use Rattle.book.specs.Lists.{Event}
use Rattle.claims.specs.History.{is_a, field, field_in, fixed_in, closed_in, begun_in, declared_in}
use Rattle.claims.specs.Figures.{demand_in, declaration_by, reading_by, consumer_in}
use Rattle.claims.specs.Refusals.{at_stage, declared_to, number_in}
use Rattle.claims.proofs.SameFigures.{consumer_is, consumer_another, about-last, about_another, about_as_before, fixed_as_before, demand_as_before}
use Rattle.claims.proofs.Parts.{the_timing, the_plants, the_contracts, the_grounds, the_money, Untouched}
use Rattle.claims.proofs.Stages.{gathering_is, firm_is, accepted_shows, behind}
use Rattle.claims.proofs.Kept.{FirmYear, Kept}
use Rattle.claims.proofs.Untouched.{timing_other, plants_other, contracts_other, firm_before, firm_other, money_before}
use Rattle.claims.proofs.Places.{consumer_at_lem, consumer_stored, known_at}

module _ (h : List Event) (b : Book) (k : Kept h b) (consumer : ℕ) where
  abbrev was : Consumer
  was = consumer_at b.consumers consumer

  abbrev event : ConsumerCall → List ℕ → Event
  event act readings = record { call = call.Consumer consumer act; readings = readings }

  -- its first field
  consumer_of_lem : (act : ConsumerCall) (readings : List ℕ) → field 0 (event act readings) ≡ consumer
  unfolding parts_of
  consumer_of_lem (Declare d a) readings = refl
  consumer_of_lem (Meter dreal) readings = refl
  consumer_of_lem (Mean mean) readings = refl

  -- a call of a consumer leaves timing, plants, contracts and money
  beside_consumers : (act : ConsumerCall) (readings : List ℕ) → Untouched the_timing (event act readings) × Untouched the_plants (event act readings) × Untouched the_contracts (event act readings) × Untouched the_money (event act readings)
  beside_consumers (Declare d a) readings = (refl, refl, refl, refl)
  beside_consumers (Meter dreal) readings = (refl, refl, refl, refl)
  beside_consumers (Mean mean) readings = (refl, refl, refl, refl)

  -- a call that replaces its consumer and changes no firm demand
  replaced : (act : ConsumerCall) (readings : List ℕ) → Numbered consumers consumer → closed_in h ≡ false → consumer_in (event act readings ∷ h) consumer ≡ consumer_after act was → ((w : ℕ) → demand_in (event act readings ∷ h) w ≡ demand_in h w) → ((w : ℕ) → field_in 1 (declared_in (event act readings ∷ h) w) ≤ greatest_power) → FirmYear (event act readings ∷ h) b.offers b.efficient b.limits → Kept (event act readings ∷ h) (after_consumer b consumer act)
  unfolding after_consumer
  replaced act readings numbered not_closed this same-demand small firm =
      let e = event act readings in
      let beside = beside_consumers act readings in
      record {
        timing = timing_other e h beside.0 k.timing;
        plants = plants_other e h beside.1 k.plants;
        consumers =
            record {
              consumers_kept =
                  consumer_stored h b k e consumer (consumer_after act was) numbered this
                  (λ w o. consumer_another e h w (ne_eqb (field 0 e) w (λ q. o (sym q ∙ consumer_of_lem act readings))) (same-demand w));
              declared_small = small;
            };
        contracts = contracts_other e h beside.2 k.contracts;
        firm = firm;
        money = money_before e h beside.3 not_closed;
      }

  -- what a call leaves of its consumer
  module _ (e : Event) (numbered : Numbered consumers consumer) where
    same_declaration : is_a name.Declare e ≡ false → is_a name.Fix e ≡ false → (consumer_in (e ∷ h) consumer).declaration ≡ was.declaration
    same_declaration d f =
        ap (λ df. declaration_by df (declared_in (e ∷ h) consumer)) (demand_as_before e h d f consumer)
        ∙ ap (declaration_by (demand_in h consumer)) (about_as_before e h name.Declare consumer d)
        ∙ ap (λ (x : Consumer). x.declaration) (sym (consumer_at_lem h b k consumer numbered))

    same_reading : is_a name.Meter e ≡ false → (consumer_in (e ∷ h) consumer).reading ≡ was.reading
    same_reading m =
        ap reading_by (about_as_before e h name.Meter consumer m) ∙ ap (λ (x : Consumer). x.reading) (sym (consumer_at_lem h b k consumer numbered))

    same_mean : is_a name.Mean e ≡ false → (consumer_in (e ∷ h) consumer).mean ≡ was.mean
    same_mean m =
        ap reading_by (about_as_before e h name.Mean consumer m) ∙ ap (λ (x : Consumer). x.mean) (sym (consumer_at_lem h b k consumer numbered))

  -- a declaration, before the fix
  module _ (d a : ℕ) (readings : List ℕ) (numbered : Numbered consumers consumer) (small : d ≤ greatest_power) (not-fixed : fixed_in h ≡ false) where
    abbrev declare : Event
    declare = event (Declare d a) readings

    -- before the fix every firm demand is 0
    no_demand : (c : ℕ) → (demand_in (declare ∷ h) c ≡ 0) × (demand_in h c ≡ 0)
    unfolding demand_in parts_of
    no_demand c = (simp (fixed_as_before declare h refl, not-fixed), simp not-fixed)

    small_declared : (w : ℕ) (t : Bool) → eqb consumer w ≡ t → field_in 1 (declared_in (declare ∷ h) w) ≤ greatest_power
    unfolding parts_of
    small_declared w true q =
        rw (about-last declare h name.Declare w refl q) small
    small_declared w false q = rw (about_another declare h name.Declare w q) (k.consumers.declared_small w)

    this_declared : consumer_in (declare ∷ h) consumer ≡ declaring was d a
    unfolding parts_of
    this_declared =
        consumer_is
        (ap (λ n. declaration_by n (declared_in (declare ∷ h) consumer)) (no_demand consumer).0
        ∙ ap (declaration_by 0) (about-last declare h name.Declare consumer refl (eq-eqb consumer consumer refl)))
        (same_reading declare numbered refl)
        (same_mean declare numbered refl)

  -- a reading, and a mean
  this_metered : (dreal : ℕ) (readings : List ℕ) → Numbered consumers consumer → consumer_in (event (Meter dreal) readings ∷ h) consumer ≡ metering was dreal
  unfolding parts_of
  this_metered dreal readings numbered =
      let e = event (Meter dreal) readings in
      consumer_is (same_declaration e numbered refl refl)
      (ap reading_by (about-last e h name.Meter consumer refl (eq-eqb consumer consumer refl)))
      (same_mean e numbered refl)

  this_averaged : (mean : ℕ) (readings : List ℕ) → Numbered consumers consumer → consumer_in (event (Mean mean) readings ∷ h) consumer ≡ averaging was mean
  unfolding parts_of
  this_averaged mean readings numbered =
      let e = event (Mean mean) readings in
      consumer_is (same_declaration e numbered refl refl) (same_reading e numbered refl)
      (ap reading_by (about-last e h name.Mean consumer refl (eq-eqb consumer consumer refl)))

  -- in stage firm, a call that tells of real demand
  in_firm_year : (act : ConsumerCall) (readings : List ℕ) → is_a name.Declare (event act readings) ≡ false → is_a name.Fix (event act readings) ≡ false → Untouched the_grounds (event act readings) → (Numbered consumers consumer → consumer_in (event act readings ∷ h) consumer ≡ consumer_after act was) → ranged (call.Consumer consumer act) [] (staged Firm b.stage (known was.declaration 0)) ≡ 0 → Kept (event act readings ∷ h) (after_consumer b consumer act)
  in_firm_year act readings d f grounds this z =
      let e = event act readings in
      let shown = accepted_shows (call.Consumer consumer act) [] Firm b.stage (known was.declaration 0) z in
      let firm = firm_is (closed_in h) (fixed_in h) (begun_in h) (sym k.timing.stage_kept ∙ shown.stage) in
      let numbered = consumer_numbered consumer act [] shown.range in
      replaced act readings numbered firm.0 (this numbered) (demand_as_before e h d f)
      (λ w. rw (about_as_before e h name.Declare w d) (k.consumers.declared_small w))
      (firm_other e h grounds k.firm)

  pub consumer_kept : (act : ConsumerCall) (readings : List ℕ) → consumer_number consumer act b.stage was ≡ 0 → Kept (event act readings ∷ h) (after_consumer b consumer act)
  unfolding consumer_number consumer_rest consumer_after
  consumer_kept (Declare d a) readings z =
      let act = Declare d a in
      let e = event act readings in
      let shown = accepted_shows (call.Consumer consumer act) [] Gathering b.stage 0 z in
      let gathering = gathering_is (closed_in h) (fixed_in h) (begun_in h) (sym k.timing.stage_kept ∙ shown.stage) in
      let ranges = declare-ranged consumer d a [] shown.range in
      let none = no_demand d a readings ranges.consumer ranges.d gathering.1 in
      replaced act readings ranges.consumer gathering.0 (this_declared d a readings ranges.consumer ranges.d gathering.1) (λ w. (none w).0 ∙ sym (none w).1)
      (λ w. small_declared d a readings ranges.consumer ranges.d gathering.1 w (eqb consumer w) refl)
      (firm_before e h refl gathering.1 k.firm)
  consumer_kept (Meter dreal) readings z =
      in_firm_year (Meter dreal) readings refl refl refl (this_metered dreal readings) z
  consumer_kept (Mean mean) readings z = in_firm_year (Mean mean) readings refl refl refl (this_averaged mean readings) z

  firm_exact : (act : ConsumerCall) → ranged (call.Consumer consumer act) [] (staged Firm b.stage (known was.declaration 0)) ≡ ranged (call.Consumer consumer act) [] (at_stage 2 h (declared_to h consumer 0))
  firm_exact act =
      behind h b.stage k.timing.stage_kept (call.Consumer consumer act) [] Firm (known was.declaration 0) (declared_to h consumer 0)
      (λ z s. known_at h b k consumer (consumer_numbered consumer act [] z) refl)

  pub consumer_exact : (act : ConsumerCall) (readings : List ℕ) → consumer_number consumer act b.stage was ≡ number_in h (call.Consumer consumer act) readings
  unfolding consumer_number consumer_rest number_in
  consumer_exact (Declare d a) readings =
      behind h b.stage k.timing.stage_kept (call.Consumer consumer (Declare d a)) [] Gathering 0 0 (λ z s. refl)
  consumer_exact (Meter dreal) readings = firm_exact (Meter dreal)
  consumer_exact (Mean mean) readings = firm_exact (Mean mean)
