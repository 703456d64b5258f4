-- The parts of what is kept that a call does not touch.
use mathlib.Core.Path.{◌≡◌, refl, sym, ap, ◌∙◌}
use mathlib.Core.Bool.{true, false, false≢true}
use mathlib.Core.List.{List, ◌∷◌}
use Prim.Native.Nat.{ℕ, ◌+◌}
use lib.ListN.{get_or}
use Rattle.power.specs.declared.component.Hours.{Hours}
use Rattle.table.specs.Records as name
use Rattle.state.specs.declared.kept.Stage.{Stage}
use Rattle.state.specs.declared.kept.Unit.{Unit}
use Rattle.state.specs.declared.kept.Consumer.{Consumer}
use Rattle.state.specs.declared.kept.CloseFigures.{CloseFigures}
use Rattle.state.specs.State.{cell_of}
use Rattle.book.specs.Lists.{Event}
use Rattle.claims.specs.History.{is_a, fixed_in, closed_in}
use Rattle.claims.specs.Figures.{units_in, offers_in, efficient_offers_in, consumers_in}
use Rattle.claims.proofs.Parts.{the_timing, the_plants, the_consumers, the_contracts, the_firm_year, the_grounds, the_money, Untouched, untouched_by}
use Rattle.claims.proofs.Kept.{Timing, Plants, ConsumersKept, Contracts, FirmYear, Money}
use Rattle.claims.proofs.SameFigures.{about_as_before, sum_as_before, hours_as_before, begun_as_before, fixed_as_before, closed_as_before, dmp_as_before, entry_as_before, component_as_before, units_as_before, declarations_as_before, consumers_as_before}

module _ (e : Event) (h : List Event) where
  pub timing_other : {s : Stage} {hours : Hours} {dmp : ℕ} → Untouched the_timing e → Timing h s hours dmp → Timing (e ∷ h) s hours dmp
  timing_other u k =
      let no = untouched_by the_timing e u in
      let y = no name.Year refl in
      let f = no name.Fix refl in
      record {
        stage_kept =
            k.stage_kept ∙ sym (rw (closed_as_before e h (no name.Close refl), fixed_as_before e h f, begun_as_before e h y) refl);
        hours_kept = k.hours_kept ∙ sym (hours_as_before e h y);
        dmp_kept = k.dmp_kept ∙ sym (dmp_as_before e h f);
      }

  pub same_units : Untouched the_plants e → units_in (e ∷ h) ≡ units_in h
  same_units u =
      let no = untouched_by the_plants e u in units_as_before e h (no name.Unit refl) (no name.Test refl) (no name.Availability refl)

  pub plants_other : {us : List Unit} → Untouched the_plants e → Plants h us → Plants (e ∷ h) us
  plants_other u k =
      let no = untouched_by the_plants e u in
      let a = no name.Unit refl in
      let same = component_as_before e h (no name.Test refl) (no name.Availability refl) in
      record {
        units_kept = k.units_kept ∙ sym (same_units u);
        power_capped = λ w j. rw (entry_as_before e h a w, same w j) (k.power_capped w j);
        power_small = λ w j. rw (same w j) (k.power_small w j);
        untested = λ w j q. same w j ∙ k.untested w j (sym (about_as_before e h name.Unit w a) ∙ q);
      }

  pub same_consumers : Untouched the_consumers e → consumers_in (e ∷ h) ≡ consumers_in h
  same_consumers u =
      let no = untouched_by the_consumers e u in consumers_as_before e h (no name.Declare refl) (no name.Fix refl) (no name.Meter refl) (no name.Mean refl)

  pub consumers-other : {xs : List Consumer} → Untouched the_consumers e → ConsumersKept h xs → ConsumersKept (e ∷ h) xs
  consumers-other u k =
      record {
        consumers_kept = k.consumers_kept ∙ sym (same_consumers u);
        declared_small =
            λ w. rw (about_as_before e h name.Declare w (untouched_by the_consumers e u name.Declare refl)) (k.declared_small w);
      }

  pub contracts_other : {balances limits : List ℕ} → Untouched the_contracts e → Contracts h balances limits → Contracts (e ∷ h) balances limits
  contracts_other {balances} u k =
      let no = untouched_by the_contracts e u in
      let back = sym (fixed_as_before e h (no name.Fix refl)) in
      record {
        length_kept = k.length_kept;
        balance_kept =
            λ p c np nc.
            ap (λ r. get_or balances (cell_of p c) 0 + r) (sum_as_before e h name.Release p c (no name.Release refl))
            ∙ k.balance_kept p c np nc
            ∙ sym (sum_as_before e h name.Commit p c (no name.Commit refl));
        nothing_yet = λ q. k.nothing_yet (back ∙ q);
        total_kept = λ q. k.total_kept (back ∙ q);
      }

  -- before the fix nothing of what it finds is claimed
  pub firm_before : {offers efficient limits : List ℕ} → Untouched the_firm_year e → fixed_in h ≡ false → FirmYear h offers efficient limits → FirmYear (e ∷ h) offers efficient limits
  firm_before u z k =
      record {
        offers_kept = λ q. absurd (no q);
        efficient_kept = λ q. absurd (no q);
        limits_kept = λ q. absurd (no q);
        dmp_shared = λ q. absurd (no q);
        dmp_small = rw (dmp_as_before e h not_fix) k.dmp_small;
      }
    where
      not_fix : is_a name.Fix e ≡ false
      not_fix = untouched_by the_firm_year e u name.Fix refl

      no : fixed_in (e ∷ h) ≡ true → ⊥
      no q = false≢true (sym z ∙ sym (fixed_as_before e h not_fix) ∙ q)

  offers_same : is_a name.Year e ≡ false → units_in (e ∷ h) ≡ units_in h → offers_in (e ∷ h) ≡ offers_in h
  unfolding offers_in
  offers_same y u = rw (hours_as_before e h y, u)

  efficient_same : is_a name.Year e ≡ false → units_in (e ∷ h) ≡ units_in h → efficient_offers_in (e ∷ h) ≡ efficient_offers_in h
  unfolding efficient_offers_in
  efficient_same y u = rw (u, offers_same y u)

  -- what the fix found stands while what it works from does
  pub firm_other : {offers efficient limits : List ℕ} → Untouched the_grounds e → FirmYear h offers efficient limits → FirmYear (e ∷ h) offers efficient limits
  firm_other u k =
      let no = untouched_by the_grounds e u in
      let y = no name.Year refl in
      let f = no name.Fix refl in
      let same = units_as_before e h (no name.Unit refl) (no name.Test refl) (no name.Availability refl) in
      let back = sym (fixed_as_before e h f) in
      record {
        offers_kept = λ q. k.offers_kept (back ∙ q) ∙ sym (offers_same y same);
        efficient_kept = λ q. k.efficient_kept (back ∙ q) ∙ sym (efficient_same y same);
        limits_kept = λ q. k.limits_kept (back ∙ q) ∙ sym (rw (same, efficient_same y same) refl);
        dmp_shared = λ q. rw (dmp_as_before e h f, declarations_as_before e h (no name.Declare refl)) (k.dmp_shared (back ∙ q));
        dmp_small = rw (dmp_as_before e h f) k.dmp_small;
      }

  -- before the close nothing of its figures is claimed
  pub money_before : {figures : CloseFigures} → Untouched the_money e → closed_in h ≡ false → Money (e ∷ h) figures
  money_before u z =
      record {
        adjusted_kept = λ q. absurd (no q);
        charges_kept = λ q. absurd (no q);
        credits_kept = λ q. absurd (no q);
        charged_kept = λ q. absurd (no q);
        credited_kept = λ q. absurd (no q);
        undistributed_kept = λ q. absurd (no q);
        fixed_before = λ q. absurd (no q);
        heard = λ q. absurd (no q);
        adjusted_small = λ q. absurd (no q);
        charges_small = λ q. absurd (no q);
        charges_divided = λ q. absurd (no q);
      }
    where
      no : closed_in (e ∷ h) ≡ true → ⊥
      no q = false≢true (sym z ∙ sym (closed_as_before e h (untouched_by the_money e u name.Close refl)) ∙ q)
