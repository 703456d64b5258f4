-- The year: an accepted one keeps what is kept, and the number of any one.
use mathlib.Core.Path.{◌≡◌, refl, sym, ◌∙◌}
use mathlib.Core.Bool.{false}
use mathlib.Core.List.{List, [], ◌∷◌}
use Prim.Native.Nat.{ℕ}
use Rattle.power.specs.declared.component.Hours.{Hours}
use Rattle.table.specs.Records.{parts_of}
use Rattle.table.specs.Records as name
use Rattle.table.specs.declared.calls.Call.TheVariants as call
use Rattle.state.specs.declared.kept.Stage.TheVariants.{Blank}
use Rattle.state.specs.declared.kept.Book.{Book}
use Rattle.book.specs.Year.{year_number_by, year_number, begun}
use Rattle.book.specs.Lists.{Event}
use Rattle.claims.specs.History.{is_a, fixed_in, closed_in, begun_in}
use Rattle.claims.specs.Refusals.{number_in}
use Rattle.claims.proofs.SameFigures.{last_this, fixed_as_before, closed_as_before, dmp_as_before}
use Rattle.claims.proofs.Stages.{blank_is, accepted_shows, behind}
use Rattle.claims.proofs.Kept.{Kept}
use Rattle.claims.proofs.Untouched.{plants_other, consumers-other, contracts_other, firm_before, money_before}

module _ (h : List Event) (b : Book) (k : Kept h b) (hours : Hours) (readings : List ℕ) where
  abbrev year : Event
  year = record { call = call.Year hours; readings = readings }

  was_blank : year_number b hours ≡ 0 → (closed_in h ≡ false) × (fixed_in h ≡ false) × (begun_in h ≡ false)
  unfolding year_number_by
  was_blank z =
      blank_is (closed_in h) (fixed_in h) (begun_in h)
      (sym k.timing.stage_kept ∙ (accepted_shows (call.Year hours) [] Blank b.stage 0 z).stage)

  pub year_kept : year_number b hours ≡ 0 → Kept (year ∷ h) (begun b hours)
  unfolding begun parts_of
  year_kept z =
      let this = last_this year h (is_a name.Year) refl in
      let was = was_blank z in
      record {
        timing =
            record {
              stage_kept =
                  sym (rw (closed_as_before year h refl, was.0, fixed_as_before year h refl, was.1, this) refl);
              hours_kept = sym (rw this refl);
              dmp_kept = k.timing.dmp_kept ∙ sym (dmp_as_before year h refl);
            };
        plants = plants_other year h refl k.plants;
        consumers = consumers-other year h refl k.consumers;
        contracts = contracts_other year h refl k.contracts;
        firm = firm_before year h refl was.1 k.firm;
        money = money_before year h refl was.0;
      }

  pub year_exact : year_number b hours ≡ number_in h (call.Year hours) readings
  unfolding year_number_by number_in
  year_exact = behind h b.stage k.timing.stage_kept (call.Year hours) [] Blank 0 0 (λ z s. refl)
