-- What holds between a book and the history of accepted calls, and what every call keeps.
use Rattle.std.specs.Prelude.{Option, None, Some}
use Rattle.power.specs.declared.quantity.Kw.{Kw}
use mathlib.Core.Path.{◌≡◌}
use mathlib.Core.Bool.{true, false}
use mathlib.Core.List.{List}
use mathlib.Core.Logic.{◌⊎◌}
use Prim.Native.Nat.{ℕ, ◌+◌, ◌-◌, ◌≤◌}
use lib.ListN.{length, get_or}
use Rattle.basis.specs.Sums.{sum, all_at_most}
use Rattle.share.specs.Division.{division_number}
use Rattle.power.specs.Quantity.{in_watts, greatest_watts}
use Rattle.power.specs.Power.{fresh, maximum_power}
use Rattle.quantities.specs.Limits.{greatest_total, greatest_power, producers, consumers}
use Rattle.power.specs.declared.component.Component.{Component}
use Rattle.power.specs.declared.component.Hours.{Hours}
use Rattle.table.proofs.Laws.{Numbered}
use Rattle.table.specs.Records as name
use Rattle.state.specs.declared.kept.Stage.{Stage}
use Rattle.state.specs.declared.kept.Unit.{Unit}
use Rattle.state.specs.declared.kept.Consumer.{Consumer}
use Rattle.state.specs.declared.kept.CloseFigures.{CloseFigures}
use Rattle.state.specs.declared.kept.Book.{Book}
use Rattle.state.specs.State.{cells, cell_of, row_of, stage_number}
use Rattle.gathering.specs.Units.{cap_of}
use Rattle.fix.specs.Fix.{limits_of}
use Rattle.close.specs.Close.{reals_of, all_heard}
use Rattle.book.specs.Lists.{Event}
use Rattle.claims.specs.History.{last_that, about, fixed_in, closed_in, stage_in, hours_in, dmp_in, field_in, declared_in, commitments_in, releases_in, entry_in, component_in}
use Rattle.claims.specs.Figures.{units_in, offers_in, efficient_offers_in, declarations_in, consumers_in, adjusted_demands_in, positive_adjustments_in, all_charges_in, all_credits_in, undistributed_in}

pub record Timing (h : List Event) (stage : Stage) (hours : Hours) (dmp : ℕ) : Type 0 where
  pub stage_kept : stage_number stage ≡ stage_in h
  pub hours_kept : hours ≡ hours_in h
  pub dmp_kept : dmp ≡ dmp_in h

-- a component's power is within its unit's authorised injection
abbrev pub Within : Option Kw → Component → Type 0
Within None x = (maximum_power x).0 ≤ (maximum_power x).0
Within (Some most) x = (maximum_power x).0 ≤ (in_watts most).0

pub record Plants (h : List Event) (us : List Unit) : Type 0 where
  pub units_kept : us ≡ units_in h
  pub power_capped : (u k : ℕ) → Within (cap_of (entry_in h u)) (component_in h u k)
  pub power_small : (u k : ℕ) → (maximum_power (component_in h u k)).0 ≤ greatest_watts
  pub untested : (u k : ℕ) → last_that (about name.Unit u) h ≡ None → component_in h u k ≡ fresh

pub record ConsumersKept (h : List Event) (xs : List Consumer) : Type 0 where
  pub consumers_kept : xs ≡ consumers_in h
  pub declared_small : (c : ℕ) → field_in 1 (declared_in h c) ≤ greatest_power

pub record Contracts (h : List Event) (balances limits : List ℕ) : Type 0 where
  pub length_kept : length balances ≡ cells
  pub balance_kept : (p c : ℕ) → Numbered producers p → Numbered consumers c → get_or balances (cell_of p c) 0 + releases_in h p c ≡ commitments_in h p c
  pub nothing_yet : fixed_in h ≡ false → (i : ℕ) → get_or balances i 0 ≡ 0
  pub total_kept : fixed_in h ≡ true → (p : ℕ) → Numbered producers p → sum (row_of balances p) ≤ get_or limits (p - 1) 0

pub record FirmYear (h : List Event) (offers efficient limits : List ℕ) : Type 0 where
  pub offers_kept : fixed_in h ≡ true → offers ≡ offers_in h
  pub efficient_kept : fixed_in h ≡ true → efficient ≡ efficient_offers_in h
  pub limits_kept : fixed_in h ≡ true → limits ≡ limits_of (units_in h) (efficient_offers_in h)
  pub dmp_shared : fixed_in h ≡ true → division_number (dmp_in h) (declarations_in h) consumers ≡ 0
  pub dmp_small : dmp_in h ≤ greatest_power

pub record Money (h : List Event) (figures : CloseFigures) : Type 0 where
  pub adjusted_kept : closed_in h ≡ true → figures.adjusted ≡ adjusted_demands_in h
  pub charges_kept : closed_in h ≡ true → figures.charges ≡ all_charges_in h
  pub credits_kept : closed_in h ≡ true → figures.credits ≡ all_credits_in h
  pub charged_kept : closed_in h ≡ true → figures.charged ≡ sum figures.charges
  pub credited_kept : closed_in h ≡ true → figures.credited ≡ sum figures.credits
  pub undistributed_kept : closed_in h ≡ true → figures.undistributed ≡ undistributed_in h
  -- the year was fixed before, every declared consumer was heard, and the close was within its bounds
  pub fixed_before : closed_in h ≡ true → fixed_in h ≡ true
  pub heard : closed_in h ≡ true → all_heard (reals_of (consumers_in h)) ≡ true
  pub adjusted_small : closed_in h ≡ true → all_at_most greatest_power (adjusted_demands_in h) ≡ true
  pub charges_small : closed_in h ≡ true → sum (all_charges_in h) ≤ greatest_total
  -- the charges were divided, or there was no positive adjustment to divide them by
  pub charges_divided : closed_in h ≡ true → (division_number (sum (all_charges_in h)) (positive_adjustments_in h) consumers ≡ 0) ⊎ (sum (positive_adjustments_in h) ≡ 0)

pub record Kept (h : List Event) (b : Book) : Type 0 where
  pub timing : Timing h b.stage b.hours b.dmp
  pub plants : Plants h b.units
  pub consumers : ConsumersKept h b.consumers
  pub contracts : Contracts h b.balances b.limits
  pub firm : FirmYear h b.offers b.efficient b.limits
  pub money : Money h b.closing
