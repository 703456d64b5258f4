-- The figures of an accepted log.
use Rattle.std.proofs.Common.{◌≡◌, refl, true, ◌&&◌, List, ℕ, ◌+◌, ◌-◌, ◌<◌, ◌≤◌, leb, ltb, eqb, arith}
use Rattle.std.specs.List.{list_all, range_with_len}
use Rattle.std.proofs.lemmas.Bool.{and_parts}
use Rattle.std.proofs.lemmas.List.FromFn.{length-range_with_len}
use borrow.Author.Tests.{leb-true, ltb-true, le-leb, ne_eqb}
use Rattle.basis.proofs.Choice.{peel_not}
use Rattle.basis.specs.Choice.{pick}
use Rattle.quantities.specs.Limits.{greatest_minutes}
use Rattle.power.specs.declared.component.Minutes.{Minutes}
use Rattle.plant.specs.Availability.{whole_minutes, availability_number}
use Rattle.outages.specs.Log.{planned, forced, window_of, hed_of, entries_of, whole, entry_in_range, log_in_range, window_fits, in_order, log_number}
use Rattle.outages.specs.Outages.{minutes_of_kind, log_minutes}
use Rattle.outages.specs.Promises.{lies_in_any, OutagesCount}
use Rattle.outages.proofs.Counting.{count_within, count_not, sum_of_kinds}

-- what an accepted log shows
record AcceptedLog (log : List ℕ) : Type 0 where
  pub small : hed_of log ≤ greatest_minutes
  pub ranged : list_all entry_in_range (entries_of log) ≡ true
  pub rising : (window_of log).start < (window_of log).end
  pub long : (window_of log).end - (window_of log).start ≤ greatest_minutes
  pub ordered : in_order 0 (entries_of log) ≡ true

accepted : (log : List ℕ) → log_number log ≡ 0 → AcceptedLog log
unfolding log_number
accepted log e =
    let ranged = peel_not (log_in_range log) 2 _ e in
    let fits = peel_not (window_fits (window_of log) && in_order 0 (entries_of log)) 16 _ ranged.1 in
    let ordered = and_parts (window_fits (window_of log)) (in_order 0 (entries_of log)) fits.0 in
    let window = and_parts (ltb (window_of log).start (window_of log).end) (leb ((window_of log).end - (window_of log).start) greatest_minutes) ordered.0 in
    let figures = and_parts (whole log) _ ranged.0 in
    let kinds = and_parts _ (list_all entry_in_range (entries_of log)) figures.1 in
    let few = and_parts _ _ kinds.0 in
    let hed = and_parts _ (leb (hed_of log) greatest_minutes) few.0 in
    record {
      small = leb-true (hed_of log) greatest_minutes hed.1;
      ranged = kinds.1;
      rising = ltb-true (window_of log).start (window_of log).end window.0;
      long = leb-true ((window_of log).end - (window_of log).start) greatest_minutes window.1;
      ordered = ordered.1;
    }

-- minutes of a window that is not too long are in range and have a coefficient, where they are not degraded beyond what is available
goes_in : (m : Minutes) → m.hed ≤ greatest_minutes → m.hd + m.hmp + m.hif ≤ greatest_minutes → 0 < m.hd + m.hmp + m.hif → availability_number m ≡ pick (leb m.hed (m.hd + m.hmp)) 0 9
goes_in m small long some =
    let none = ne_eqb (whole_minutes m) 0 (λ q. absurd (omega (arith, q, some))) in
    let few = le-leb (whole_minutes m) greatest_minutes (omega (arith, long)) in
    rw (le-leb m.hd greatest_minutes (omega (arith, long)), le-leb m.hmp greatest_minutes (omega (arith, long)), le-leb m.hif greatest_minutes (omega (arith, long)), le-leb m.hed greatest_minutes small, none, few) refl

-- what is promised of an accepted log
pub counted : OutagesCount
unfolding log_minutes
counted log e =
    let a = accepted log e in
    let w = window_of log in
    let es = entries_of log in
    let any = lies_in_any es in
    let kinds = sum_of_kinds w es a.ranged in
    let within = count_within (λ k. true) w es a.rising a.ordered in
    let rest = count_not any (range_with_len w.start (w.end - w.start)) in
    let n = length-range_with_len w.start (w.end - w.start) in
    let add_up : w.end - w.start - minutes_of_kind w planned es - minutes_of_kind w forced es + minutes_of_kind w planned es + minutes_of_kind w forced es ≡ w.end - w.start = omega (arith, kinds, within, rest, n) in
    record {
      planned_minutes = count_within (λ k. eqb k planned) w es a.rising a.ordered;
      forced_minutes = count_within (λ k. eqb k forced) w es a.rising a.ordered;
      available_minutes = omega (arith, kinds, within, rest, n);
      hed_given = refl;
      add_up = add_up;
      goes_in = goes_in (log_minutes log) a.small (omega (arith, add_up, a.long)) (omega (arith, add_up, a.rising));
    }
