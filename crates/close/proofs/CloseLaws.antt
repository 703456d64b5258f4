-- The close: figures by consumer, and what the division of the charges leaves.
use Rattle.std.specs.Prelude.{Option, None, Result, Ok, Err, IfOk}
use Rattle.std.specs.Result.{result_unwrap_or}
use mathlib.Core.Path.{◌≡◌, refl, sym, ap, ◌∙◌}
use mathlib.Core.Bool.{true}
use mathlib.Core.List.{List, [], map}
use Prim.Native.Nat.{ℕ, ◌-◌, ◌/◌, ◌≤◌}
use native.Mathlib.Nat.{zero-mul, zero-div}
use native.Mathlib.Omega.{arith}
use borrow.Author.Tests.{leb-true}
use lib.Dec.{leb, eqb}
use lib.ListN.{length, get_or, replicate, get_or-map}
use Rattle.basis.specs.Choice.{pick}
use Rattle.basis.specs.Sums.{sum, all_at_most}
use Rattle.basis.specs.Tables.{tab}
use Rattle.basis.proofs.Sums.{sum_zeros, all_at_most_lem}
use Rattle.basis.proofs.Tables.{tab_same, tab-map, tab-zip}
use Rattle.share.specs.Division.{division_number, shares}
use Rattle.quantities.specs.declared.refusals.Refusal.{Refusal}
use Rattle.quantities.specs.Refusals.{met}
use Rattle.quantities.proofs.RefusalLaws.{refusing}
use Rattle.quantities.specs.Limits.{greatest_total, greatest_power, consumers}
use Rattle.state.specs.declared.kept.Declaration.{Declaration}
use Rattle.state.specs.declared.kept.Consumer.{Consumer}
use Rattle.state.specs.declared.kept.CloseFigures.{CloseFigures}
use Rattle.table.specs.Ranges.{call_number}
use Rattle.table.specs.declared.calls.Call.TheVariants as call
use Rattle.table.proofs.Table.{close-ranged}
use Rattle.state.specs.declared.kept.Stage.{Stage}
use Rattle.state.specs.declared.kept.Stage.TheVariants.{Firm}
use Rattle.state.specs.State.{fresh_consumer, stage_number, staged}
use Rattle.fix.specs.Fix.{weights_of}
use Rattle.close.specs.Close.{real_demand, reals_of, adjusted_by, all_adjusted, adjusted_of, adjusted_in, surplus_by, charge_by, surpluses_in, charges_of, charges_in, charged_rest, credits_of, undistributed_of, all_heard, close_rest, close_number_by, figures_of}
use Rattle.basis.proofs.Choice.{peel_not, handed_on}
use Rattle.close.proofs.Bounds.{AcceptedClose}

-- the DFA of all consumers, from what was found of them
pub all_adjusted_lem : (dmp : ℕ) (xs : List Consumer) {total : ℕ} {reals : List (Option ℕ)} → total ≡ sum (weights_of xs) → reals ≡ reals_of xs → all_adjusted dmp total reals ≡ adjusted_in dmp xs
unfolding adjusted_in
all_adjusted_lem dmp xs t r = rw (t, r)

-- none is above the greatest
pub each_within : (dmp total : ℕ) (reals : List (Option ℕ)) → all_at_most greatest_power (all_adjusted dmp total reals) ≡ true → (k : ℕ) → adjusted_by dmp total (get_or reals k None) ≤ greatest_power
unfolding all_adjusted
each_within dmp total reals h k =
    omega (arith, get_or-map (adjusted_by dmp total) reals k None, all_at_most_lem greatest_power (all_adjusted dmp total reals) h k)

-- DFA of a fresh consumer, which stands for a place behind the last: 0
none_adjusted : (dmp total : ℕ) → adjusted_of dmp total fresh_consumer ≡ 0
none_adjusted dmp total = ap (λ n. n / total) (zero-mul dmp) ∙ zero-div total

-- DFA at a place, by the consumer there
pub adjusted_at : (dmp : ℕ) (xs : List Consumer) (i : ℕ) → get_or (adjusted_in dmp xs) i 0 ≡ adjusted_of dmp (sum (weights_of xs)) (get_or xs i fresh_consumer)
unfolding adjusted_in all_adjusted reals_of
adjusted_at dmp xs i =
    let total : ℕ = sum (weights_of xs) in
    ap (get_or (map (adjusted_by dmp total) (map real_demand xs)) i) (sym (none_adjusted dmp total))
    ∙ get_or-map (adjusted_by dmp total) (map real_demand xs) i (real_demand fresh_consumer)
    ∙ ap (adjusted_by dmp total) (get_or-map real_demand xs i fresh_consumer)

-- what is found from each consumer's DFA and declaration
module _ (dmp : ℕ) (adjusted : List ℕ) (xs : List Consumer) (e : adjusted ≡ adjusted_in dmp xs) (n : length xs ≡ consumers) where
  by_consumer : (g : ℕ → Declaration → ℕ) → tab (λ i. g (get_or adjusted i 0) (get_or xs i fresh_consumer).declaration) consumers ≡ map (λ x. g (adjusted_of dmp (sum (weights_of xs)) x) x.declaration) xs
  by_consumer g =
      let h = adjusted_of dmp (sum (weights_of xs)) in
      tab_same (λ i. g (get_or adjusted i 0) (get_or xs i fresh_consumer).declaration) (λ i. g (h (get_or xs i fresh_consumer)) (get_or xs i fresh_consumer).declaration) consumers
      (λ i _. ap (λ dfa. g dfa (get_or xs i fresh_consumer).declaration) (ap (λ (l : List ℕ). get_or l i 0) e ∙ adjusted_at dmp xs i))
      ∙ tab-map (λ x. g (h x) x.declaration) xs fresh_consumer consumers n

  pub surpluses_by_consumer : tab (λ i. surplus_by (get_or adjusted i 0) (get_or xs i fresh_consumer).declaration) consumers ≡ surpluses_in dmp xs
  unfolding surpluses_in
  surpluses_by_consumer = by_consumer surplus_by

-- the charges, by the DFA of all
pub charges_by_dfa : (p dmp : ℕ) (xs : List Consumer) {adjusted : List ℕ} → adjusted ≡ adjusted_in dmp xs → charges_of p adjusted xs ≡ charges_in p dmp xs
unfolding charges_in
charges_by_dfa p dmp xs e = ap (λ l. charges_of p l xs) e

-- .. and place by place
pub charges_by_place : (p : ℕ) (adjusted : List ℕ) (xs : List Consumer) → length adjusted ≡ consumers → length xs ≡ consumers → tab (λ i. charge_by p (get_or adjusted i 0) (get_or xs i fresh_consumer).declaration) consumers ≡ charges_of p adjusted xs
unfolding charges_of
charges_by_place p adjusted xs m n = tab-zip (λ dfa (x : Consumer). charge_by p dfa x.declaration) adjusted xs 0 fresh_consumer consumers m n

-- the charges divided by the positive ADF, nothing where none is positive; what is not credited is undistributed
module _ (T : ℕ) (ws : List ℕ) where
  pub credited : (answer : Result (List ℕ) Refusal) → met answer ≡ division_number T ws consumers → IfOk answer (λ amounts. amounts ≡ shares T ws) → result_unwrap_or answer (replicate consumers 0) ≡ credits_of T ws
  unfolding credits_of
  credited (Ok amounts) n shared = rw (← n) shared
  credited (Err refusal) n shared = rw (← n, refusing refusal) refl

  pub undistributed : (answer : Result (List ℕ) Refusal) → met answer ≡ division_number T ws consumers → IfOk answer (λ amounts. sum amounts ≡ T)
      → (sum (result_unwrap_or answer (replicate consumers 0)) ≤ T) × (T - sum (result_unwrap_or answer (replicate consumers 0)) ≡ undistributed_of T ws)
  unfolding undistributed_of
  undistributed (Ok amounts) n whole = rw (← n) (omega arith, omega arith)
  undistributed (Err refusal) n whole = rw (← n, refusing refusal, sum_zeros consumers) (omega arith, omega arith)

-- what is found one after the other makes the figures of the close
pub figures_with : (p dmp : ℕ) (xs : List Consumer) (adjusted charges surpluses shared : List ℕ) (charged credited rest : ℕ)
    → adjusted ≡ adjusted_in dmp xs → charges ≡ charges_in p dmp xs → surpluses ≡ surpluses_in dmp xs
    → charged ≡ sum charges → shared ≡ credits_of charged surpluses → credited ≡ sum shared → rest ≡ undistributed_of charged surpluses
    → ◌≡◌ {A = CloseFigures} (record { adjusted = adjusted; charges = charges; credits = shared; charged = charged; credited = credited; undistributed = rest }) (figures_of p dmp xs)
unfolding figures_of
figures_with p dmp xs adjusted charges surpluses shared charged credited rest a c s t h r u = rw (u, r, h, t, s, c, a)

-- an accepted close was within its range, every declared consumer was heard, every DFA was within its range, and so were the charges
pub accepted-close : (stage : Stage) (dmp : ℕ) (xs : List Consumer) (p : ℕ) → close_number_by stage dmp (sum (weights_of xs)) (reals_of xs) xs p ≡ 0 → AcceptedClose dmp xs p
unfolding close_number_by charges_in adjusted_in
accepted-close stage dmp xs p e =
    let reals = reals_of xs in
    let total : ℕ = sum (weights_of xs) in
    let charges : List ℕ = charges_of p (all_adjusted dmp total reals) xs in
    let within : ℕ = pick (all_at_most greatest_power (all_adjusted dmp total reals)) (charged_rest charges) 14 in
    let a = handed_on (call_number (call.Close p) []) (staged Firm stage (close_rest p dmp total reals xs)) e in
    let b = peel_not (eqb (stage_number stage) (stage_number Firm)) 3 (close_rest p dmp total reals xs) a.1 in
    let c = peel_not (all_heard reals) 15 within b.1 in
    let d = peel_not (all_at_most greatest_power (all_adjusted dmp total reals)) 13 (charged_rest charges) c.1 in
    record {
      price = (close-ranged p [] a.0).most;
      heard = c.0;
      within = d.0;
      charged = leb-true (sum charges) greatest_total (peel_not (leb (sum charges) greatest_total) 18 0 d.1).0;
    }
