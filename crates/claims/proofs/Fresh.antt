-- A fresh book and no call.
use mathlib.Core.Path.{◌≡◌, refl, ap}
use mathlib.Core.Bool.{false≢true}
use mathlib.Core.List.{List, [], ◌∷◌}
use Prim.Native.Nat.{ℕ, zero, suc, ◌+◌, zero-le}
use native.Mathlib.Nat.{le_refl}
use lib.ListN.{get_or, replicate, length-replicate}
use Rattle.basis.specs.Tables.{tab_from}
use Rattle.quantities.specs.Limits.{units, consumers}
use Rattle.state.specs.State.{fresh_book, fresh_unit, fresh_consumer, cells}
use Rattle.claims.specs.History.{last_that, sum_over, component_in}
use Rattle.claims.specs.Figures.{units_in, demand_in, consumers_in}
use Rattle.claims.proofs.Kept.{Kept}

module _ {A : Type 0} where
  replicate-tab : (x : A) (i n : ℕ) → replicate n x ≡ tab_from (λ k. x) i n
  unfolding tab_from
  replicate-tab x i zero = refl
  replicate-tab x i (suc n) = ap (λ (l : List A). x ∷ l) (replicate-tab x (i + 1) n)

zero_everywhere : (n i : ℕ) → ◌≡◌ {A = ℕ} (get_or (replicate n 0) i 0) 0
zero_everywhere zero i = refl
zero_everywhere (suc n) zero = refl
zero_everywhere (suc n) (suc i) = zero_everywhere n i

pub fresh_kept : Kept [] fresh_book
unfolding fresh_book last_that sum_over component_in units_in demand_in consumers_in
fresh_kept =
    record {
      timing = record { stage_kept = refl; hours_kept = refl; dmp_kept = refl };
      plants =
          record {
            units_kept = replicate-tab fresh_unit 0 units;
            power_capped = λ u k. le_refl 0;
            power_small = λ u k. zero-le;
            untested = λ u k e. refl;
          };
      consumers = record { consumers_kept = replicate-tab fresh_consumer 0 consumers; declared_small = λ c. zero-le };
      contracts =
          record {
            length_kept = length-replicate {A = ℕ} cells 0;
            balance_kept = λ p c np nc. rw (zero_everywhere cells (Rattle.state.specs.State.cell_of p c)) refl;
            nothing_yet = λ e i. zero_everywhere cells i;
            total_kept = λ e. absurd (false≢true e);
          };
      firm =
          record {
            offers_kept = λ e. absurd (false≢true e);
            efficient_kept = λ e. absurd (false≢true e);
            limits_kept = λ e. absurd (false≢true e);
            dmp_shared = λ e. absurd (false≢true e);
            dmp_small = zero-le;
          };
      money =
          record {
            adjusted_kept = λ e. absurd (false≢true e);
            charges_kept = λ e. absurd (false≢true e);
            credits_kept = λ e. absurd (false≢true e);
            charged_kept = λ e. absurd (false≢true e);
            credited_kept = λ e. absurd (false≢true e);
            undistributed_kept = λ e. absurd (false≢true e);
            fixed_before = λ e. absurd (false≢true e);
            heard = λ e. absurd (false≢true e);
            adjusted_small = λ e. absurd (false≢true e);
            charges_small = λ e. absurd (false≢true e);
            charges_divided = λ e. absurd (false≢true e);
          };
    }
