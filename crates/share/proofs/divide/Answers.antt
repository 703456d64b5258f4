-- `share::divide` meets its contract: a refusal changes nothing, and an acceptance shares out over the front of the amounts.
-- Assumes nothing.
use mathlib.Core.Path.{◌≡◌, sym, ap}
use mathlib.Core.List.{List, ◌++◌}
use Prim.Native.Nat.{ℕ}
use native.Mathlib.Nat.{zero-add}
use native.Mathlib.Omega.{arith}
use borrow.Author.Tests.{eq-eqb}
use borrow.Author.Rules.{rules}
use lib.ListN.{length, drop}
use lib.Seq.{length-take-le}
use Rattle.quantities.specs.Refusals.{met}
use Rattle.share.specs.Division.{divided, division_number}
use Rattle.share.proofs.Accepted.{Accepted, accepted, enough, refused}
use Rattle.share.proofs.Laws.{length-shares}
use Rattle.share.proofs.divide.Goals as goal

-- what is accepted with no number
shown : (T : ℕ) (ws : List ℕ) (room : ℕ) → 0 ≡ division_number T ws room → Accepted T ws room
shown T ws room e = accepted T ws room (sym e)

pub returns-in_err-check_division : goal.returns-in_err-check_division
unfolding divided
returns-in_err-check_division c =
    let e : met c.from_residual.result ≡ division_number c.args.total c.args.weights.now (length c.args.amounts.now) = search rules in
    record { answer = e; amounts = rw (← e, refused c.from_residual.result c.from_residual.ensures.0) }

pub slice_bounds-share_out-end : goal.slice_bounds-share_out-end
slice_bounds-share_out-end c = (shown _ _ _ c.in_ok-check_division.ensures).fits

pub slice_bounds-share_out-end-2 : goal.slice_bounds-share_out-end-2
slice_bounds-share_out-end-2 c = sym (length-take-le _ _ (shown _ _ _ c.in_ok-check_division.ensures).fits)

pub slice_bounds-rest-end : goal.slice_bounds-rest-end
slice_bounds-rest-end c = (shown _ _ _ c.in_ok-check_division.ensures).most

pub slice_bounds-share_out-end-3 : goal.slice_bounds-share_out-end-3
slice_bounds-share_out-end-3 c = sym (length-take-le _ _ (shown _ _ _ c.in_ok-check_division.ensures).most)

pub share_out-requires : goal.share_out-requires
share_out-requires c =
    let a = c.args in
    let h = shown a.total a.weights.now (length a.amounts.now) c.in_ok-check_division.ensures in
    let n = length-take-le (length a.weights.now) a.amounts.now h.fits in
    record { amounts_value = enough a.total a.weights.now (length a.amounts.now) _ h (omega (arith, n)); amounts_len = (n, length-take-le _ _ h.most) }

pub returns : goal.returns
unfolding divided
returns c =
    let a = c.args in
    let e : 0 ≡ division_number a.total a.weights.now (length a.amounts.now) = c.in_ok-check_division.ensures in
    record {
      answer = e;
      amounts =
          rw (eq-eqb _ 0 (sym e), length-shares a.total a.weights.now, zero-add)
          (ap (λ (l : List ℕ). l ++ drop (length a.weights.now) a.amounts.now) c.share_out.ensures);
    }
