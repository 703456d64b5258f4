-- Numbers 3 and 4, which come first, and the stage that a history tells of.
use mathlib.Core.Path.{◌≡◌, refl, ap, ◌∙◌}
use mathlib.Core.Bool.{Bool, true, false}
use mathlib.Core.List.{List}
use Prim.Native.Nat.{ℕ}
use native.Mathlib.Omega.{arith}
use borrow.Author.Tests.{eqb-true}
use lib.Dec.{eqb}
use Rattle.basis.specs.Choice.{pick}
use Rattle.basis.proofs.Choice.{peel_not, handed_on}
use Rattle.table.specs.Ranges.{call_number}
use Rattle.table.specs.declared.calls.Call.{Call}
use Rattle.state.specs.declared.kept.Stage.{Stage}
use Rattle.state.specs.State.{stage_number, ranged, staged}
use Rattle.book.specs.Lists.{Event}
use Rattle.claims.specs.History.{stage_by, stage_in}
use Rattle.claims.specs.Refusals.{at_stage}

pub blank_is : (c f b : Bool) → stage_by c f b ≡ 0 → (c ≡ false) × (f ≡ false) × (b ≡ false)
blank_is true f b e = absurd (omega arith)
blank_is false true b e = absurd (omega arith)
blank_is false false true e = absurd (omega arith)
blank_is false false false e = (refl, refl, refl)

pub gathering_is : (c f b : Bool) → stage_by c f b ≡ 1 → (c ≡ false) × (f ≡ false) × (b ≡ true)
gathering_is true f b e = absurd (omega arith)
gathering_is false true b e = absurd (omega arith)
gathering_is false false true e = (refl, refl, refl)
gathering_is false false false e = absurd (omega arith)

pub firm_is : (c f b : Bool) → stage_by c f b ≡ 2 → (c ≡ false) × (f ≡ true)
firm_is true f b e = absurd (omega arith)
firm_is false true b e = (refl, refl)
firm_is false false true e = absurd (omega arith)
firm_is false false false e = absurd (omega arith)

-- an accepted call is in range, belongs to the stage, and meets no further number
pub record Passed (call : Call) (readings : List ℕ) (own at : Stage) (further : ℕ) : Type 0 where
  pub range : call_number call readings ≡ 0
  pub stage : stage_number at ≡ stage_number own
  pub rest : further ≡ 0

pub accepted_shows : (call : Call) (readings : List ℕ) (own stage : Stage) (rest : ℕ) → ranged call readings (staged own stage rest) ≡ 0 → Passed call readings own stage rest
accepted_shows call readings own stage rest e =
    let a = handed_on (call_number call readings) (staged own stage rest) e in
    let b = peel_not (eqb (stage_number stage) (stage_number own)) 3 rest a.1 in
    record {
      range = a.0;
      stage = eqb-true (stage_number stage) (stage_number own) b.0;
      rest = b.1;
    }

-- what follows numbers 3 and 4 need agree only behind them
pub behind : (h : List Event) (stage : Stage) → stage_number stage ≡ stage_in h → (c : Call) (rs : List ℕ) (own : Stage) (mine theirs : ℕ) → (call_number c rs ≡ 0 → stage_in h ≡ stage_number own → mine ≡ theirs) → ranged c rs (staged own stage mine) ≡ ranged c rs (at_stage (stage_number own) h theirs)
behind h stage e c rs own mine theirs f =
    ranges (eqb (call_number c rs) 0) refl
  where
    stages : call_number c rs ≡ 0 → (t : Bool) → eqb (stage_in h) (stage_number own) ≡ t → pick t mine 4 ≡ pick t theirs 4
    stages z true q = f z (eqb-true (stage_in h) (stage_number own) q)
    stages z false q = refl

    ranges : (t : Bool) → eqb (call_number c rs) 0 ≡ t → pick t (staged own stage mine) (call_number c rs) ≡ pick t (at_stage (stage_number own) h theirs) (call_number c rs)
    ranges true q =
        ap (λ n. pick (eqb n (stage_number own)) mine 4) e
        ∙ stages (eqb-true (call_number c rs) 0 q) (eqb (stage_in h) (stage_number own)) refl
    ranges false q = refl
