-- A test is answered by its component first, and then by the stage.
use Rattle.std.specs.Prelude.{◌≡◌, ℕ, Bool, true, false, List, Option, Result, Ok, Err, eqb, refl}
use Rattle.std.proofs.Common.{sym, ap, ◌∙◌}
use Rattle.basis.specs.Choice.{pick}
use Rattle.quantities.specs.declared.refusals.Refusal.{Refusal}
use Rattle.quantities.specs.Refusals.{refusal_number, met, decided, decided_by}
use Rattle.quantities.proofs.RefusalLaws.{refusing, refused_by}
use Rattle.power.specs.declared.quantity.Kw.{Kw}
use Rattle.power.specs.declared.component.Component.{Component}
use Rattle.power.specs.Ranges.{test_in_range}
use Rattle.power.specs.Power.{Answer, answered, count_fits, test_of}
use Rattle.state.specs.declared.kept.Stage.{Stage}
use Rattle.state.specs.State.{stage_number, staged}

-- the number of an answer
number_of : (old : Component) (answer : Result Component Refusal) → (answered old answer).number ≡ met answer
number_of old (Ok new) = refl
number_of old (Err refusal) = refl

-- readings that are not answered with 3 are in range
pub readings_in_range : (old : Component) (cap : Option Kw) (ending tc count : ℕ) (bytes : List ℕ) (answer : Result Component Refusal) → answered old answer ≡ test_of old cap ending tc count bytes → eqb (met answer) 3 ≡ false → test_in_range ending tc count bytes ≡ true
unfolding test_of
readings_in_range old cap ending tc count bytes answer e f =
    go (test_in_range ending tc count bytes) (sym (number_of old answer) ∙ ap (λ (a : Answer). a.number) e)
  where
    go : (t : Bool) → met answer ≡ pick t (pick (count_fits ending tc count) 0 8) 3 → t ≡ true
    go true k = refl
    go false k = absurd (mathlib.Core.Bool.false≢true (sym f ∙ ap (λ n. eqb n 3) k))

-- the stage refuses whatever comes behind
pub stage_refuses : {A : Type 0} (refusal : Refusal) (own stage : Stage) (rest : ℕ) (stored : A) → refusal_number refusal ≡ staged own stage 0 → decided (Err refusal) ≡ decided_by (staged own stage rest) stored
stage_refuses refusal own stage rest stored e = go (eqb (stage_number stage) (stage_number own)) e
  where
    go : (t : Bool) → refusal_number refusal ≡ pick t 0 4 → decided (Err refusal) ≡ decided_by (pick t rest 4) stored
    go true k = absurd (mathlib.Core.Bool.false≢true (sym (refusing refusal) ∙ ap (λ n. eqb n 0) k))
    go false k = refused_by refusal 4 stored k
