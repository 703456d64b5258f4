-- What each call of a consumer leaves as it was.
use mathlib.Core.Path.{◌≡◌, refl, sym, ap, ◌∙◌}
use native.Mathlib.Omega.{arith}
use lib.Dec.{eqb}
use Rattle.basis.specs.Choice.{pick}
use Rattle.table.specs.declared.consumers.ConsumerCall.{ConsumerCall}
use Rattle.table.specs.declared.consumers.ConsumerCall.TheVariants.{Declare, Meter, Mean}
use Rattle.state.specs.declared.kept.Stage.{Stage}
use Rattle.state.specs.declared.kept.Consumer.{Consumer}
use Rattle.state.specs.State.{stage_number}
use Rattle.decision.specs.Consumers.{consumer_rest, consumer_after}

-- in stage firm none changes what the consumer declared
pub declaration_kept : (act : ConsumerCall) (stage : Stage) (x : Consumer) → stage_number stage ≡ 2 → consumer_rest act stage x ≡ 0 → (consumer_after act x).declaration ≡ x.declaration
unfolding consumer_rest consumer_after
declaration_kept (Declare d a) stage x s z = absurd (omega (arith, ap (λ n. pick (eqb n 1) 0 4) (sym s) ∙ z))
declaration_kept (Meter dreal) stage x s z = refl
declaration_kept (Mean mean) stage x s z = refl
