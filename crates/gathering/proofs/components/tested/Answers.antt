-- `gathering::components::tested` meets its contract: readings, stage, then the component. Assumes nothing.
use Rattle.std.proofs.Common.{◌≡◌, false, eqb}
use Rattle.std.proofs.lemmas.Result.{err_from_is_err_and}
use Rattle.quantities.specs.Refusals.{met}
use Rattle.state.specs.declared.kept.Stage.TheVariants.{Gathering}
use Rattle.gathering.specs.Units.{test_rest, tested_unit}
use Rattle.gathering.proofs.Trials.{readings_in_range, stage_refuses}
use Rattle.gathering.proofs.components.tested.Goals as goal

pub returns-in_err-check_stage : goal.returns-in_err-check_stage
returns-in_err-check_stage c =
    let a = c.args in
    let t = a.trial in
    let e : eqb (met c.test-answer.result) 3 ≡ false = cc in
    let p = err_from_is_err_and c.from_residual.result c.from_residual.ensures.1 in
    rw (p.1, p.2, readings_in_range _ _ t.ending t.tc t.count a.readings.now _ c.test-answer.ensures e) (stage_refuses _ Gathering a.stage (test_rest a.unit.enrolment a.component t.ending t.tc t.count a.readings.now) (tested_unit a.unit a.component t.ending t.tc t.count a.readings.now) c.in_err-check_stage.ensures)
