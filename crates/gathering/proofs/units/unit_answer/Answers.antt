-- `gathering::units::unit_answer` meets its contract: range, stage, then the unit. Assumes nothing.
use Rattle.std.proofs.Common.{ap}
use Rattle.quantities.specs.Refusals.{decided_by}
use Rattle.state.specs.declared.kept.Stage.TheVariants.{Gathering}
use Rattle.state.specs.State.{staged}
use Rattle.gathering.specs.Units.{test_rest, tested_unit, unit_rest, unit_after, unit_number, unit_answer_of}
use Rattle.gathering.proofs.Bars.{component_tested, test_in_fields, component_available}
use Rattle.gathering.proofs.units.unit_answer.Goals as goal

pub tested-requires : goal.tested-requires
tested-requires c = component_tested c.args.unit c.in-Test.component c.in-Test.trial c.in_ok-check_fields-in-Test.ensures

pub available-requires : goal.available-requires
available-requires c =
    component_available c.args.unit c.in-Availability.component c.in-Availability.minutes _ _ c.in_ok-check_open-in-Availability.ensures

pub returns-in_ok-check_fields-in-Test : goal.returns-in_ok-check_fields-in-Test
unfolding unit_answer_of unit_number unit_rest unit_after
returns-in_ok-check_fields-in-Test c =
    let a = c.args in
    let k = c.in-Test in
    rw (c.tested.ensures, k.is) (ap (λ n. decided_by n (tested_unit a.u k.component k.trial.ending k.trial.tc k.trial.count a.readings.now)) (test_in_fields a.unit k.component k.trial c.in_ok-check_fields-in-Test.ensures a.readings.now (staged Gathering a.stage (test_rest a.u.enrolment k.component k.trial.ending k.trial.tc k.trial.count a.readings.now))))
