-- The number that a call meets, by the listed conditions over the accepted calls before it ("Numbered replies").
use Rattle.std.specs.Prelude.{◌≡◌, Bool, true, List, [], ℕ, suc, ◌+◌, ◌-◌, eqb, ltb, Option, None, Some}
use Rattle.std.specs.List.{list_all, range_with_len}
use Rattle.basis.specs.Choice.{pick}
use Rattle.basis.specs.Sums.{sum_up, all_at_most}
use Rattle.quantities.specs.Limits.{greatest_power, consumers}
use Rattle.power.specs.Power.{count_fits}
use Rattle.plant.specs.Availability.{minutes_fit}
use Rattle.table.specs.declared.calls.Call.{Call}
use Rattle.table.specs.declared.calls.Call.TheVariants as call
use Rattle.table.specs.declared.units.UnitCall.TheVariants as unit-call
use Rattle.table.specs.declared.consumers.ConsumerCall.TheVariants as consumer-call
use Rattle.table.specs.declared.contracts.ContractCall.TheVariants as contract-call
use Rattle.table.specs.Records as name
use Rattle.state.specs.State.{fresh_book, ranged}
use Rattle.gathering.specs.Units.{has_test, has_availability}
use Rattle.close.specs.Close.{charges_in, charged_rest}
use Rattle.book.specs.Lists.{Event, reply_to, after_all, accepted_by}
use Rattle.claims.specs.History.{field, last_that, about, happened, stage_in, dmp_in, declared_in, real_in, commitments_in, releases_in}
use Rattle.claims.specs.Figures.{producer_offer_in, total_declared_in, consumers_in, adjusted_demands_in}

-- 4: stage
abbrev pub at_stage : ℕ → List Event → ℕ → ℕ
at_stage own h rest = pick (eqb (stage_in h) own) rest 4

-- 5: unit already enrolled; 6: unit not enrolled, else what its kind says
abbrev pub already_enrolled : List Event → ℕ → ℕ
already_enrolled h u = pick (happened (last_that (about name.Unit u) h)) 5 0

abbrev pub enrolled_as : Option Event → (ℕ → ℕ) → ℕ
enrolled_as None rest = 6
enrolled_as (Some e) rest = rest (field 2 e)

-- 10: consumer not declared
abbrev pub declared_to : List Event → ℕ → ℕ → ℕ
declared_to h c rest = pick (happened (declared_in h c)) rest 10

-- a pair's balance, and a producer's balances
abbrev pub balance_in : List Event → ℕ → ℕ → ℕ
balance_in h p c = commitments_in h p c - releases_in h p c

abbrev pub balances_in : List Event → ℕ → ℕ
balances_in h p = sum_up (λ i. balance_in h p (suc i)) consumers

-- 16 is met where a consumer with an accepted declare is not heard: it "has neither a reading nor a mean"
abbrev pub heard_in : List Event → ℕ → Bool
heard_in h c = pick (happened (declared_in h c)) (happened (real_in h c)) true

abbrev pub all_heard_in : List Event → Bool
all_heard_in h = list_all (λ i. heard_in h (suc i)) (range_with_len 0 consumers)

-- the charges of a close at P; 19 is met where they are above 6,000,000,000,000 cents
abbrev pub charges_at : ℕ → List Event → List ℕ
charges_at p h = charges_in p (dmp_in h) (consumers_in h)

-- the numbers in their order, each under its condition; 0 where none is met
unfoldable pub number_in : List Event → Call → List ℕ → ℕ
number_in h (call.Year hours) readings = ranged (call.Year hours) [] (at_stage 0 h 0)
number_in h (call.Fix dmp) readings = ranged (call.Fix dmp) [] (at_stage 1 h (pick (eqb (total_declared_in h) 0) 13 0))
number_in h (call.Close p) readings =
    ranged (call.Close p) []
    (at_stage 2 h
    (pick (all_heard_in h)
    (pick (all_at_most greatest_power (adjusted_demands_in h)) (charged_rest (charges_at p h)) 14) 16))
number_in h (call.Unit unit (unit-call.Enrol e)) readings =
    ranged (call.Unit unit (unit-call.Enrol e)) [] (at_stage 1 h (already_enrolled h unit))
number_in h (call.Unit unit (unit-call.Test component t)) readings =
    ranged (call.Unit unit (unit-call.Test component t)) readings
    (at_stage 1 h
    (enrolled_as (last_that (about name.Unit unit) h)
    (λ kind. pick (has_test kind component) (pick (count_fits t.ending t.tc t.count) 0 8) 7)))
number_in h (call.Unit unit (unit-call.Availability component m)) readings =
    ranged (call.Unit unit (unit-call.Availability component m)) []
    (at_stage 1 h
    (enrolled_as (last_that (about name.Unit unit) h)
    (λ kind. pick (has_availability kind component) (pick (minutes_fit m) 0 9) 7)))
number_in h (call.Consumer consumer (consumer-call.Declare d a)) readings =
    ranged (call.Consumer consumer (consumer-call.Declare d a)) [] (at_stage 1 h 0)
number_in h (call.Consumer consumer (consumer-call.Meter dreal)) readings =
    ranged (call.Consumer consumer (consumer-call.Meter dreal)) [] (at_stage 2 h (declared_to h consumer 0))
number_in h (call.Consumer consumer (consumer-call.Mean mean)) readings =
    ranged (call.Consumer consumer (consumer-call.Mean mean)) [] (at_stage 2 h (declared_to h consumer 0))
number_in h (call.Contract producer consumer (contract-call.Commit q)) readings =
    ranged (call.Contract producer consumer (contract-call.Commit q)) []
    (at_stage 2 h (declared_to h consumer (pick (ltb (producer_offer_in h producer) (balances_in h producer + q)) 11 0)))
number_in h (call.Contract producer consumer (contract-call.Release q)) readings =
    ranged (call.Contract producer consumer (contract-call.Release q)) []
    (at_stage 2 h (declared_to h consumer (pick (ltb (balance_in h producer consumer) q) 12 0)))

-- after any list of calls from a fresh book, any further call answers the number of its conditions
abbrev pub ExactRefusals : Type 0
ExactRefusals =
    (calls : List Event) (next : Event) → (reply_to (after_all fresh_book calls) next).number ≡ number_in (accepted_by fresh_book [] calls) next.call next.readings
