-- The calls of a consumer: declare, meter ("A later accepted .. declaration or reading replaces the earlier."), and mean ("a later one replaces it",
-- document 02, A4).
use Rattle.std.specs.Prelude.{Bool, true, false, [], ℕ, ◌-◌, set, Some}
use Rattle.basis.specs.Choice.{pick}
use Rattle.table.specs.declared.calls.Call.TheVariants as call
use Rattle.table.specs.declared.consumers.ConsumerCall.{ConsumerCall}
use Rattle.table.specs.declared.consumers.ConsumerCall.TheVariants.{Declare, Meter, Mean}
use Rattle.state.specs.declared.kept.Stage.{Stage}
use Rattle.state.specs.declared.kept.Stage.TheVariants.{Gathering, Firm}
use Rattle.state.specs.declared.kept.Declaration.{Declaration}
use Rattle.state.specs.declared.kept.Declaration.TheVariants.{Undeclared, Declared}
use Rattle.state.specs.declared.kept.Consumer.{Consumer}
use Rattle.state.specs.declared.kept.Book.{Book}
use Rattle.state.specs.State.{Reply}
use Rattle.quantities.specs.Refusals.{Decided, decided_by}
use Rattle.state.specs.State.{consumer_at, with_consumers, ranged, staged, reply_of}

-- number 10: consumer not declared
abbrev pub is_declared : Declaration → Bool
is_declared Undeclared = false
is_declared (Declared f) = true

abbrev pub known : Declaration → ℕ → ℕ
known declaration rest = pick (is_declared declaration) rest 10

-- behind 3. "declare belong[s] to gathering": 4. "meter belong[s] to firm", and a mean is given "in stage firm": 4, 10
unfoldable pub consumer_rest : ConsumerCall → Stage → Consumer → ℕ
consumer_rest (Declare d a) stage x = staged Gathering stage 0
consumer_rest (Meter dreal) stage x = staged Firm stage (known x.declaration 0)
consumer_rest (Mean mean) stage x = staged Firm stage (known x.declaration 0)

-- the consumer with a declaration, a reading or a mean in the place of the earlier
abbrev pub declaring : Consumer → ℕ → ℕ → Consumer
declaring x d a = record { declaration = Declared (record { d = d; a = a; df = 0 }); reading = x.reading; mean = x.mean }

abbrev pub metering : Consumer → ℕ → Consumer
metering x dreal = record { declaration = x.declaration; reading = Some dreal; mean = x.mean }

abbrev pub averaging : Consumer → ℕ → Consumer
averaging x mean = record { declaration = x.declaration; reading = x.reading; mean = Some mean }

-- the consumer after a call
unfoldable pub consumer_after : ConsumerCall → Consumer → Consumer
consumer_after (Declare d a) x = declaring x d a
consumer_after (Meter dreal) x = metering x dreal
consumer_after (Mean mean) x = averaging x mean

-- declare: 3, 4; meter, mean: 3, 4, 10
unfoldable pub consumer_number : ℕ → ConsumerCall → Stage → Consumer → ℕ
consumer_number consumer act stage x = ranged (call.Consumer consumer act) [] (consumer_rest act stage x)

-- the book after an accepted call of a consumer
unfoldable pub after_consumer : Book → ℕ → ConsumerCall → Book
after_consumer b consumer act =
    with_consumers b (set b.consumers (consumer - 1) (consumer_after act (consumer_at b.consumers consumer)))

unfoldable pub consumer_of : Book → ℕ → ConsumerCall → Reply
consumer_of b consumer act =
    reply_of (consumer_number consumer act b.stage (consumer_at b.consumers consumer)) b (after_consumer b consumer act)

-- what a call comes to for its consumer
unfoldable pub consumer_answer_of : ℕ → ConsumerCall → Stage → Consumer → Decided Consumer
consumer_answer_of consumer act stage x =
    decided_by (consumer_number consumer act stage x) (consumer_after act x)
