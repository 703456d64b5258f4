-- Any call on a book.
use Rattle.std.specs.Prelude.{List, ℕ}
use Rattle.table.specs.declared.calls.Call.{Call}
use Rattle.table.specs.declared.calls.Call.TheVariants as call
use Rattle.state.specs.declared.kept.Book.{Book}
use Rattle.state.specs.State.{Reply}
use Rattle.fix.specs.Fix.{fix_of}
use Rattle.close.specs.Close.{close_of}
use Rattle.gathering.specs.Units.{unit_of}
use Rattle.decision.specs.Consumers.{consumer_of}
use Rattle.decision.specs.ContractCalls.{contract_of}
use Rattle.book.specs.Year.{year_of}

unfoldable pub step_of : Book → Call → List ℕ → Reply
step_of b (call.Year hours) readings = year_of b hours
step_of b (call.Fix dmp) readings = fix_of b dmp
step_of b (call.Close p) readings = close_of b p
step_of b (call.Unit unit act) readings = unit_of b unit act readings
step_of b (call.Consumer consumer act) readings = consumer_of b consumer act
step_of b (call.Contract producer consumer act) readings = contract_of b producer consumer act
