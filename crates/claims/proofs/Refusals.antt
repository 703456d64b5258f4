-- Each number is returned exactly under its listed condition.
use mathlib.Core.Path.{◌≡◌}
use mathlib.Core.List.{List, []}
use Prim.Native.Nat.{ℕ}
use Rattle.table.specs.declared.calls.Call.{Call}
use Rattle.table.specs.declared.calls.Call.TheVariants as call
use Rattle.state.specs.declared.kept.Book.{Book}
use Rattle.state.specs.State.{fresh_book}
use Rattle.gathering.specs.Units.{unit_of}
use Rattle.decision.specs.Consumers.{consumer_of}
use Rattle.decision.specs.ContractCalls.{contract_of}
use Rattle.fix.specs.Fix.{fix_of}
use Rattle.close.specs.Close.{close_of}
use Rattle.book.specs.Year.{year_of}
use Rattle.book.specs.Step.{step_of}
use Rattle.book.specs.Lists.{Event, after_all, accepted_by}
use Rattle.claims.specs.Refusals.{number_in, ExactRefusals}
use Rattle.claims.proofs.Kept.{Kept}
use Rattle.claims.proofs.Year.{year_exact}
use Rattle.claims.proofs.Fixing.{fix_exact}
use Rattle.claims.proofs.Closing.{close_exact}
use Rattle.claims.proofs.UnitCalls.{unit_exact}
use Rattle.claims.proofs.ConsumerCalls.{consumer_exact}
use Rattle.claims.proofs.ContractCalls.{contract_exact}
use Rattle.claims.proofs.Lists.{kept}

exact : (h : List Event) (b : Book) → Kept h b → (c : Call) (rs : List ℕ) → (step_of b c rs).number ≡ number_in h c rs
unfolding step_of year_of fix_of close_of unit_of consumer_of contract_of
exact h b k (call.Year hours) rs = year_exact h b k hours rs
exact h b k (call.Fix dmp) rs = fix_exact h b k dmp rs
exact h b k (call.Close p) rs = close_exact h b k p rs
exact h b k (call.Unit unit act) rs = unit_exact h b k unit act rs
exact h b k (call.Consumer consumer act) rs = consumer_exact h b k consumer act rs
exact h b k (call.Contract producer consumer act) rs = contract_exact h b k producer consumer act rs

-- after every list of calls
pub exact_refusals : ExactRefusals
exact_refusals calls next =
    exact (accepted_by fresh_book [] calls) (after_all fresh_book calls) (kept calls) next.call next.readings
