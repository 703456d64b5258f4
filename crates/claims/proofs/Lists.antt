-- Every call keeps what is kept, and so does every list of calls.
use mathlib.Core.Path.{◌≡◌, refl}
use mathlib.Core.Bool.{Bool, true, false}
use mathlib.Core.List.{List, [], ◌∷◌}
use Prim.Native.Nat.{ℕ}
use borrow.Author.Tests.{eqb-true}
use lib.Dec.{eqb}
use Rattle.basis.specs.Choice.{pick}
use Rattle.table.specs.declared.calls.Call.{Call}
use Rattle.table.specs.declared.calls.Call.TheVariants as call
use Rattle.state.specs.declared.kept.Book.{Book}
use Rattle.state.specs.State.{fresh_book, unit_at, consumer_at}
use Rattle.gathering.specs.Units.{unit_number, after_unit, unit_of}
use Rattle.decision.specs.Consumers.{consumer_number, after_consumer, consumer_of}
use Rattle.decision.specs.ContractCalls.{contract_number, after_contract, contract_of}
use Rattle.fix.specs.Fix.{fix_number, fixed, fix_of}
use Rattle.close.specs.Close.{close_number, closed, close_of}
use Rattle.book.specs.Year.{year_number, begun, year_of}
use Rattle.book.specs.Step.{step_of}
use Rattle.book.specs.Lists.{Event, reply_to, after_all, accepted_by}
use Rattle.claims.proofs.Kept.{Kept}
use Rattle.claims.proofs.Fresh.{fresh_kept}
use Rattle.claims.proofs.Year.{year_kept}
use Rattle.claims.proofs.Fixing.{fix_kept}
use Rattle.claims.proofs.Closing.{close_kept}
use Rattle.claims.proofs.UnitCalls.{unit_kept}
use Rattle.claims.proofs.ConsumerCalls.{consumer_kept}
use Rattle.claims.proofs.ContractCalls.{contract_kept}

-- a refused call leaves the book and the history
either_way : (h : List Event) (b : Book) (k : Kept h b) (e : Event) (n : ℕ) (new : Book) → (n ≡ 0 → Kept (e ∷ h) new) → Kept (pick (eqb n 0) (e ∷ h) h) (pick (eqb n 0) new b)
either_way h b k e n new f = go (eqb n 0) refl
  where
    go : (t : Bool) → eqb n 0 ≡ t → Kept (pick t (e ∷ h) h) (pick t new b)
    go true q = f (eqb-true n 0 q)
    go false q = k

step_kept : (h : List Event) (b : Book) → Kept h b → (c : Call) (rs : List ℕ) → Kept (pick (eqb (step_of b c rs).number 0) (record { call = c; readings = rs } ∷ h) h) (step_of b c rs).book
unfolding step_of year_of fix_of close_of unit_of consumer_of contract_of
step_kept h b k (call.Year hours) rs =
    either_way h b k (record { call = call.Year hours; readings = rs }) (year_number b hours) (begun b hours) (year_kept h b k hours rs)
step_kept h b k (call.Fix dmp) rs =
    either_way h b k (record { call = call.Fix dmp; readings = rs }) (fix_number b dmp) (fixed b dmp) (fix_kept h b k dmp rs)
step_kept h b k (call.Close p) rs =
    either_way h b k (record { call = call.Close p; readings = rs }) (close_number b p) (closed b p) (close_kept h b k p rs)
step_kept h b k (call.Unit unit act) rs =
    either_way h b k (record { call = call.Unit unit act; readings = rs }) (unit_number unit act b.stage (unit_at b.units unit) rs) (after_unit b unit act rs) (unit_kept h b k unit act rs)
step_kept h b k (call.Consumer consumer act) rs =
    either_way h b k (record { call = call.Consumer consumer act; readings = rs }) (consumer_number consumer act b.stage (consumer_at b.consumers consumer)) (after_consumer b consumer act) (consumer_kept h b k consumer act rs)
step_kept h b k (call.Contract producer consumer act) rs =
    either_way h b k (record { call = call.Contract producer consumer act; readings = rs }) (contract_number producer consumer act b.stage (consumer_at b.consumers consumer).declaration b.balances b.limits) (after_contract b producer consumer act) (contract_kept h b k producer consumer act rs)

pub all_kept : (calls : List Event) (h : List Event) (b : Book) → Kept h b → Kept (accepted_by b h calls) (after_all b calls)
unfolding accepted_by after_all
all_kept [] h b k = k
all_kept (e ∷ es) h b k =
    all_kept es (pick (eqb (reply_to b e).number 0) (e ∷ h) h) (reply_to b e).book (step_kept h b k e.call e.readings)

pub kept : (calls : List Event) → Kept (accepted_by fresh_book [] calls) (after_all fresh_book calls)
kept calls = all_kept calls [] fresh_book fresh_kept
