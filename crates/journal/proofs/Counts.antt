-- What every run keeps: its counts, its place, and the first refused place.
use mathlib.Core.Path.{◌≡◌, refl}
use mathlib.Core.Bool.{Bool, true, false}
use mathlib.Core.List.{List}
use Prim.Native.Nat.{ℕ, zero, suc, ◌+◌}
use native.Mathlib.Omega.{arith}
use lib.Dec.{eqb}
use lib.ListN.{length}
use Rattle.record.specs.declared.reading.Read.{Read}
use Rattle.record.specs.declared.reading.Read.TheVariants.{End, Cut, Unknown, Record}
use Rattle.record.specs.Reading.{read_at, part_of}
use Rattle.state.specs.State.{Reply}
use Rattle.book.specs.Step.{step_of}
use Rattle.journal.specs.declared.outcome.Run.{Run}
use Rattle.journal.specs.Run.{started, answered, stopped, run_from, run_of}
use Rattle.journal.proofs.Turns.{turned, run_end, run_cut, run_unknown, run_record}

-- what an answered record and a stop keep, the run keeps
module _ (P : Run → Type 0) (s : List ℕ) (answers : (r : Run) (reply : Reply) (next : ℕ) → P r → P (answered r reply next)) (stops : (r : Run) (number : ℕ) → P r → P (stopped r number)) where
  pub run_keeps : (n : ℕ) (r : Run) → P r → P (run_from n s r)
  unfolding run_from
  run_keeps zero r h = h
  run_keeps (suc n) r h = go (read_at s r.place) refl (λ q k. run_keeps n q k)
    where
      go : (x : Read) → read_at s r.place ≡ x → ((q : Run) → P q → P (run_from n s q)) → P (run_from (suc n) s r)
      go End e f = rw (run_end n s r e) h
      go Cut e f = rw (run_cut n s r e) (stops r 1 h)
      go Unknown e f = rw (run_unknown n s r e) (stops r 2 h)
      go (Record c from next) e f =
          rw (run_record n s r e) (f (turned s r c from next) (answers r (step_of r.book c (part_of s from next)) next h))

-- read = accepted + refused
pub record Counted (r : Run) : Type 0 where
  pub counts : r.read ≡ r.accepted + r.refused

counted-answer : (r : Run) (reply : Reply) (next : ℕ) → Counted r → Counted (answered r reply next)
counted-answer r reply next h = go (eqb reply.number 0) refl
  where
    go : (t : Bool) → eqb reply.number 0 ≡ t → Counted (answered r reply next)
    go true e = record { counts = rw e (omega (arith, h.counts)) }
    go false e = record { counts = rw e (omega (arith, h.counts)) }

pub read-counts : (s : List ℕ) → (run_of s).read ≡ (run_of s).accepted + (run_of s).refused
unfolding run_of started
read-counts s =
    (run_keeps Counted s counted-answer (λ r number h. record { counts = h.counts }) (suc (length s)) started (record { counts = refl })).counts
