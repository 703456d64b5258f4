-- Where a run ends, and what stands there.
use mathlib.Core.Path.{◌≡◌, refl, ◌∙◌}
use mathlib.Core.List.{List}
use Prim.Native.Nat.{ℕ, zero, suc, ◌+◌, ◌-◌, ◌≤◌, ◌<◌}
use native.Mathlib.Omega.{arith}
use lib.ListN.{length}
use Rattle.record.specs.declared.reading.Read.{Read}
use Rattle.record.specs.declared.reading.Read.TheVariants.{End, Cut, Unknown, Record}
use Rattle.record.specs.Reading.{read_at}
use Rattle.journal.specs.declared.outcome.Run.{Run}
use Rattle.journal.specs.Run.{started, run_from, run_of}
use Rattle.journal.specs.Calls.{calls_of}
use Rattle.journal.specs.Promises.{Ends, RunEnds, ReadLength}
use Rattle.journal.proofs.Reading.{next_above, next-within, end_behind}
use Rattle.journal.proofs.Turns.{turned, run_end, run_cut, run_unknown, run_record}
use Rattle.journal.proofs.Calls.{run_reads}

ends_from : (n : ℕ) (s : List ℕ) (r : Run) → length s - r.place < n → r.place ≤ length s → r.stop ≡ 0 → Ends s (run_from n s r)
ends_from zero s r h k z = absurd (omega arith)
ends_from (suc n) s r h k z = go (read_at s r.place) refl (λ q a b c. ends_from n s q a b c)
  where
    go : (x : Read) → read_at s r.place ≡ x → ((q : Run) → length s - q.place < n → q.place ≤ length s → q.stop ≡ 0 → Ends s (run_from n s q)) → Ends s (run_from (suc n) s r)
    go End e f =
        rw (run_end n s r e)
        (record {
          whole = λ o. omega (arith, end_behind s r.place e);
          cut = λ o. absurd (omega arith);
          unknown = λ o. absurd (omega arith);
          numbers = omega arith;
        })
    go Cut e f =
        rw (run_cut n s r e)
        (record {
          whole = λ o. absurd (omega arith);
          cut = λ o. e;
          unknown = λ o. absurd (omega arith);
          numbers = omega arith;
        })
    go Unknown e f =
        rw (run_unknown n s r e)
        (record {
          whole = λ o. absurd (omega arith);
          cut = λ o. absurd (omega arith);
          unknown = λ o. e;
          numbers = omega arith;
        })
    go (Record c from next) e f =
        let a = next_above s r.place e in
        let b = next-within s r.place e in
        rw (run_record n s r e) (f (turned s r c from next) (omega arith) b z)

pub run_ends : RunEnds
unfolding run_of started
run_ends s = ends_from (suc (length s)) s started (omega arith) (omega arith) refl

-- each record that was read is one call of the list
pub read_length : ReadLength
unfolding run_of calls_of started
read_length s =
    run_reads (λ es r q. q.read ≡ r.read + length es) (λ r. omega arith) (λ r number. omega arith) (λ r q e next es h. omega arith) (suc (length s)) s started
    ∙ omega arith
