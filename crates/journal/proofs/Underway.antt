-- What holds of a run that is underway, and one turn of it.
use mathlib.Core.Path.{◌≡◌, refl, sym, ap, ◌∙◌}
use mathlib.Core.Bool.{Bool, true, false}
use mathlib.Core.List.{List}
use Prim.Native.Nat.{ℕ, ◌+◌, ◌-◌, ◌^◌, ◌≤◌, ◌<◌}
use native.Mathlib.Omega.{arith}
use lib.Dec.{eqb}
use lib.ListN.{length}
use Rattle.basis.specs.Choice.{pick}
use Rattle.table.specs.declared.calls.Call.{Call}
use Rattle.record.specs.declared.reading.Read.{Read}
use Rattle.record.specs.declared.reading.Read.TheVariants.{End, Cut, Unknown, Record}
use Rattle.record.specs.Reading.{read_at, stop_number, part_of}
use Rattle.state.specs.declared.kept.Book.{Book}
use Rattle.state.specs.State.{Reply, reply_with, fresh_book}
use Rattle.book.specs.Step.{step_of}
use Rattle.journal.specs.declared.outcome.Run.{Run}
use Rattle.journal.specs.declared.outcome.Tally.{Tally}
use Rattle.journal.specs.Run.{started, answered, stopped, run_of}
use Rattle.journal.specs.Tally.{no_tally, tallied, run_with}
use Rattle.journal.proofs.Reading.{next_above, next-within}
use Rattle.journal.proofs.Turns.{turned, run_on, on_record, run_end, run_cut, run_unknown}

-- no record is empty, so that the counts stay below the place; and what is still to come makes the run
pub record Underway (s : List ℕ) (r : Run) : Type 0 where
  pub within : r.place ≤ length s
  pub counts : (r.read ≤ r.place) × (r.accepted ≤ r.read) × (r.refused ≤ r.read)
  pub same : run_on s r ≡ run_of s

pub begins : (s : List ℕ) → Underway s (run_with no_tally fresh_book 0)
unfolding started run_of
begins s = record { within = omega arith; counts = (omega arith, omega arith, omega arith); same = refl }

module _ {s : List ℕ} {r : Run} (u : Underway s r) where
  -- a record that was read and answered
  answered-counts : (t : Bool) → (pick t (r.accepted + 1) r.accepted ≤ r.read + 1) × (pick t r.refused (r.refused + 1) ≤ r.read + 1)
  answered-counts true = (omega (arith, u.counts), omega (arith, u.counts))
  answered-counts false = (omega (arith, u.counts), omega (arith, u.counts))

  pub goes_on : {c : Call} {from next : ℕ} → read_at s r.place ≡ Record c from next → Underway s (turned s r c from next)
  goes_on {c} {from} {next} e =
      let a = next_above s r.place e in
      let n = answered-counts (eqb (step_of r.book c (part_of s from next)).number 0) in
      record {
        within = next-within s r.place e;
        counts = (omega (arith, u.counts), n.0, n.1);
        same = sym (on_record s r e) ∙ u.same;
      }

  -- anything else ends the run
  pub ends : (x : Read) → read_at s r.place ≡ x → r.stop ≡ 0 → ((c : Call) (from next : ℕ) → x ≡ Record c from next → ⊥) → stopped r (stop_number x) ≡ run_of s
  ends End e z h = ap (λ n. stopped r n) (sym z) ∙ sym (run_end (length s) s r e) ∙ u.same
  ends Cut e z h = sym (run_cut (length s) s r e) ∙ u.same
  ends Unknown e z h = sym (run_unknown (length s) s r e) ∙ u.same
  ends (Record c from next) e z h = absurd (h c from next refl)

-- one turn of a tally and a book
module _ {s : List ℕ} {t : Tally} {b : Book} (u : Underway s (run_with t b 0)) {c : Call} {from next : ℕ} (e : read_at s t.place ≡ Record c from next) where
  -- the counts have room for one more
  pub turn_fits : length s < 2 ^ 64 → (t.read + 1 < 2 ^ 64) × (t.accepted + 1 < 2 ^ 64) × (t.refused + 1 < 2 ^ 64)
  turn_fits h =
      let a = next_above s t.place e in
      let b = next-within s t.place e in
      let n = u.counts in
      (omega arith, omega arith, omega arith)

  module _ {t' : Tally} (number : ℕ) (k : t' ≡ tallied t number next) where
    pub turn_to : {b' : Book} {readings : List ℕ} → readings ≡ part_of s from next → reply_with number b' ≡ step_of b c readings → Underway s (run_with t' b' 0)
    turn_to {b'} e' h =
        let w : turned s (run_with t b 0) c from next ≡ run_with t' b' 0 =
        ap (λ (q : Reply). answered (run_with t b 0) q next) (sym (h ∙ ap (step_of b c) e')) ∙ ap (λ (x : Tally). run_with x b' 0) (sym k) in
        rw w at (goes_on u e)

    pub turn_less : length s - t'.place < length s - t.place
    turn_less =
        omega (arith, ap (λ (x : Tally). x.place) k, next_above s t.place e, next-within s t.place e)
