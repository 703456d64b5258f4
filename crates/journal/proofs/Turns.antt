-- Turns of the run: what each case of the reading gives, and that as many turns as are enough give the same.
use mathlib.Core.Path.{◌≡◌, refl, sym, ap, ◌∙◌}
use mathlib.Core.List.{List, ◌++◌}
use Prim.Native.Nat.{ℕ, zero, suc, ◌-◌, ◌<◌}
use native.Mathlib.Omega.{arith}
use lib.ListN.{length}
use Rattle.table.specs.declared.calls.Call.{Call}
use Rattle.record.specs.declared.reading.Read.{Read}
use Rattle.record.specs.declared.reading.Read.TheVariants.{End, Cut, Unknown, Record}
use Rattle.record.specs.Reading.{read_at, part_of}
use Rattle.book.specs.Step.{step_of}
use Rattle.journal.specs.declared.outcome.Run.{Run}
use Rattle.journal.specs.Run.{started, answered, stopped, run_from, run_of}
use Rattle.journal.proofs.Reading.{next_above, next-within, read_more, part_more}

-- the run after the record at its place
abbrev pub turned : List ℕ → Run → Call → ℕ → ℕ → Run
turned s r call readings next = answered r (step_of r.book call (part_of s readings next)) next

module _ (n : ℕ) (s : List ℕ) (r : Run) where
  pub run_end : read_at s r.place ≡ End → run_from (suc n) s r ≡ r
  unfolding run_from
  run_end e = rw (e, run_from)

  pub run_cut : read_at s r.place ≡ Cut → run_from (suc n) s r ≡ stopped r 1
  unfolding run_from
  run_cut e = rw (e, run_from)

  pub run_unknown : read_at s r.place ≡ Unknown → run_from (suc n) s r ≡ stopped r 2
  unfolding run_from
  run_unknown e = rw (e, run_from)

  pub run_record : {c : Call} {from next : ℕ} → read_at s r.place ≡ Record c from next → run_from (suc n) s r ≡ run_from n s (turned s r c from next)
  unfolding run_from
  run_record e = rw (e, run_from)

-- the turns still due are enough: more of them give the same
pub run_enough : (m n : ℕ) (s : List ℕ) (r : Run) → length s - r.place < m → length s - r.place < n → run_from m s r ≡ run_from n s r
run_enough zero n s r h k = absurd (omega arith)
run_enough (suc m) zero s r h k = absurd (omega arith)
run_enough (suc m) (suc n) s r h k =
    go (read_at s r.place) refl (λ q a b. run_enough m n s q a b)
  where
    go : (x : Read) → read_at s r.place ≡ x → ((q : Run) → length s - q.place < m → length s - q.place < n → run_from m s q ≡ run_from n s q) → run_from (suc m) s r ≡ run_from (suc n) s r
    go End e f = run_end m s r e ∙ sym (run_end n s r e)
    go Cut e f = run_cut m s r e ∙ sym (run_cut n s r e)
    go Unknown e f = run_unknown m s r e ∙ sym (run_unknown n s r e)
    go (Record c from next) e f =
        let a = next_above s r.place e in
        let b = next-within s r.place e in
        run_record m s r e ∙ f (turned s r c from next) (omega arith) (omega arith) ∙ sym (run_record n s r e)

-- the run from where it stands to its end
abbrev pub run_on : List ℕ → Run → Run
run_on s r = run_from (suc (length s)) s r

pub on_record : (s : List ℕ) (r : Run) {c : Call} {from next : ℕ} → read_at s r.place ≡ Record c from next → run_on s r ≡ run_on s (turned s r c from next)
on_record s r {c} {from} {next} e =
    let a = next_above s r.place e in
    let b = next-within s r.place e in
    run_record (length s) s r e ∙ run_enough (length s) (suc (length s)) s (turned s r c from next) (omega arith) (omega arith)

-- the run of a journal's beginning, up to its end without a stop, is the beginning of the run
run_append : (n : ℕ) (s more : List ℕ) (r : Run) → length s - r.place < n → (run_from n s r).stop ≡ 0 → run_on (s ++ more) r ≡ run_on (s ++ more) (run_from n s r)
run_append zero s more r h z = absurd (omega arith)
run_append (suc n) s more r h z = go (read_at s r.place) refl (λ q a b. run_append n s more q a b)
  where
    go : (x : Read) → read_at s r.place ≡ x → ((q : Run) → length s - q.place < n → (run_from n s q).stop ≡ 0 → run_on (s ++ more) q ≡ run_on (s ++ more) (run_from n s q)) → run_on (s ++ more) r ≡ run_on (s ++ more) (run_from (suc n) s r)
    go End e f = ap (run_on (s ++ more)) (sym (run_end n s r e))
    go Cut e f = absurd (omega (arith, ap (λ (q : Run). q.stop) (run_cut n s r e)))
    go Unknown e f = absurd (omega (arith, ap (λ (q : Run). q.stop) (run_unknown n s r e)))
    go (Record c from next) e f =
        let a = next_above s r.place e in
        let b = next-within s r.place e in
        let q : Run = turned s r c from next in
        let w : run_from (suc n) s r ≡ run_from n s q = run_record n s r e in
        on_record (s ++ more) r (read_more s r.place e more)
        ∙ ap (λ (l : List ℕ). run_on (s ++ more) (answered r (step_of r.book c l) next)) (part_more s r.place e more)
        ∙ f q (omega arith) (omega (arith, ap (λ (p : Run). p.stop) w))
        ∙ ap (run_on (s ++ more)) (sym w)

pub run_beginning : (s more : List ℕ) → (run_of s).stop ≡ 0 → run_of (s ++ more) ≡ run_on (s ++ more) (run_of s)
unfolding run_of
run_beginning s more z = run_append (suc (length s)) s more started (omega arith) z
