-- A journal without marks for consumers above 64 runs as it did, and so does one that the converter takes.
use mathlib.Core.Path.{◌≡◌, refl, sym, ap, ◌∙◌}
use mathlib.Core.Bool.{Bool, true, false, false≢true}
use mathlib.Core.List.{List, [], ◌∷◌, map}
use Prim.Native.Nat.{ℕ, zero, suc, ◌≤◌}
use native.Mathlib.Omega.{arith}
use borrow.Author.Tests.{eqb-true}
use lib.Dec.{eqb}
use lib.ListN.{length}
use Rattle.std.specs.Prelude.{Option, None}
use Rattle.std.proofs.lemmas.List.{drop_all}
use Rattle.basis.specs.Choice.{pick}
use Rattle.basis.specs.Numbers.{number}
use Rattle.table.specs.Records.{mark_at, table_of}
use Rattle.table.specs.Ranges.{rest_in_range, call_number}
use Rattle.table.specs.Old.{old_call_number, renewed}
use Rattle.table.specs.declared.calls.Call.{Call}
use Rattle.table.specs.declared.calls.Call.TheVariants.{Year, Fix, Close, Unit, Consumer, Contract}
use Rattle.table.proofs.Old.{meets_as_before}
use Rattle.record.specs.declared.reading.Read.{Read}
use Rattle.record.specs.declared.reading.Read.TheVariants.{End, Cut, Unknown, Record}
use Rattle.record.specs.Reading.{read_at, part_of, wide_at}
use Rattle.record.specs.Old.{old_read_at, renewed_read}
use Rattle.record.proofs.Old.{reads_as_before}
use Rattle.narrow.specs.declared.Stopped.{Stopped}
use Rattle.narrow.specs.Narrow.{stopped_at, narrow_from, narrow_stop}
use Rattle.narrow.proofs.Turns.{narrow-cut, narrow-unknown, narrow-record}
use Rattle.state.specs.declared.kept.Book.{Book}
use Rattle.state.specs.State.{Reply, reply_with, reply_of}
use Rattle.gathering.specs.Units.{unit_number, unit_of}
use Rattle.decision.specs.Consumers.{consumer_number, consumer_of}
use Rattle.decision.specs.ContractCalls.{contract_number, contract_of}
use Rattle.fix.specs.Fix.{fix_number_by, fix_of}
use Rattle.close.specs.Close.{close_number_by, close_of}
use Rattle.book.specs.Year.{year_number_by, year_of}
use Rattle.book.specs.Step.{step_of}
use Rattle.journal.specs.declared.outcome.Run.{Run}
use Rattle.journal.specs.Run.{started, answered, stopped, run_from, run_of}
use Rattle.journal.specs.Calls.{Recorded, records_from}
use Rattle.journal.proofs.Reading.{end_behind}
use Rattle.journal.proofs.Turns.{turned, run_end, run_cut, run_unknown, run_record}
use Rattle.journal.proofs.Calls.{event, records_end, records_cut, records_unknown, records_more}
use Rattle.claims.specs.Before.{old_step, old_run_from, old_run_of, old_records_from, renewed_record, meets_none_from, meets_none, AsBefore, NarrowReadsAlike}

-- a call out of its ranges is refused with that number, whatever comes behind
out_of_range : (m n rest : ℕ) (b new : Book) → m ≡ n → eqb n 0 ≡ false → reply_of (pick (eqb m 0) rest m) b new ≡ reply_with n b
out_of_range m n rest b new e h =
    ap (λ k. reply_of (pick (eqb k 0) rest k) b new) e
    ∙ ap (λ t. reply_of (pick t rest n) b new) h
    ∙ ap (λ t. reply_with n (pick t new b)) h

range_refused : (b : Book) (c : Call) (rs : List ℕ) (n : ℕ) → call_number c rs ≡ n → eqb n 0 ≡ false → step_of b c rs ≡ reply_with n b
unfolding step_of year_of fix_of close_of unit_of consumer_of contract_of year_number_by fix_number_by close_number_by unit_number consumer_number contract_number call_number rest_in_range
range_refused b (Year h) rs n e q = out_of_range (call_number (Year h) []) n _ b _ e q
range_refused b (Fix dmp) rs n e q = out_of_range (call_number (Fix dmp) []) n _ b _ e q
range_refused b (Close p) rs n e q = out_of_range (call_number (Close p) []) n _ b _ e q
range_refused b (Unit unit act) rs n e q = out_of_range (call_number (Unit unit act) rs) n _ b _ e q
range_refused b (Consumer consumer act) rs n e q = out_of_range (call_number (Consumer consumer act) []) n _ b _ e q
range_refused b (Contract producer consumer act) rs n e q = out_of_range (call_number (Contract producer consumer act) []) n _ b _ e q

-- a call as it is now comes to what it came to
step_renewed : (b : Book) (c : Call) (rs : List ℕ) → step_of b (renewed c) rs ≡ old_step b c rs
step_renewed b c rs = go (eqb (old_call_number c rs) 0) refl
  where
    go : (t : Bool) → eqb (old_call_number c rs) 0 ≡ t → step_of b (renewed c) rs ≡ pick t (step_of b c rs) (reply_with (old_call_number c rs) b)
    go true q = ap (λ (d : Call). step_of b d rs) ((meets_as_before c rs).same (eqb-true (old_call_number c rs) 0 q))
    go false q = range_refused b (renewed c) rs (old_call_number c rs) (meets_as_before c rs).number q

-- behind the journal's end no mark stands
end_bare : (s : List ℕ) (at : ℕ) → length s ≤ at → wide_at s at ≡ false
unfolding wide_at mark_at table_of number
end_bare s at h = rw (drop_all at s h) refl

module _ (n : ℕ) (s : List ℕ) where
  -- each case of the old reading
  module _ (r : Run) where
    old-run-end : old_read_at s r.place ≡ End → old_run_from (suc n) s r ≡ r
    unfolding old_run_from
    old-run-end e = rw (e, old_run_from)

    old-run-cut : old_read_at s r.place ≡ Cut → old_run_from (suc n) s r ≡ stopped r 1
    unfolding old_run_from
    old-run-cut e = rw (e, old_run_from)

    old-run-unknown : old_read_at s r.place ≡ Unknown → old_run_from (suc n) s r ≡ stopped r 2
    unfolding old_run_from
    old-run-unknown e = rw (e, old_run_from)

    old-run-record : {c : Call} {from next : ℕ} → old_read_at s r.place ≡ Record c from next → old_run_from (suc n) s r ≡ old_run_from n s (answered r (old_step r.book c (part_of s from next)) next)
    unfolding old_run_from
    old-run-record e = rw (e, old_run_from)

  module _ (at : ℕ) where
    old-records-end : old_read_at s at ≡ End → old_records_from (suc n) s at ≡ []
    unfolding old_records_from
    old-records-end e = rw (e, old_records_from)

    old-records-cut : old_read_at s at ≡ Cut → old_records_from (suc n) s at ≡ []
    unfolding old_records_from
    old-records-cut e = rw (e, old_records_from)

    old-records-unknown : old_read_at s at ≡ Unknown → old_records_from (suc n) s at ≡ []
    unfolding old_records_from
    old-records-unknown e = rw (e, old_records_from)

    old-records-more : {c : Call} {from next : ℕ} → old_read_at s at ≡ Record c from next → old_records_from (suc n) s at ≡ record { place = at; event = event s c from next } ∷ old_records_from n s next
    unfolding old_records_from
    old-records-more e = rw (e, old_records_from)

    -- and of a reading that meets no mark for consumers above 64
    none-here : meets_none_from (suc n) s at ≡ true → wide_at s at ≡ false
    unfolding meets_none_from
    none-here e = go (wide_at s at) _ refl e
      where
        go : (t rest : Bool) → wide_at s at ≡ t → pick t false rest ≡ true → wide_at s at ≡ false
        go true rest q f = absurd (false≢true f)
        go false rest q f = q

    none-next : {c : Call} {from next : ℕ} → read_at s at ≡ Record c from next → wide_at s at ≡ false → meets_none_from (suc n) s at ≡ meets_none_from n s next
    unfolding meets_none_from
    none-next e h = rw (h, e, meets_none_from)

    none-end : read_at s at ≡ End → wide_at s at ≡ false → meets_none_from (suc n) s at ≡ true
    unfolding meets_none_from
    none-end e h = rw (h, e, meets_none_from)

module _ (s : List ℕ) where
  -- the run, turn by turn
  run_before : (n : ℕ) (r : Run) → meets_none_from n s r.place ≡ true → run_from n s r ≡ old_run_from n s r
  unfolding run_from old_run_from
  run_before zero r e = refl
  run_before (suc n) r e = go (old_read_at s r.place) refl (λ q f. run_before n q f)
    where
      bare : wide_at s r.place ≡ false
      bare = none-here n s r.place e

      go : (x : Read) → old_read_at s r.place ≡ x → ((q : Run) → meets_none_from n s q.place ≡ true → run_from n s q ≡ old_run_from n s q) → run_from (suc n) s r ≡ old_run_from (suc n) s r
      go End o f = run_end n s r (reads_as_before s r.place bare ∙ ap renewed_read o) ∙ sym (old-run-end n s r o)
      go Cut o f = run_cut n s r (reads_as_before s r.place bare ∙ ap renewed_read o) ∙ sym (old-run-cut n s r o)
      go Unknown o f = run_unknown n s r (reads_as_before s r.place bare ∙ ap renewed_read o) ∙ sym (old-run-unknown n s r o)
      go (Record c from next) o f =
          let k = reads_as_before s r.place bare ∙ ap renewed_read o in
          run_record n s r k
          ∙ ap (λ (q : Reply). run_from n s (answered r q next)) (step_renewed r.book c (part_of s from next))
          ∙ f (answered r (old_step r.book c (part_of s from next)) next) (sym (none-next n s r.place k bare) ∙ e)
          ∙ sym (old-run-record n s r o)

  -- its records
  records_before : (n at : ℕ) → meets_none_from n s at ≡ true → records_from n s at ≡ map renewed_record (old_records_from n s at)
  unfolding records_from old_records_from
  records_before zero at e = refl
  records_before (suc n) at e = go (old_read_at s at) refl (λ next f. records_before n next f)
    where
      bare : wide_at s at ≡ false
      bare = none-here n s at e

      go : (x : Read) → old_read_at s at ≡ x → ((next : ℕ) → meets_none_from n s next ≡ true → records_from n s next ≡ map renewed_record (old_records_from n s next)) → records_from (suc n) s at ≡ map renewed_record (old_records_from (suc n) s at)
      go End o f = records_end n s at (reads_as_before s at bare ∙ ap renewed_read o) ∙ ap (map renewed_record) (sym (old-records-end n s at o))
      go Cut o f = records_cut n s at (reads_as_before s at bare ∙ ap renewed_read o) ∙ ap (map renewed_record) (sym (old-records-cut n s at o))
      go Unknown o f = records_unknown n s at (reads_as_before s at bare ∙ ap renewed_read o) ∙ ap (map renewed_record) (sym (old-records-unknown n s at o))
      go (Record c from next) o f =
          let k = reads_as_before s at bare ∙ ap renewed_read o in
          records_more n s at k
          ∙ ap (λ (l : List Recorded). record { place = at; event = event s (renewed c) from next } ∷ l) (f next (sym (none-next n s at k bare) ∙ e))
          ∙ ap (map renewed_record) (sym (old-records-more n s at o))

  -- where the converter meets no number, the reading meets no mark for consumers above 64 and goes to the end
  not_stopped : {place n : ℕ} → stopped_at place n ≡ None → ⊥
  not_stopped e = let z : ◌≡◌ {A = ℕ} 0 1 = cc in omega arith

  bare_on : (t : Bool) (place : ℕ) (rest : Option Stopped) → pick t (stopped_at place 18) rest ≡ None → (t ≡ false) × (rest ≡ None)
  bare_on true place rest e = absurd (not_stopped e)
  bare_on false place rest e = (refl, e)

  none_met : (n at : ℕ) → narrow_from n s at ≡ None → meets_none_from n s at ≡ true
  unfolding meets_none_from
  none_met zero at e = refl
  none_met (suc n) at e = go (read_at s at) refl (λ next f. none_met n next f)
    where
      go : (x : Read) → read_at s at ≡ x → ((next : ℕ) → narrow_from n s next ≡ None → meets_none_from n s next ≡ true) → meets_none_from (suc n) s at ≡ true
      go End k f = none-end n s at k (end_bare s at (end_behind s at k))
      go Cut k f = absurd (not_stopped (sym (narrow-cut n s at k) ∙ e))
      go Unknown k f = absurd (not_stopped (sym (narrow-unknown n s at k) ∙ e))
      go (Record c from next) k f =
          let w = bare_on (wide_at s at) at (narrow_from n s next) (sym (narrow-record n s at k) ∙ e) in
          none-next n s at k w.0 ∙ f next w.1

  whole_run : (n : ℕ) (r : Run) → narrow_from n s r.place ≡ None → r.stop ≡ 0 → (run_from n s r).stop ≡ 0
  unfolding run_from
  whole_run zero r e z = z
  whole_run (suc n) r e z = go (read_at s r.place) refl (λ q f y. whole_run n q f y)
    where
      go : (x : Read) → read_at s r.place ≡ x → ((q : Run) → narrow_from n s q.place ≡ None → q.stop ≡ 0 → (run_from n s q).stop ≡ 0) → (run_from (suc n) s r).stop ≡ 0
      go End k f = ap (λ (q : Run). q.stop) (run_end n s r k) ∙ z
      go Cut k f = absurd (not_stopped (sym (narrow-cut n s r.place k) ∙ e))
      go Unknown k f = absurd (not_stopped (sym (narrow-unknown n s r.place k) ∙ e))
      go (Record c from next) k f =
          let w = bare_on (wide_at s r.place) r.place (narrow_from n s next) (sym (narrow-record n s r.place k) ∙ e) in
          ap (λ (q : Run). q.stop) (run_record n s r k) ∙ f (turned s r c from next) w.1 z

pub as_before : AsBefore
unfolding meets_none run_of old_run_of started
as_before s e =
    record {
      records = records_before s (suc (length s)) 0 e;
      run = run_before s (suc (length s)) started e;
    }

pub narrow_reads_alike : NarrowReadsAlike
unfolding meets_none narrow_stop run_of started
narrow_reads_alike s e =
    let none = none_met s (suc (length s)) 0 e in
    let before = as_before s none in
    record {
      none_met = none;
      before = before;
      whole = ap (λ (q : Run). q.stop) (sym before.run) ∙ whole_run s (suc (length s)) started e refl;
    }
