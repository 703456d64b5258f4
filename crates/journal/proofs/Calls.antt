-- The run's book is the book after the list of the calls that it read.
use mathlib.Core.Path.{◌≡◌, refl, ap}
use mathlib.Core.List.{List, [], ◌∷◌, map}
use Prim.Native.Nat.{ℕ, zero, suc}
use lib.ListN.{length}
use Rattle.table.specs.declared.calls.Call.{Call}
use Rattle.record.specs.declared.reading.Read.{Read}
use Rattle.record.specs.declared.reading.Read.TheVariants.{End, Cut, Unknown, Record}
use Rattle.record.specs.Reading.{read_at, part_of}
use Rattle.state.specs.declared.kept.Book.{Book}
use Rattle.state.specs.State.{fresh_book}
use Rattle.book.specs.Lists.{Event, reply_to, after_all}
use Rattle.journal.specs.declared.outcome.Run.{Run}
use Rattle.journal.specs.Run.{started, answered, stopped, run_from, run_of}
use Rattle.journal.specs.Calls.{Recorded, records_from, calls_from, places_from, calls_of, numbers_after}
use Rattle.journal.proofs.Turns.{turned, run_end, run_cut, run_unknown, run_record}

abbrev pub event : List ℕ → Call → ℕ → ℕ → Event
event s c from next = record { call = c; readings = part_of s from next }

module _ (n : ℕ) (s : List ℕ) (at : ℕ) where
  pub records_end : read_at s at ≡ End → records_from (suc n) s at ≡ []
  unfolding records_from
  records_end e = rw (e, records_from)

  pub records_cut : read_at s at ≡ Cut → records_from (suc n) s at ≡ []
  unfolding records_from
  records_cut e = rw (e, records_from)

  pub records_unknown : read_at s at ≡ Unknown → records_from (suc n) s at ≡ []
  unfolding records_from
  records_unknown e = rw (e, records_from)

  pub records_more : {c : Call} {from next : ℕ} → read_at s at ≡ Record c from next → records_from (suc n) s at ≡ record { place = at; event = event s c from next } ∷ records_from n s next
  unfolding records_from
  records_more e = rw (e, records_from)

  pub calls_end : read_at s at ≡ End → calls_from (suc n) s at ≡ []
  unfolding calls_from
  calls_end e = ap (map (λ (r : Recorded). r.event)) (records_end e)

  pub calls_cut : read_at s at ≡ Cut → calls_from (suc n) s at ≡ []
  unfolding calls_from
  calls_cut e = ap (map (λ (r : Recorded). r.event)) (records_cut e)

  pub calls_unknown : read_at s at ≡ Unknown → calls_from (suc n) s at ≡ []
  unfolding calls_from
  calls_unknown e = ap (map (λ (r : Recorded). r.event)) (records_unknown e)

  pub calls_record : {c : Call} {from next : ℕ} → read_at s at ≡ Record c from next → calls_from (suc n) s at ≡ event s c from next ∷ calls_from n s next
  unfolding calls_from
  calls_record e = ap (map (λ (r : Recorded). r.event)) (records_more e)

  pub places_end : read_at s at ≡ End → places_from (suc n) s at ≡ []
  unfolding places_from
  places_end e = ap (map (λ (r : Recorded). r.place)) (records_end e)

  pub places_cut : read_at s at ≡ Cut → places_from (suc n) s at ≡ []
  unfolding places_from
  places_cut e = ap (map (λ (r : Recorded). r.place)) (records_cut e)

  pub places_unknown : read_at s at ≡ Unknown → places_from (suc n) s at ≡ []
  unfolding places_from
  places_unknown e = ap (map (λ (r : Recorded). r.place)) (records_unknown e)

  pub places_record : {c : Call} {from next : ℕ} → read_at s at ≡ Record c from next → places_from (suc n) s at ≡ at ∷ places_from n s next
  unfolding places_from
  places_record e = ap (map (λ (r : Recorded). r.place)) (records_more e)

-- what holds of a run that ends or stops, and of one more record where it holds behind it, holds of every run and the calls that it reads
module _ (P : List Event → Run → Run → Type 0) (ends : (r : Run) → P [] r r) (stops : (r : Run) (number : ℕ) → P [] r (stopped r number)) (turns : (r q : Run) (e : Event) (next : ℕ) (es : List Event) → P es (answered r (reply_to r.book e) next) q → P (e ∷ es) r q) where
  pub run_reads : (n : ℕ) (s : List ℕ) (r : Run) → P (calls_from n s r.place) r (run_from n s r)
  unfolding run_from calls_from records_from
  run_reads zero s r = ends r
  run_reads (suc n) s r = go (read_at s r.place) refl (λ q. run_reads n s q)
    where
      go : (x : Read) → read_at s r.place ≡ x → ((q : Run) → P (calls_from n s q.place) q (run_from n s q)) → P (calls_from (suc n) s r.place) r (run_from (suc n) s r)
      go End e f = rw (run_end n s r e, calls_end n s r.place e) (ends r)
      go Cut e f = rw (run_cut n s r e, calls_cut n s r.place e) (stops r 1)
      go Unknown e f = rw (run_unknown n s r e, calls_unknown n s r.place e) (stops r 2)
      go (Record c from next) e f =
          rw (run_record n s r e, calls_record n s r.place e)
          (turns r (run_from n s (turned s r c from next)) (event s c from next) next (calls_from n s next) (f (turned s r c from next)))

pub run_book : (s : List ℕ) → after_all fresh_book (calls_of s) ≡ (run_of s).book
unfolding after_all calls_of run_of started
run_book s =
    run_reads (λ es r q. after_all r.book es ≡ q.book) (λ r. refl) (λ r number. refl) (λ r q e next es h. h) (suc (length s)) s started

-- as many numbers as calls
pub length-numbers : (b : Book) (es : List Event) → length (numbers_after b es) ≡ length es
unfolding numbers_after
length-numbers b [] = refl
length-numbers b (e ∷ es) = ap suc (length-numbers (reply_to b e).book es)
