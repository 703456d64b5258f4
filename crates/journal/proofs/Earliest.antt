-- The counts of the replies, and that the record which a run names is the first refused one in the journal.
use Rattle.std.specs.Prelude.{Option, None, Some, not, count_by}
use Rattle.std.proofs.lemmas.List.Sums.{sum_by-cons}
use mathlib.Core.Path.{◌≡◌, refl, sym, ap, ◌∙◌}
use mathlib.Core.Bool.{Bool, true, false, cond}
use mathlib.Core.List.{List, [], ◌∷◌}
use Prim.Native.Nat.{ℕ, zero, suc, ◌+◌, ◌≤◌, ◌<◌}
use native.Mathlib.Omega.{arith}
use borrow.Author.Tests.{eqb-true}
use lib.Dec.{eqb}
use lib.ListN.{length, get_or}
use Rattle.record.specs.declared.reading.Read.{Read}
use Rattle.record.specs.declared.reading.Read.TheVariants.{End, Cut, Unknown, Record}
use Rattle.record.specs.Reading.{read_at}
use Rattle.basis.specs.Choice.{pick}
use Rattle.book.specs.Lists.{Event, reply_to}
use Rattle.journal.specs.declared.outcome.Refused.{Refused}
use Rattle.journal.specs.declared.outcome.Run.{Run}
use Rattle.journal.specs.Run.{started, answered, run_of}
use Rattle.journal.specs.Calls.{records_from, places_from, calls_of, record_places, numbers_after, reply_numbers}
use Rattle.journal.specs.Promises.{RepliesCounted, Earliest, EarliestRefused, PlacesAscend}
use Rattle.journal.proofs.Reading.{next_above}
use Rattle.journal.proofs.Calls.{places_end, places_cut, places_unknown, places_record, run_reads}
use Rattle.journal.proofs.Refusals.{naming, named_first}

-- how many replies a test on their numbers passes, one more
more : (p : ℕ → Bool) (n : ℕ) (ns : List ℕ) {t : Bool} → p n ≡ t → count_by p (n ∷ ns) ≡ pick t 1 0 + count_by p ns
more p n ns e = sum_by-cons (λ m. cond (p m) 1 0) n ns ∙ ap (λ u. cond u 1 0 + count_by p ns) e

abbrev accepts : ℕ → Bool
accepts n = eqb n 0

abbrev refuses : ℕ → Bool
refuses n = not (eqb n 0)

-- what a run has counted when it read these calls
record Adds (es : List Event) (r q : Run) : Type 0 where
  accepted : q.accepted ≡ r.accepted + count_by accepts (numbers_after r.book es)
  refused : q.refused ≡ r.refused + count_by refuses (numbers_after r.book es)

adds_one : (r q : Run) (e : Event) (next : ℕ) (es : List Event) → Adds es (answered r (reply_to r.book e) next) q → Adds (e ∷ es) r q
unfolding numbers_after
adds_one r q e next es h = go (eqb n 0) refl
  where
    n : ℕ
    n = (reply_to r.book e).number

    ns : List ℕ
    ns = numbers_after (reply_to r.book e).book es

    go : (t : Bool) → eqb n 0 ≡ t → Adds (e ∷ es) r q
    go true p =
        record {
          accepted = omega (arith, rw p at h.accepted, more accepts n ns p);
          refused = omega (arith, rw p at h.refused, more refuses n ns (ap not p));
        }
    go false p =
        record {
          accepted = omega (arith, rw p at h.accepted, more accepts n ns p);
          refused = omega (arith, rw p at h.refused, more refuses n ns (ap not p));
        }

pub replies_counted : RepliesCounted
unfolding numbers_after reply_numbers calls_of run_of started
replies_counted s =
    let none : (r : Run) → Adds [] r r = λ r. record { accepted = omega arith; refused = omega arith } in
    let w = run_reads Adds none (λ r number. record { accepted = (none r).accepted; refused = (none r).refused }) adds_one (suc (length s)) s started in
    record { accepted = w.accepted ∙ omega arith; refused = w.refused ∙ omega arith }

none_in : (ns : List ℕ) → count_by refuses ns ≡ 0 → (k : ℕ) → get_or ns k 0 ≡ 0
none_in [] h k = refl
none_in (n ∷ ns) h zero = go (eqb n 0) refl
  where
    go : (t : Bool) → eqb n 0 ≡ t → n ≡ 0
    go true p = eqb-true n 0 p
    go false p = absurd (omega (arith, h, more refuses n ns (ap not p)))
none_in (n ∷ ns) h (suc k) = none_in ns (omega (arith, h, more refuses n ns refl)) k

pub earliest-refused : EarliestRefused
earliest-refused s = go (run_of s).first refl
  where
    go : (f : Option Refused) → (run_of s).first ≡ f → Earliest s f
    go None e = λ k l. none_in (reply_numbers s) (sym (replies_counted s).refused ∙ (naming s).none e) k
    go (Some first) e = named_first s first.place first.number e

-- places from one on, each behind the one before
data Ascending : ℕ → List ℕ → Type 0 where
  none : {at : ℕ} → Ascending at []
  one : {at next : ℕ} {places : List ℕ} → at < next → Ascending next places → Ascending at (at ∷ places)

ascending : (n : ℕ) (s : List ℕ) (at : ℕ) → Ascending at (places_from n s at)
unfolding places_from records_from
ascending zero s at = none
ascending (suc n) s at = go (read_at s at) refl (λ next. ascending n s next)
  where
    go : (x : Read) → read_at s at ≡ x → ((next : ℕ) → Ascending next (places_from n s next)) → Ascending at (places_from (suc n) s at)
    go End e f = rw (places_end n s at e) none
    go Cut e f = rw (places_cut n s at e) none
    go Unknown e f = rw (places_unknown n s at e) none
    go (Record c from next) e f = rw (places_record n s at e) (one (next_above s at e) (f next))

at_least : {at : ℕ} {places : List ℕ} → Ascending at places → (k : ℕ) → k < length places → at ≤ get_or places k 0
at_least none k l = absurd (omega arith)
at_least (one h a) zero l = omega arith
at_least (one h a) (suc k) l = omega (arith, at_least a k (omega arith))

ascends : {at : ℕ} {places : List ℕ} → Ascending at places → (j k : ℕ) → j < k → k < length places → get_or places j 0 < get_or places k 0
ascends none j k h l = absurd (omega arith)
ascends (one g a) j zero h l = absurd (omega arith)
ascends (one g a) zero (suc k) h l = omega (arith, at_least a k (omega arith))
ascends (one g a) (suc j) (suc k) h l = ascends a j k (omega arith) (omega arith)

pub places_ascend : PlacesAscend
unfolding record_places
places_ascend s = ascends (ascending (suc (length s)) s 0)
