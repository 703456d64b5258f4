-- The first refused record that a run names.
use Rattle.std.specs.Prelude.{Option, None, Some}
use mathlib.Core.Path.{◌≡◌, refl, sym, ap, ◌∙◌}
use mathlib.Core.Bool.{Bool, true, false}
use mathlib.Core.List.{List, ◌∷◌}
use Prim.Native.Nat.{ℕ, zero, suc, ◌+◌, ◌<◌}
use native.Mathlib.Omega.{arith}
use borrow.Author.Tests.{eqb-true, eqb-false}
use lib.Dec.{eqb}
use lib.ListN.{length, get_or}
use Rattle.table.specs.declared.calls.Call.{Call}
use Rattle.record.specs.declared.reading.Read.{Read}
use Rattle.record.specs.declared.reading.Read.TheVariants.{End, Cut, Unknown, Record}
use Rattle.record.specs.Reading.{read_at, part_of}
use Rattle.state.specs.State.{Reply}
use Rattle.book.specs.Step.{step_of}
use Rattle.journal.specs.declared.outcome.Refused.{Refused}
use Rattle.journal.specs.declared.outcome.Run.{Run}
use Rattle.journal.specs.Run.{named_at, started, refused_at, answered, run_from, run_of}
use Rattle.journal.specs.Calls.{calls_from, places_from, calls_of, record_places, numbers_after, reply_numbers, FirstRefusedAt}
use Rattle.journal.proofs.Turns.{turned, run_end, run_cut, run_unknown, run_record}
use Rattle.journal.proofs.Counts.{run_keeps}
use Rattle.journal.proofs.Calls.{calls_record, places_record}

-- none is named exactly where none was refused
pub record Naming (r : Run) : Type 0 where
  pub none : r.first ≡ None → r.refused ≡ 0
  pub some : (place number : ℕ) → r.first ≡ named_at place number → 0 < r.refused

no_place : {A : Type 0} {place number : ℕ} → named_at place number ≡ None → A
no_place e = let z : ◌≡◌ {A = ℕ} 0 1 = cc in absurd (omega arith)

naming_answer : (r : Run) (reply : Reply) (next : ℕ) → Naming r → Naming (answered r reply next)
naming_answer r reply next h = go (eqb reply.number 0) refl
  where
    named : (f : Option Refused) → refused_at f r.place reply.number ≡ None → r.refused + 1 ≡ 0
    named None e = no_place e
    named (Some first) e = no_place e

    go : (t : Bool) → eqb reply.number 0 ≡ t → Naming (answered r reply next)
    go true e = record { none = rw e h.none; some = rw e h.some }
    go false e = record { none = rw e (named r.first); some = rw e (λ place number k. omega arith) }

pub naming : (s : List ℕ) → Naming (run_of s)
unfolding run_of started
naming s =
    run_keeps Naming s naming_answer (λ r number h. record { none = h.none; some = h.some }) (suc (length s)) started
    (record { none = λ e. refl; some = λ place number e. no_place (sym e) })

-- a place that is named stays
pub record Names (place number : ℕ) (r : Run) : Type 0 where
  pub named : r.first ≡ named_at place number

names_answer : (place number : ℕ) (r : Run) (reply : Reply) (next : ℕ) → Names place number r → Names place number (answered r reply next)
names_answer place number r reply next h = go (eqb reply.number 0) refl
  where
    go : (t : Bool) → eqb reply.number 0 ≡ t → Names place number (answered r reply next)
    go true e = record { named = rw e h.named }
    go false e = record { named = rw e (ap (λ (f : Option Refused). refused_at f r.place reply.number) h.named) }

names_stay : (n : ℕ) (s : List ℕ) (r : Run) (place number : ℕ) → r.first ≡ named_at place number → (run_from n s r).first ≡ named_at place number
names_stay n s r place number h =
    (run_keeps (Names place number) s (names_answer place number) (λ r stop k. record { named = k.named }) n r (record { named = h })).named

-- the record at a place is the first refused of those from a place on
record FirstFrom (n : ℕ) (s : List ℕ) (r : Run) (place number : ℕ) : Type 0 where
  index : ℕ
  read : index < length (calls_from n s r.place)
  placed : get_or (places_from n s r.place) index 0 ≡ place
  call : Call
  readings : ℕ
  next : ℕ
  stands : read_at s place ≡ Record call readings next
  numbered : get_or (numbers_after r.book (calls_from n s r.place)) index 0 ≡ number
  refused : number ≡ 0 → ⊥
  earlier : (k : ℕ) → k < index → get_or (numbers_after r.book (calls_from n s r.place)) k 0 ≡ 0

-- no record was read, so none is named
not_named : (n : ℕ) (s : List ℕ) (r : Run) (place number : ℕ) → r.first ≡ None → (run_from n s r).first ≡ r.first → (run_from n s r).first ≡ named_at place number → FirstFrom n s r place number
not_named n s r place number h k e = no_place (sym e ∙ k ∙ h)

module _ (n : ℕ) (s : List ℕ) (r : Run) (c : Call) (from next : ℕ) (p : read_at s r.place ≡ Record c from next) where
  abbrev reply : Reply
  reply = step_of r.book c (part_of s from next)

  numbers-record : numbers_after r.book (calls_from (suc n) s r.place) ≡ reply.number ∷ numbers_after reply.book (calls_from n s next)
  unfolding numbers_after
  numbers-record = ap (numbers_after r.book) (calls_record n s r.place p)

  -- it is this record
  first_here : {place number : ℕ} → r.place ≡ place → reply.number ≡ number → (number ≡ 0 → ⊥) → FirstFrom (suc n) s r place number
  first_here e f h =
      record {
        index = 0;
        read = rw (calls_record n s r.place p) (omega arith);
        placed = rw (places_record n s r.place p) e;
        call = c;
        readings = from;
        next = next;
        stands = ap (read_at s) (sym e) ∙ p;
        numbered = rw numbers-record f;
        refused = h;
        earlier = λ k l. absurd (omega arith);
      }

  -- it is one behind this record
  first_later : {place number : ℕ} → reply.number ≡ 0 → FirstFrom n s (turned s r c from next) place number → FirstFrom (suc n) s r place number
  first_later {place} {number} h w =
      record {
        index = suc w.index;
        read = rw (calls_record n s r.place p) (omega (arith, w.read));
        placed = rw (places_record n s r.place p) w.placed;
        call = w.call;
        readings = w.readings;
        next = w.next;
        stands = w.stands;
        numbered = rw numbers-record w.numbered;
        refused = w.refused;
        earlier = rw numbers-record (go w h);
      }
    where
      go : {m : ℕ} (w : FirstFrom n s (turned s r c from next) place number) → m ≡ 0 → (k : ℕ) → k < suc w.index → get_or (m ∷ numbers_after reply.book (calls_from n s next)) k 0 ≡ 0
      go w h zero l = h
      go w h (suc k) l = w.earlier k (omega arith)

-- what is named, where something is
abbrev the_named : Option Refused → Refused
the_named None = record { place = 0; number = 0 }
the_named (Some first) = first

named_from : (n : ℕ) (s : List ℕ) (r : Run) (place number : ℕ) → r.first ≡ None → (run_from n s r).first ≡ named_at place number → FirstFrom n s r place number
unfolding run_from
named_from zero s r place number h e = no_place (sym e ∙ h)
named_from (suc n) s r place number h e = go (read_at s r.place) refl (λ q a b. named_from n s q place number a b)
  where
    go : (x : Read) → read_at s r.place ≡ x → ((q : Run) → q.first ≡ None → (run_from n s q).first ≡ named_at place number → FirstFrom n s q place number) → FirstFrom (suc n) s r place number
    go End p f = not_named (suc n) s r place number h (ap (λ (q : Run). q.first) (run_end n s r p)) e
    go Cut p f = not_named (suc n) s r place number h (ap (λ (q : Run). q.first) (run_cut n s r p)) e
    go Unknown p f = not_named (suc n) s r place number h (ap (λ (q : Run). q.first) (run_unknown n s r p)) e
    go (Record c from next) p f = answer (eqb (step_of r.book c (part_of s from next)).number 0) refl
      where
        w : (run_from n s (turned s r c from next)).first ≡ named_at place number
        w = ap (λ (x : Run). x.first) (sym (run_record n s r p)) ∙ e

        answer : (t : Bool) → eqb (step_of r.book c (part_of s from next)).number 0 ≡ t → FirstFrom (suc n) s r place number
        answer true b =
            let g : (turned s r c from next).first ≡ None = rw b h in
            first_later n s r c from next p (eqb-true _ 0 b) (f (turned s r c from next) g w)
        answer false b =
            let m = (step_of r.book c (part_of s from next)).number in
            let g : (turned s r c from next).first ≡ named_at r.place m = rw b (ap (λ (x : Option Refused). refused_at x r.place m) h) in
            let k : named_at r.place m ≡ named_at place number = sym (names_stay n s (turned s r c from next) r.place m g) ∙ w in
            let l : m ≡ number = ap (λ f. (the_named f).number) k in
            first_here n s r c from next p (ap (λ f. (the_named f).place) k) l (λ z. eqb-false m 0 b (l ∙ z))

-- what is named is the first refused record
pub named_first : (s : List ℕ) (place number : ℕ) → (run_of s).first ≡ named_at place number → FirstRefusedAt s place number
unfolding run_of started calls_of record_places reply_numbers
named_first s place number e =
    let w = named_from (suc (length s)) s started place number refl e in
    record {
      index = w.index;
      read = w.read;
      placed = w.placed;
      call = w.call;
      readings = w.readings;
      next = w.next;
      stands = w.stands;
      numbered = w.numbered;
      refused = w.refused;
      earlier = w.earlier;
    }
