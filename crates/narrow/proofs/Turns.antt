-- Turns of the converter: what each case of the reading gives, that as many turns as are enough give the same, and what a stop's number is.
use mathlib.Core.Path.{◌≡◌, refl, sym, ap, ◌∙◌}
use mathlib.Core.Bool.{Bool, true, false}
use mathlib.Core.List.{List}
use Prim.Native.Nat.{ℕ, zero, suc, ◌+◌, ◌-◌, ◌≤◌, ◌<◌}
use native.Mathlib.Omega.{arith}
use borrow.Author.Tests.{ne_eqb, lt-ltb, le-ltb}
use lib.ListN.{length}
use Rattle.std.specs.Prelude.{Option, None, Some, not, eqb}
use Rattle.std.specs.Bool.{then_some}
use Rattle.basis.specs.Choice.{pick}
use Rattle.basis.specs.Numbers.{written}
use Rattle.table.specs.declared.calls.Call.{Call}
use Rattle.record.specs.declared.reading.Read.{Read}
use Rattle.record.specs.declared.reading.Read.TheVariants.{End, Cut, Unknown, Record}
use Rattle.record.specs.Reading.{read_at, stop_number, wide_at}
use Rattle.record.proofs.RoundTrip.{read_is_placed}
use Rattle.record.proofs.Shows.{read_shows}
use Rattle.table.proofs.Table.{lawful}
use Rattle.narrow.specs.declared.Stopped.{Stopped}
use Rattle.narrow.specs.Narrow.{stopped_at, narrow_from, narrow_stop, number_behind, narrow_number, narrowed, Narrows}

module _ (n : ℕ) (s : List ℕ) (at : ℕ) where
  pub narrow-end : read_at s at ≡ End → narrow_from (suc n) s at ≡ None
  unfolding narrow_from
  narrow-end e = rw (e, narrow_from)

  pub narrow-cut : read_at s at ≡ Cut → narrow_from (suc n) s at ≡ stopped_at at 1
  unfolding narrow_from
  narrow-cut e = rw (e, narrow_from)

  pub narrow-unknown : read_at s at ≡ Unknown → narrow_from (suc n) s at ≡ stopped_at at 2
  unfolding narrow_from
  narrow-unknown e = rw (e, narrow_from)

  pub narrow-record : {c : Call} {from next : ℕ} → read_at s at ≡ Record c from next → narrow_from (suc n) s at ≡ pick (wide_at s at) (stopped_at at 18) (narrow_from n s next)
  unfolding narrow_from
  narrow-record e = rw (e, narrow_from)

-- the turns still due are enough: more of them give the same
pub narrow_enough : (m n : ℕ) (s : List ℕ) (at : ℕ) → length s - at < m → length s - at < n → narrow_from m s at ≡ narrow_from n s at
narrow_enough zero n s at h k = absurd (omega arith)
narrow_enough (suc m) zero s at h k = absurd (omega arith)
narrow_enough (suc m) (suc n) s at h k =
    go (read_at s at) refl (λ next a b. narrow_enough m n s next a b)
  where
    go : (x : Read) → read_at s at ≡ x → ((next : ℕ) → length s - next < m → length s - next < n → narrow_from m s next ≡ narrow_from n s next) → narrow_from (suc m) s at ≡ narrow_from (suc n) s at
    go End e f = narrow-end m s at e ∙ sym (narrow-end n s at e)
    go Cut e f = narrow-cut m s at e ∙ sym (narrow-cut n s at e)
    go Unknown e f = narrow-unknown m s at e ∙ sym (narrow-unknown n s at e)
    go (Record c from next) e f =
        let p = read_is_placed s at c from next e in
        let l = f next (omega (arith, p.beyond, p.within)) (omega (arith, p.beyond, p.within)) in
        narrow-record m s at e ∙ ap (pick (wide_at s at) (stopped_at at 18)) l ∙ sym (narrow-record n s at e)

-- what is still to be read decides
pub record Reading (s : List ℕ) (at : ℕ) : Type 0 where
  pub within : at ≤ length s
  pub same : narrow_from (suc (length s)) s at ≡ narrow_stop s

pub begins : (s : List ℕ) → Reading s 0
unfolding narrow_stop
begins s = record { within = omega arith; same = refl }

module _ {s : List ℕ} {at : ℕ} (r : Reading s at) {c : Call} {from next : ℕ} (e : read_at s at ≡ Record c from next) where
  -- a whole record has a mark
  pub marked : at + 2 ≤ length s
  marked =
      let w = read_shows s at c from next e in
      omega (arith, (lawful w.mark).size, w.behind, w.there)

  pub stops : wide_at s at ≡ true → stopped_at at 18 ≡ narrow_stop s
  stops h = sym (ap (λ t. pick t (stopped_at at 18) (narrow_from (length s) s next)) h) ∙ sym (narrow-record (length s) s at e) ∙ r.same

  pub goes_on : wide_at s at ≡ false → Reading s next
  goes_on h =
      let p = read_is_placed s at c from next e in
      record {
        within = p.within;
        same =
            narrow_enough (suc (length s)) (length s) s next (omega arith) (omega (arith, p.beyond, p.within))
            ∙ sym (ap (λ t. pick t (stopped_at at 18) (narrow_from (length s) s next)) h)
            ∙ sym (narrow-record (length s) s at e)
            ∙ r.same;
      }

  pub less : length s - next < length s - at
  less = let p = read_is_placed s at c from next e in omega (arith, p.beyond, p.within)

-- a stop's number is not 0
abbrev pub stopped_unless : ℕ → ℕ → Option Stopped
stopped_unless place number = then_some (not (eqb number 0)) (record { place = place; number = number })

-- anything else ends it
pub ends : {s : List ℕ} {at : ℕ} → Reading s at → (x : Read) → read_at s at ≡ x → ((c : Call) (from next : ℕ) → x ≡ Record c from next → ⊥) → stopped_unless at (stop_number x) ≡ narrow_stop s
ends {s} {at} r End e h = sym (narrow-end (length s) s at e) ∙ r.same
ends {s} {at} r Cut e h = sym (narrow-cut (length s) s at e) ∙ r.same
ends {s} {at} r Unknown e h = sym (narrow-unknown (length s) s at e) ∙ r.same
ends {s} {at} r (Record c from next) e h = absurd (h c from next refl)

-- what is answered and left, by what the reading met and by the room
module _ (s out : List ℕ) where
  pub narrows_stopped : {x : Stopped} → Some x ≡ narrow_stop s → (x.number ≡ 0 → ⊥) → Narrows s out x.number out
  unfolding narrow_number narrowed
  narrows_stopped {x} e h =
      record {
        answer = ap (λ f. number_behind f (length s) (length out)) e;
        bytes = rw (← e, ne_eqb x.number 0 h) refl;
      }

  pub narrows_short : None ≡ narrow_stop s → length out < length s → Narrows s out 15 out
  unfolding narrow_number narrowed
  narrows_short e h =
      record {
        answer = rw (← e, lt-ltb (length out) (length s) h) refl;
        bytes = rw (← e, lt-ltb (length out) (length s) h) refl;
      }

  pub narrows_whole : None ≡ narrow_stop s → length s ≤ length out → Narrows s out 0 (written out 0 s)
  unfolding narrow_number narrowed
  narrows_whole e h =
      record {
        answer = rw (← e, le-ltb (length out) (length s) h) refl;
        bytes = rw (← e, le-ltb (length out) (length s) h) refl;
      }

-- the number of a stop
abbrev number_of : Option Stopped → ℕ
number_of None = 0
number_of (Some x) = x.number

-- the number at which the converter ends is not 0
number_met : (n : ℕ) (s : List ℕ) (at : ℕ) (x : Stopped) → narrow_from n s at ≡ Some x → x.number ≡ 0 → ⊥
unfolding narrow_from
number_met zero s at x e z = let w : ◌≡◌ {A = ℕ} 0 1 = cc in omega arith
number_met (suc n) s at x e z = go (read_at s at) refl (λ next f. number_met n s next x f z)
  where
    go : (r : Read) → read_at s at ≡ r → ((next : ℕ) → narrow_from n s next ≡ Some x → ⊥) → ⊥
    go End k f = let w : ◌≡◌ {A = Option Stopped} None (Some x) = sym (narrow-end n s at k) ∙ e in let v : ◌≡◌ {A = ℕ} 0 1 = cc in omega arith
    go Cut k f = let w : stopped_at at 1 ≡ Some x = sym (narrow-cut n s at k) ∙ e in omega (arith, z, ap number_of w)
    go Unknown k f = let w : stopped_at at 2 ≡ Some x = sym (narrow-unknown n s at k) ∙ e in omega (arith, z, ap number_of w)
    go (Record c from next) k f = wide (wide_at s at) (sym (narrow-record n s at k) ∙ e)
      where
        wide : (t : Bool) → pick t (stopped_at at 18) (narrow_from n s next) ≡ Some x → ⊥
        wide true w = omega (arith, z, ap number_of w)
        wide false w = f next w

pub stop_met : (s : List ℕ) {x : Stopped} → Some x ≡ narrow_stop s → x.number ≡ 0 → ⊥
unfolding narrow_stop
stop_met s {x} e z = number_met (suc (length s)) s 0 x (sym e) z
