-- A division over buffers is the division of the numbers that they hold.
use mathlib.Core.Path.{◌≡◌, sym, ap, ◌∙◌}
use mathlib.Core.Bool.{true≢false}
use mathlib.Core.List.{List, append-nil}
use Prim.Native.Nat.{ℕ, ◌*◌, ◌/◌, ◌%◌, ◌≤◌, ◌<◌}
use native.Mathlib.Nat.{zero-add}
use native.Mathlib.Omega.{arith}
use borrow.Author.Tests.{eq-eqb, ne_eqb, lt-ltb}
use lib.Dec.{ltb}
use lib.ListN.{length, drop_of_length-le}
use Rattle.std.specs.Prelude.{Result, IsErr}
use Rattle.basis.specs.Numbers.{numbers_of, all_bytes_of, written}
use Rattle.basis.proofs.Choice.{pick_same}
use Rattle.basis.proofs.Tables.{length-tab}
use Rattle.quantities.specs.Refusals.{met}
use Rattle.quantities.specs.declared.refusals.Refusal.{Refusal}
use Rattle.quantities.specs.Limits.{greatest_total, most_weights}
use Rattle.share.specs.Division.{shares, division_number, divided}
use Rattle.share.specs.Buffers.{buffer_weights, share_number, shared_bytes, Shares}
use Rattle.share.proofs.Accepted.{Accepted, accepted, enough, refused}
use Rattle.share.proofs.Laws.{length-shares}

-- a list written over one of its own length
written-whole : (old new : List ℕ) → length new ≡ length old → written old 0 new ≡ new
written-whole old new e = rw (zero-add, e, drop_of_length-le old {i = length old} (omega arith)) (append-nil new)

pub length-buffer_weights : (buffer : List ℕ) → length (buffer_weights buffer) ≡ length buffer / 4
unfolding buffer_weights
length-buffer_weights buffer = length-tab (λ i. Rattle.basis.specs.Numbers.number_at 4 buffer (4 * i)) (length buffer / 4)

-- a length that is no multiple of 4, and too many weights
pub odd_refused : (T : ℕ) (buffer old : List ℕ) → (length buffer % 4 ≡ 0 → ⊥) → Shares T buffer old 3 old
unfolding share_number shared_bytes
odd_refused T buffer old h =
    let e = ne_eqb (length buffer % 4) 0 h in record { answer = simp e; amounts = simp e }

pub many_refused : (T : ℕ) (buffer old : List ℕ) → length buffer % 4 ≡ 0 → most_weights < length buffer / 4 → Shares T buffer old 3 old
unfolding share_number shared_bytes division_number
many_refused T buffer old h m =
    let n = length-buffer_weights buffer in
    let e : share_number T buffer (length old) ≡ 3 =
    simp (eq-eqb (length buffer % 4) 0 h, ne_eqb (length (buffer_weights buffer)) 0 (λ q. absurd (omega arith)), lt-ltb most_weights (length (buffer_weights buffer)) (omega arith))
    (pick_same (ltb greatest_total T) 3) in
    record { answer = sym e; amounts = rw e }

-- a buffer of n weights, read as numbers
module _ (T : ℕ) (buffer old : List ℕ) (n : ℕ) (h : length buffer ≡ 4 * n) (numbers : List ℕ) (e : numbers ≡ numbers_of 4 n buffer) where
  same : buffer_weights buffer ≡ numbers
  unfolding buffer_weights
  same = let d : length buffer / 4 ≡ n = omega arith in rw d (sym e)

  the_number : share_number T buffer (length old) ≡ division_number T numbers (length old / 8)
  unfolding share_number
  the_number = let m : length buffer % 4 ≡ 0 = omega arith in rw (m, same)

  pub refused_bytes : (answer : Result (Unit {0}) Refusal) → IsErr answer → met answer ≡ division_number T numbers (length old / 8) → Shares T buffer old (met answer) old
  unfolding shared_bytes
  refused_bytes answer o q =
      let s = q ∙ sym the_number in record { answer = s; amounts = rw (← s, refused answer o) }

  module _ (z : division_number T numbers (length old / 8) ≡ 0) (parts new : List ℕ) (k : length parts ≡ n) where
    length-numbers : length numbers ≡ n
    length-numbers = ap length e ∙ length-tab (λ i. Rattle.basis.specs.Numbers.number_at 4 buffer (4 * i)) n

    shown : Accepted T numbers (length old / 8)
    shown = accepted T numbers (length old / 8) z

    pub divided-whole : divided T numbers parts ≡ shares T numbers
    unfolding divided
    divided-whole =
        rw (enough T numbers (length old / 8) (length parts) shown (omega (arith, length-numbers)))
        (written-whole parts (shares T numbers) (omega (arith, length-shares T numbers, length-numbers)))

    -- the room of the parts is enough
    pub never_refused : (answer : Result (Unit {0}) Refusal) → IsErr answer → met answer ≡ division_number T numbers (length parts) → ⊥
    never_refused answer o q =
        true≢false (sym (eq-eqb (met answer) 0 (q ∙ enough T numbers (length old / 8) (length parts) shown (omega (arith, length-numbers)))) ∙ refused answer o)

    pub room_for_all : 8 * length (divided T numbers parts) ≤ length old
    room_for_all = rw (divided-whole, length-shares T numbers) (omega (arith, shown.fits))

    pub shared : new ≡ written old 0 (all_bytes_of 8 (divided T numbers parts)) → Shares T buffer old 0 new
    unfolding shared_bytes
    shared w =
        let s : share_number T buffer (length old) ≡ 0 = the_number ∙ z in
        record { answer = sym s; amounts = w ∙ rw (s, divided-whole, same) }
