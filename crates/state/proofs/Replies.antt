-- Replies by their numbers.
use mathlib.Core.Path.{◌≡◌, refl, sym, ap, ◌∙◌}
use mathlib.Core.Bool.{Bool, true, false}
use mathlib.Core.List.{List}
use Prim.Native.Nat.{ℕ}
use borrow.Author.Tests.{eqb-true}
use lib.Dec.{eqb}
use Rattle.std.specs.Prelude.{Err}
use Rattle.basis.specs.Choice.{pick}
use Rattle.quantities.specs.declared.refusals.Refusal.{Refusal}
use Rattle.quantities.specs.Refusals.{refusal_number}
use Rattle.quantities.proofs.RefusalLaws.{refusing}
use Rattle.table.specs.Ranges.{call_number}
use Rattle.table.specs.declared.calls.Call.{Call}
use Rattle.state.specs.declared.kept.Book.{Book}
use Rattle.state.specs.State.{Reply}
use Rattle.state.specs.State.{ranged, reply_of, replied}

abbrev pub reply : ℕ → Book → Reply
reply number b = record { number = number; book = b }

-- a number that refuses leaves the old book, and none leads to the new one
pub by_number : {A : Type 0} (settled : A → Reply) (stored : A) (refused : ℕ → A) (b new : Book) (n : ℕ) → settled stored ≡ reply 0 new → ((m : ℕ) → settled (refused m) ≡ reply m b) → settled (pick (eqb n 0) stored (refused n)) ≡ reply_of n b new
by_number settled stored refused b new n e f = go (eqb n 0) refl
  where
    go : (t : Bool) → eqb n 0 ≡ t → settled (pick t stored (refused n)) ≡ record { number = n; book = pick t new b }
    go true q = e ∙ ap (λ m. reply m new) (sym (eqb-true n 0 q))
    go false q = f n

-- two replies of one number agree if their new books do where it is 0
pub replies_agree : (n m : ℕ) (b new other : Book) → n ≡ m → (n ≡ 0 → new ≡ other) → reply_of n b new ≡ reply_of m b other
replies_agree n m b new other e h = go (eqb n 0) refl ∙ ap (λ k. reply_of k b other) e
  where
    go : (t : Bool) → eqb n 0 ≡ t → ◌≡◌ {A = Reply} (record { number = n; book = pick t new b }) (record { number = n; book = pick t other b })
    go true q = ap (reply n) (h (eqb-true n 0 q))
    go false q = refl

-- a call out of range is refused whatever stands at its place
pub ranges_alone : (c : Call) (rs : List ℕ) (mine theirs : ℕ) → (call_number c rs ≡ 0 → mine ≡ theirs) → ranged c rs mine ≡ ranged c rs theirs
ranges_alone c rs mine theirs h = go (eqb (call_number c rs) 0) refl
  where
    go : (t : Bool) → eqb (call_number c rs) 0 ≡ t → pick t mine (call_number c rs) ≡ pick t theirs (call_number c rs)
    go true q = h (eqb-true (call_number c rs) 0 q)
    go false q = refl

-- a refusal tells the reply that its number defines: the old book
pub refused_reply : (old new : Book) (refusal : Refusal) {n : ℕ} → refusal_number refusal ≡ n → replied old (Err refusal) ≡ reply_of n old new
refused_reply old new refusal e = rw (← e, refusing refusal) refl
