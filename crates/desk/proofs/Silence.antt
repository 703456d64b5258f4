-- Nothing is found exactly where the whole input was read and nothing was refused.
use Rattle.std.specs.Prelude.{codes, Option, None, Some}
use mathlib.Core.Path.{◌≡◌, refl}
use mathlib.Core.Bool.{Bool, true, false}
use mathlib.Core.List.{List, [], ◌∷◌, ◌++◌}
use Prim.Native.Nat.{ℕ, ◌≤◌}
use native.Mathlib.Omega.{arith}
use borrow.Author.Tests.{eqb-true, ltb-false, le-ltb}
use lib.Dec.{eqb, ltb}
use lib.ListN.{length}
use Rattle.basis.specs.Choice.{pick}
use Rattle.journal.specs.declared.outcome.Refused.{Refused}
use Rattle.journal.specs.Run.{run_of}
use Rattle.journal.proofs.Refusals.{naming}
use Rattle.listing.specs.Listing.{most_input}
use Rattle.words.specs.Numbers.{at_place}
use Rattle.desk.specs.Findings.{refusals, stopping, findings_of, nothing_read, findings_for}
use Rattle.desk.specs.Promises.{SilentExactly}

-- a text that begins with a byte is not empty
pub begun : {A : Type 0} {b : ℕ} {l : List ℕ} → b ∷ l ≡ [] → A
begun e = let z : ◌≡◌ {A = ℕ} 0 1 = cc in absurd (omega arith)

-- nothing is said of refusals only where none is named, and of a stop only where there is none
no_refusals : (f : Option Refused) (refused read : ℕ) → refusals f refused read ≡ [] → f ≡ None
unfolding refusals
no_refusals None refused read e = refl
no_refusals (Some first) refused read e = begun e

no_stop : (stop place : ℕ) → stopping stop place ≡ [] → stop ≡ 0
unfolding stopping
no_stop stop place = go (eqb stop 0) refl
  where
    go : (t : Bool) → eqb stop 0 ≡ t → pick t [] (codes "yearbook: reading stopped at byte " ++ at_place place stop) ≡ [] → stop ≡ 0
    go true e h = eqb-true stop 0 e
    go false e h = begun h

-- two texts that are empty together are each empty
pub both_empty : (a b : List ℕ) → a ++ b ≡ [] → (a ≡ []) × (b ≡ [])
both_empty [] b e = (refl, e)
both_empty (x ∷ a) b e = begun e

module _ (input : List ℕ) where
  -- an input that was taken, with its findings
  pub found : findings_for input ≡ [] → (length input ≤ most_input) × (findings_of (run_of input) ≡ [])
  unfolding findings_for
  found = go (ltb most_input (length input)) refl
    where
      go : (t : Bool) → ltb most_input (length input) ≡ t → pick t nothing_read (findings_of (run_of input)) ≡ [] → (length input ≤ most_input) × (findings_of (run_of input) ≡ [])
      go true e h = begun h
      go false e h = (ltb-false most_input (length input) e, h)

  parts : findings_for input ≡ [] → (refusals (run_of input).first (run_of input).refused (run_of input).read ≡ []) × (stopping (run_of input).stop (run_of input).place ≡ [])
  unfolding findings_of
  parts e = both_empty _ _ (found e).1

  -- none is named where none was refused
  unnamed : (run_of input).refused ≡ 0 → (run_of input).first ≡ None
  unnamed z = go (run_of input).first refl
    where
      go : (f : Option Refused) → (run_of input).first ≡ f → f ≡ None
      go None e = refl
      go (Some first) e = absurd (omega (arith, (naming input).some first.place first.number e))

  all_well : length input ≤ most_input → (run_of input).stop ≡ 0 → (run_of input).refused ≡ 0 → findings_for input ≡ []
  unfolding findings_for findings_of refusals stopping
  all_well l s z = rw (le-ltb most_input (length input) l, unnamed z, s)

pub silent_exactly : SilentExactly
silent_exactly input =
    record {
      taken = λ e. (found input e).0;
      whole = λ e. no_stop (run_of input).stop (run_of input).place (parts input e).1;
      accepted = λ e. (naming input).none (no_refusals (run_of input).first (run_of input).refused (run_of input).read (parts input e).0);
      silent = all_well input;
    }
