-- What an acceptance shows: a chain of tests that ends in 0 passed each of them.
use mathlib.Core.Path.{◌≡◌, refl}
use mathlib.Core.Bool.{Bool, true, false}
use Rattle.std.proofs.lemmas.Bool.{and_parts}
use Prim.Native.Nat.{ℕ, suc, ◌≤◌}
use native.Mathlib.Omega.{arith}
use borrow.Author.Tests.{leb-true, eqb-true, eqb-false}
use lib.Dec.{leb, eqb}
use Rattle.basis.specs.Choice.{pick, between}

-- the number suc k was not given: the test failed, and the rest of the chain gave 0
pub peel : (t : Bool) (k rest : ℕ) → pick t (suc k) rest ≡ 0 → (t ≡ false) × (rest ≡ 0)
peel true k rest e = absurd (omega arith)
peel false k rest e = (refl, e)

-- the other way round: the test passed
pub peel_not : (t : Bool) (k rest : ℕ) → pick t rest (suc k) ≡ 0 → (t ≡ true) × (rest ≡ 0)
peel_not true k rest e = (refl, e)
peel_not false k rest e = absurd (omega arith)

-- a test and another behind it hold together only if each does
pub both_true : (a b : Bool) → pick a b false ≡ true → (a ≡ true) × (b ≡ true)
both_true true b e = (refl, e)
both_true false b e = absurd (mathlib.Core.Bool.false≢true e)

pub between_true : (low high x : ℕ) → between low high x ≡ true → (low ≤ x) × (x ≤ high)
between_true low high x e =
    let h = and_parts (leb low x) (leb x high) e in (leb-true low x h.0, leb-true x high h.1)

-- both branches are the same
pub pick_same : {A : Type 0} (t : Bool) (a : A) → pick t a a ≡ a
pick_same true a = refl
pick_same false a = refl

-- a number that is handed on was 0, and so was what came behind it
pub handed_on : (n rest : ℕ) → pick (eqb n 0) rest n ≡ 0 → (n ≡ 0) × (rest ≡ 0)
handed_on n rest e = go (eqb n 0) refl e
  where
    go : (t : Bool) → eqb n 0 ≡ t → pick t rest n ≡ 0 → (n ≡ 0) × (rest ≡ 0)
    go true q h = (eqb-true n 0 q, h)
    go false q h = absurd (eqb-false n 0 q h)
