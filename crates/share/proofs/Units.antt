-- Units given singly to the largest remainder, which is then struck.
use mathlib.Core.Path.{◌≡◌, refl, sym, ap, ◌∙◌}
use mathlib.Core.Bool.{Bool, true, false}
use mathlib.Core.List.{List, [], ◌∷◌}
use mathlib.Core.Logic.{◌⊎◌, inl, inr}
use Prim.Native.Nat.{ℕ, zero, suc, ◌+◌, ◌-◌, ◌*◌, ◌≤◌, ◌<◌, zero-le}
use native.Mathlib.Nat.{suc-mul, mul-zero, add-zero, zero-add}
use native.Mathlib.Omega.{arith}
use borrow.Author.Tests.{eqb-true, eqb-false, ne_eqb}
use lib.Dec.{eqb}
use lib.ListN.{length, get_or, set, length-set}
use lib.Seq.{get_or-set_same, get_or-set_other}
use Rattle.basis.specs.Choice.{pick}
use Rattle.basis.specs.Sums.{sum}
use Rattle.basis.proofs.Sums.{sum-set, sum_at_most}
use Rattle.share.specs.Division.{largest, give}
use Rattle.share.proofs.Largest.{Largest, largest_is}

-- how many of n units go to place i
pub extra : ℕ → List ℕ → ℕ → ℕ
extra zero r i = 0
extra (suc n) r i = pick (eqb i (largest r)) 1 0 + extra n (set r (largest r) 0) i

pub length-give : (n : ℕ) (a r : List ℕ) → length (give n a r) ≡ length a
unfolding give
length-give zero a r = refl
length-give (suc n) a r =
    length-give n (set a (largest r) (get_or a (largest r) 0 + 1)) (set r (largest r) 0) ∙ length-set a (largest r) (get_or a (largest r) 0 + 1)

pub sum-give : (n : ℕ) (a r : List ℕ) → length a ≡ length r → 0 < length r → sum (give n a r) ≡ sum a + n
unfolding give
sum-give zero a r e h = omega arith
sum-give (suc n) a r e h =
    let k = largest r in
    let p = (largest_is r h).within in
    omega (arith, sum-give n (set a k (get_or a k 0 + 1)) (set r k 0) (simp length-set e) (simp length-set h), sum-set a k (get_or a k 0 + 1) (omega (arith, p)))

-- one unit more at a place
given_at : (a : List ℕ) (k i : ℕ) → k < length a → get_or (set a k (get_or a k 0 + 1)) i 0 ≡ get_or a i 0 + pick (eqb i k) 1 0
given_at a k i h = go (eqb i k) refl
  where
    go : (t : Bool) → eqb i k ≡ t → get_or (set a k (get_or a k 0 + 1)) i 0 ≡ get_or a i 0 + pick t 1 0
    go true e = rw (eqb-true i k e) (get_or-set_same a k (get_or a k 0 + 1) 0 h)
    go false e = get_or-set_other a k i (get_or a k 0 + 1) 0 (eqb-false i k e) ∙ sym (add-zero (get_or a i 0))

give_extra : (n : ℕ) (a r : List ℕ) (i : ℕ) → length a ≡ length r → 0 < length r → get_or (give n a r) i 0 ≡ get_or a i 0 + extra n r i
unfolding give extra
give_extra zero a r i e h = omega arith
give_extra (suc n) a r i e h =
    let k = largest r in
    let p = (largest_is r h).within in
    omega (arith, give_extra n (set a k (get_or a k 0 + 1)) (set r k 0) i (simp length-set e) (simp length-set h), given_at a k i (omega (arith, p)))

-- n units are covered by remainders of at most W each
pub record Covered (W n : ℕ) (r : List ℕ) : Type 0 where
  pub positive : 0 < W
  pub each : (k : ℕ) → get_or r k 0 ≤ W
  pub all : n * W ≤ sum r

pub some_element : (l : List ℕ) → 0 < sum l → 0 < length l
some_element [] p = absurd (omega arith)
some_element (x ∷ l) p = omega arith

module _ (W n : ℕ) (r : List ℕ) (h : Covered W (suc n) r) where
  nonempty : 0 < length r
  nonempty = some_element r (omega (arith, suc-mul n W, h.positive, h.all))

  -- the largest is positive
  top_positive : 0 < get_or r (largest r) 0
  top_positive = go (get_or r (largest r) 0) refl
    where
      go : (t : ℕ) → get_or r (largest r) 0 ≡ t → 0 < t
      go zero e =
          absurd (omega (arith, sum_at_most 0 r (λ k. omega (arith, (largest_is r nonempty).most k)), mul-zero (length r), h.all, h.positive, suc-mul n W))
      go (suc t) e = omega arith

  covered_next : Covered W n (set r (largest r) 0)
  covered_next =
      let k = largest r in
      let w = (largest_is r nonempty).within in
      record {
        positive = h.positive;
        each = λ j. go j (eqb j k) refl w;
        all = omega (arith, sum-set r k 0 w, h.each k, h.all, suc-mul n W);
      }
    where
      go : (j : ℕ) (t : Bool) → eqb j (largest r) ≡ t → largest r < length r → get_or (set r (largest r) 0) j 0 ≤ W
      go j true e w = rw (eqb-true j (largest r) e, get_or-set_same r (largest r) 0 0 w) zero-le
      go j false e w = rw (get_or-set_other r (largest r) j 0 0 (eqb-false j (largest r) e)) (h.each j)

-- whose remainder is 0 gets no unit
struck : (W n : ℕ) (r : List ℕ) (i : ℕ) → Covered W n r → get_or r i 0 ≡ 0 → extra n r i ≡ 0
unfolding extra
struck W zero r i h e = refl
struck W (suc n) r i h e =
    let other : i ≡ largest r → ⊥ = λ q. absurd (omega (arith, top_positive W n r h, ap (λ k. get_or r k 0) q)) in
    simp (ne_eqb i (largest r) other) (zero-add _ ∙ struck W n (set r (largest r) 0) i (covered_next W n r h) (get_or-set_other r (largest r) i 0 0 other ∙ e))

at_most_one : (W n : ℕ) (r : List ℕ) (i : ℕ) → Covered W n r → extra n r i ≤ 1
unfolding extra
at_most_one W zero r i h = zero-le
at_most_one W (suc n) r i h = go (eqb i (largest r)) refl (at_most_one W n (set r (largest r) 0) i (covered_next W n r h))
  where
    go : (t : Bool) → eqb i (largest r) ≡ t → extra n (set r (largest r) 0) i ≤ 1 → pick t 1 0 + extra n (set r (largest r) 0) i ≤ 1
    go true e rest =
        let zero_there : get_or (set r (largest r) 0) i 0 ≡ 0 =
        rw (eqb-true i (largest r) e) (get_or-set_same r (largest r) 0 0 (largest_is r (nonempty W n r h)).within) in
        omega (arith, struck W n (set r (largest r) 0) i (covered_next W n r h) zero_there)
    go false e rest = omega arith

-- i comes before j: by larger remainder, then by lower number
abbrev pub Before : List ℕ → ℕ → ℕ → Type 0
Before r i j = (get_or r j 0 < get_or r i 0) ⊎ ((get_or r j 0 ≡ get_or r i 0) × (i < j))

pub gives_before : (W n : ℕ) (r : List ℕ) (i j : ℕ) → Covered W n r → extra n r i ≡ 1 → extra n r j ≡ 0 → Before r i j
unfolding extra
gives_before W zero r i j h p q = absurd (omega arith)
gives_before W (suc n) r i j h p q =
    go (eqb i (largest r)) refl (eqb j (largest r)) refl p q
    (gives_before W n (set r (largest r) 0) i j (covered_next W n r h))
  where
    k : ℕ
    k = largest r

    top : Largest r (largest r)
    top = largest_is r (nonempty W n r h)

    -- i is the largest, and j another
    here : i ≡ largest r → (j ≡ largest r → ⊥) → (t : Bool) → eqb (get_or r j 0) (get_or r i 0) ≡ t → Before r i j
    here e o true s =
        let same = eqb-true (get_or r j 0) (get_or r i 0) s in
        inr (same, rw e (later (λ b. absurd (omega (arith, top.first j b, ap (λ m. get_or r m 0) e))) o))
      where
        later : (j < largest r → ⊥) → (j ≡ largest r → ⊥) → largest r < j
        later a b = omega arith
    here e o false s =
        let other = eqb-false (get_or r j 0) (get_or r i 0) s in inl (omega (arith, top.most j, ap (λ m. get_or r m 0) e))

    go : (a : Bool) → eqb i (largest r) ≡ a → (b : Bool) → eqb j (largest r) ≡ b → pick a 1 0 + extra n (set r (largest r) 0) i ≡ 1 → pick b 1 0 + extra n (set r (largest r) 0) j ≡ 0 → (extra n (set r (largest r) 0) i ≡ 1 → extra n (set r (largest r) 0) j ≡ 0 → Before (set r (largest r) 0) i j) → Before r i j
    go a ea true eb p q rest = absurd (omega arith)
    go true ea false eb p q rest = here (eqb-true i (largest r) ea) (eqb-false j (largest r) eb) (eqb (get_or r j 0) (get_or r i 0)) refl
    go false ea false eb p q rest =
        rw (get_or-set_other r (largest r) i 0 0 (eqb-false i (largest r) ea), get_or-set_other r (largest r) j 0 0 (eqb-false j (largest r) eb)) at (rest (omega arith) (omega arith))

-- an amount after n units is the amount before, or one more where the remainder is positive
pub given : (W n : ℕ) (a r : List ℕ) (i : ℕ) → length a ≡ length r → 0 < length r → Covered W n r → (get_or (give n a r) i 0 ≡ get_or a i 0) ⊎ ((get_or (give n a r) i 0 ≡ get_or a i 0 + 1) × (0 < get_or r i 0))
given W n a r i e l h =
    go (extra n r i) refl (get_or r i 0) refl (give_extra n a r i e l) (at_most_one W n r i h) (struck W n r i h)
  where
    go : (x : ℕ) → extra n r i ≡ x → (y : ℕ) → get_or r i 0 ≡ y → get_or (give n a r) i 0 ≡ get_or a i 0 + extra n r i → extra n r i ≤ 1 → (get_or r i 0 ≡ 0 → extra n r i ≡ 0) → (get_or (give n a r) i 0 ≡ get_or a i 0) ⊎ ((get_or (give n a r) i 0 ≡ get_or a i 0 + 1) × (0 < get_or r i 0))
    go zero ex y ey g o s = inl (omega arith)
    go (suc x) ex zero ey g o s = absurd (omega (arith, s ey))
    go (suc x) ex (suc y) ey g o s = inr (omega arith, omega arith)

-- who has one unit more comes before who has not
pub given_before : (W n : ℕ) (a r : List ℕ) (i j : ℕ) → length a ≡ length r → 0 < length r → Covered W n r → get_or (give n a r) i 0 ≡ get_or a i 0 + 1 → get_or (give n a r) j 0 ≡ get_or a j 0 → Before r i j
given_before W n a r i j e l h p q =
    gives_before W n r i j h (omega (arith, give_extra n a r i e l)) (omega (arith, give_extra n a r j e l))

-- one unit more is given of so many
pub give_next : (n given k : ℕ) (a r : List ℕ) → given < n → k ≡ largest r → give (n - given) a r ≡ give (n - (given + 1)) (set a k (get_or a k 0 + 1)) (set r k 0)
unfolding give
give_next n given k a r h e = let m : n - given ≡ suc (n - (given + 1)) = omega arith in rw (m, e)

-- one turn of the loop over the units
pub ruleset giving = (give_next, sum-set)
