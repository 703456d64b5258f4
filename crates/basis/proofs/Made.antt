-- Arrays made by `array::from_fn`, of a closure that changes nothing: tables of what it answers at each place.
use mathlib.Core.Path.{◌≡◌, refl, sym, ap, subst, ◌∙◌}
use mathlib.Core.List.{List, [], ◌∷◌, map}
use Prim.Native.Nat.{ℕ, zero, suc, ◌+◌, ◌*◌, ◌≤◌, ◌<◌, zero-le}
use native.Mathlib.Nat.{add-zero, zero-add}
use native.Mathlib.Omega.{arith}
use lib.ListN.{length, get_or, length-map, get_or-map}
use lib.Seq.{ext_get_or}
use Rattle.std.proofs.Common.{inl, inr}
use Rattle.std.proofs.lemmas.Bool.{cases_lt}
use Rattle.std.proofs.lemmas.List.{get_or_past}
use denote.Param.Members.{Mut, Called}
use Rattle.std.specs.Array.{IsFromFnResult, IsFromFnResultFrom, MapsFrom, IsMapOf}
use Rattle.basis.specs.Sums.{sum}
use Rattle.basis.specs.Tables.{tab}
use Rattle.basis.proofs.Sums.{sum_at_most}
use Rattle.basis.proofs.Tables.{length-tab, get_or-tab, tab_of, tab-map}

module _ {F B : Type 0} (g : Mut F (ℕ × Unit {0}) B) (h : ℕ → B) (f : F) (n : ℕ) (says : (i : ℕ) (y : B) (q : F) → i < n → Called g f (i, tt) y q → (y ≡ h i) × (q ≡ f)) where
  made_at : (ys : List B) (i m : ℕ) → i + m ≡ n → IsFromFnResultFrom g f ys i m → (k : ℕ) (d : B) → k < m → get_or ys (i + k) d ≡ h (i + k)
  made_at ys i zero e p k d l = absurd (omega arith)
  made_at ys i (suc m) e p zero d l =
      let s = says i p.1 p.0 (omega arith) p.3 in
      rw (add-zero i) (p.2.1 d ∙ s.0)
  made_at ys i (suc m) e p (suc k) d l =
      let s = says i p.1 p.0 (omega arith) p.3 in
      let rest : IsFromFnResultFrom g f ys (i + 1) m = subst (λ (q : F). IsFromFnResultFrom g q ys (i + 1) m) s.1 p.4 in
      let j : i + suc k ≡ i + 1 + k = omega arith in
      rw j (made_at ys (i + 1) m (omega arith) rest k d (omega arith))

  pub made_tab : {ys : List B} → IsFromFnResult g f ys n → ys ≡ tab h n
  made_tab {ys} p =
      let t = length-tab h n in
      ext_get_or (h 0) ys (tab h n) (p.long ∙ sym t)
      (λ k l. let m : k < n = omega (arith, p.long) in (simp zero-add at (made_at ys 0 n (omega arith) p.each k (h 0) m)) ∙ sym (get_or-tab h n k (h 0) m))

-- of a list, place by place
module _ {F A B : Type 0} (g : Mut F (ℕ × Unit {0}) B) (h : A → B) (xs : List A) (d : A) (f : F) (n : ℕ) where
  pub made_map : ((i : ℕ) (y : B) (q : F) → i < n → Called g f (i, tt) y q → (y ≡ h (get_or xs i d)) × (q ≡ f)) → length xs ≡ n → {ys : List B} → IsFromFnResult g f ys n → ys ≡ map h xs
  made_map says e p = made_tab g (λ i. h (get_or xs i d)) f n says p ∙ tab-map h xs d n e

-- the same list, as where each number takes a narrower type
module _ {F A : Type 0} (g : Mut F (ℕ × Unit {0}) A) (xs : List A) (d : A) (f : F) (n : ℕ) where
  pub made_same : ((i : ℕ) (y : A) (q : F) → i < n → Called g f (i, tt) y q → (y ≡ get_or xs i d) × (q ≡ f)) → length xs ≡ n → {ys : List A} → IsFromFnResult g f ys n → ys ≡ xs
  made_same says e p = made_tab g (λ i. get_or xs i d) f n says p ∙ ap (tab (λ i. get_or xs i d)) (sym e) ∙ tab_of xs d

-- what `map` makes of an array
module _ {F A B : Type 0} (g : Mut F (A × Unit {0}) B) (h : A → B) (f : F) (says : (x : A) (y : B) (q : F) → Called g f (x, tt) y q → (y ≡ h x) × (q ≡ f)) where
  mapped_at : (xs : List A) (ys : List B) (i m : ℕ) → MapsFrom g f xs ys i m → (k : ℕ) (d : A) (e : B) → k < m → get_or ys (i + k) e ≡ h (get_or xs (i + k) d)
  mapped_at xs ys i zero p k d e l = absurd (omega arith)
  mapped_at xs ys i (suc m) p zero d e l =
      let s = says p.1 p.2 p.0 p.5 in
      rw (add-zero i) (p.4.1 e ∙ s.0 ∙ ap h (sym (p.3.1 d)))
  mapped_at xs ys i (suc m) p (suc k) d e l =
      let s = says p.1 p.2 p.0 p.5 in
      let rest : MapsFrom g f xs ys (i + 1) m = subst (λ (q : F). MapsFrom g q xs ys (i + 1) m) s.1 p.6 in
      let j : i + suc k ≡ i + 1 + k = omega arith in
      rw j (mapped_at xs ys (i + 1) m rest k d e (omega arith))

  pub mapped : (xs : List A) (ys : List B) (n : ℕ) → length xs ≡ n → IsMapOf g f xs ys n → ys ≡ map h xs
  mapped [] [] n e p = refl
  mapped [] (y ∷ ys) n e p = absurd (omega (arith, p.long))
  mapped (x ∷ xs) ys n e p =
      ext_get_or (h x) ys (map h (x ∷ xs)) (p.long ∙ sym e ∙ sym (length-map (x ∷ xs) h))
      (λ k l. let m : k < n = omega (arith, p.long) in (simp zero-add at (mapped_at (x ∷ xs) ys 0 n p.each k x (h x) m)) ∙ sym (get_or-map h (x ∷ xs) k x))

-- a sum of answers that are at most m each
sum_of_small : (m n : ℕ) (ys : List ℕ) → length ys ≡ n → ((k : ℕ) → k < n → get_or ys k 0 ≤ m) → sum ys ≤ n * m
sum_of_small m n ys e h = rw (← e) (sum_at_most m ys every)
  where
    every : (k : ℕ) → get_or ys k 0 ≤ m
    every k = elim (cases_lt k n) [ inl l ↦ h k l | inr l ↦ rw (get_or_past ys k 0 (omega (arith, e))) zero-le ]

module _ {F : Type 0} (m n : ℕ) where
  pub made_sum : (g : Mut F (ℕ × Unit {0}) ℕ) {f : F} {ys : List ℕ} → ((i y : ℕ) (p q : F) → i < n → Called g p (i, tt) y q → y ≤ m) → IsFromFnResult g f ys n → sum ys ≤ n * m
  made_sum g {f} {ys} small p = sum_of_small m n ys p.long (λ k l. let r = p.at k 0 l in small k (get_or ys k 0) r.0 r.1 l r.2)

  pub mapped_sum : {A : Type 0} (d : A) (g : Mut F (A × Unit {0}) ℕ) {f : F} {xs : List A} {ys : List ℕ} → ((x : A) (y : ℕ) (p q : F) → Called g p (x, tt) y q → y ≤ m) → IsMapOf g f xs ys n → sum ys ≤ n * m
  mapped_sum d g {f} {xs} {ys} small p = sum_of_small m n ys p.long (λ k l. let r = p.at k d 0 l in small (get_or xs k d) (get_or ys k 0) r.0 r.1 r.2)
