-- Texts one after the other.
use mathlib.Core.Path.{◌≡◌, refl, sym, ap, ◌∙◌}
use mathlib.Core.List.{List, [], ◌++◌, append_assoc, append-nil}
use Prim.Native.Nat.{ℕ, zero, suc, ◌+◌, ◌-◌, ◌≤◌, ◌<◌}
use native.Mathlib.Nat.{add-zero, add-suc, suc-add, zero-add, le_refl}
use native.Mathlib.Numerals.{add-one}
use native.Mathlib.Omega.{arith}
use lib.ListN.{length, length-append}
use Rattle.text.specs.Text.{joined, joined_from}

joined_from_more : (f : ℕ → List ℕ) (i n : ℕ) → joined_from f i (suc n) ≡ joined_from f i n ++ f (i + n)
unfolding joined_from
joined_from_more f i zero = append-nil (f i) ∙ ap f (sym (add-zero i))
joined_from_more f i (suc n) =
    ap (λ (l : List ℕ). f i ++ l) (joined_from_more f (suc i) n)
    ∙ sym (append_assoc (f i) (joined_from f (suc i) n) (f (suc i + n)))
    ∙ ap (λ k. (f i ++ joined_from f (suc i) n) ++ f k) (suc-add i n ∙ sym (add-suc i n))

-- one text more
pub joined_more : (f : ℕ → List ℕ) (n : ℕ) → joined f (n + 1) ≡ joined f n ++ f n
joined_more f n =
    ap (λ k. joined f k) (add-one n) ∙ joined_from_more f 0 n ∙ ap (λ k. joined f n ++ f k) (zero-add n)

-- the same texts
pub joined_same : (f g : ℕ → List ℕ) (n : ℕ) → ((k : ℕ) → k < n → f k ≡ g k) → joined f n ≡ joined g n
unfolding joined_from
joined_same f g zero h = refl
joined_same f g (suc n) h =
    ap (joined f) (sym (add-one n))
    ∙ joined_more f n
    ∙ ap (λ (l : List ℕ). l ++ f n) (joined_same f g n (λ k p. h k (omega arith)))
    ∙ ap (λ (l : List ℕ). joined g n ++ l) (h n (omega arith))
    ∙ sym (joined_more g n)
    ∙ ap (joined g) (add-one n)

pub length-joined_more : (f : ℕ → List ℕ) (n : ℕ) → length (joined f (n + 1)) ≡ length (joined f n) + length (f n)
length-joined_more f n = ap length (joined_more f n) ∙ length-append (joined f n) (f n)

-- fewer texts are not longer
joined_with : (f : ℕ → List ℕ) (i d : ℕ) → length (joined f i) ≤ length (joined f (i + d))
joined_with f i zero = rw add-zero (le_refl (length (joined f i)))
joined_with f i (suc d) =
    let e : i + suc d ≡ i + d + 1 = omega arith in
    rw e (omega (arith, joined_with f i d, length-joined_more f (i + d)))

pub joined-within : (f : ℕ → List ℕ) (i n : ℕ) → i ≤ n → length (joined f i) ≤ length (joined f n)
joined-within f i n h = let e : i + (n - i) ≡ n = omega arith in rw e at (joined_with f i (n - i))

-- texts of at most one byte each
pub joined-short : (f : ℕ → List ℕ) (n : ℕ) → ((k : ℕ) → length (f k) ≤ 1) → length (joined f n) ≤ n
unfolding joined_from
joined-short f zero h = omega arith
joined-short f (suc n) h =
    let e : length (joined f (n + 1)) ≡ length (joined f (suc n)) = ap (λ m. length (joined f m)) (add-one n) in
    omega (arith, e, joined-short f n h, length-joined_more f n, h n)

-- no text
pub joined_none : (f : ℕ → List ℕ) → joined f 0 ≡ []
unfolding joined_from
joined_none f = refl

-- behind a text: no other, and one more
pub joined_start : (l : List ℕ) (f : ℕ → List ℕ) → l ≡ l ++ joined f 0
joined_start l f = sym (ap (λ t. l ++ t) (joined_none f) ∙ append-nil l)

pub joined_next : (l : List ℕ) (f : ℕ → List ℕ) (n : ℕ) {so_far new t : List ℕ} → new ≡ so_far ++ t → so_far ≡ l ++ joined f n → t ≡ f n → new ≡ l ++ joined f (n + 1)
joined_next l f n {so_far} {new} {t} e s k =
    e
    ∙ ap (λ x. x ++ t) s
    ∙ ap (λ x. (l ++ joined f n) ++ x) k
    ∙ append_assoc l (joined f n) (f n)
    ∙ ap (λ x. l ++ x) (sym (joined_more f n))
