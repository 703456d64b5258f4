-- Decimal digits, and how long amounts are.
use mathlib.Core.Path.{◌≡◌, refl, ap, ◌∙◌}
use mathlib.Core.Bool.{Bool, true, false}
use mathlib.Core.List.{List, [], ◌∷◌, ◌++◌}
use Prim.Native.Nat.{ℕ, zero, suc, ◌+◌, ◌-◌, ◌/◌, ◌%◌, ◌^◌, ◌≤◌, ◌<◌}
use native.Mathlib.Nat.{div-lt_iff_lt-mul, pow-suc}
use native.Mathlib.Omega.{arith}
use borrow.Author.Tests.{lt-ltb, le-ltb, ltb-true, ltb-false}
use lib.Dec.{ltb}
use lib.ListN.{length, length-append}
use Rattle.text.specs.declared.amounts.Amount.{Amount}
use Rattle.text.specs.Text.{digits, decimal, amount_of}

-- as many turns as are enough give the same digits
digits_enough : (m n x : ℕ) → x < m → x < n → digits m x ≡ digits n x
unfolding digits
digits_enough zero n x h k = absurd (omega arith)
digits_enough (suc m) zero x h k = absurd (omega arith)
digits_enough (suc m) (suc n) x h k =
    go (ltb x 10) refl (λ p. digits_enough m n (x / 10) (omega arith) (omega arith))
  where
    go : (t : Bool) → ltb x 10 ≡ t → (10 ≤ x → digits m (x / 10) ≡ digits n (x / 10)) → digits (suc m) x ≡ digits (suc n) x
    go true e f = rw e
    go false e f = rw e (ap (λ (l : List ℕ). l ++ ((48 + x % 10) ∷ [])) (f (ltb-false x 10 e)))

pub decimal_digit : (x : ℕ) → x < 10 → decimal x ≡ (48 + x) ∷ []
unfolding decimal digits
decimal_digit x h = rw (lt-ltb x 10 h)

pub decimal_more : (x : ℕ) → 10 ≤ x → decimal x ≡ decimal (x / 10) ++ ((48 + x % 10) ∷ [])
unfolding decimal digits
decimal_more x h =
    rw (le-ltb x 10 h)
    (ap (λ (l : List ℕ). l ++ ((48 + x % 10) ∷ [])) (digits_enough x (suc (x / 10)) (x / 10) (omega arith) (omega arith)))

pub length_digit : (x : ℕ) → x < 10 → length (decimal x) ≡ 1
length_digit x h = ap length (decimal_digit x h)

pub length_more : (x : ℕ) → 10 ≤ x → length (decimal x) ≡ length (decimal (x / 10)) + 1
length_more x h = ap length (decimal_more x h) ∙ length-append (decimal (x / 10)) ((48 + x % 10) ∷ [])

-- a number below 10 to the n + 1 has at most n + 1 digits
pub decimal-short : (n x : ℕ) → x < 10 ^ suc n → length (decimal x) ≤ suc n
decimal-short zero x h = omega (arith, length_digit x h)
decimal-short (suc n) x h =
    go (ltb x 10) refl (decimal-short n (x / 10) ((div-lt_iff_lt-mul {k = 10} (omega arith)).1 (rw (← pow-suc 10 (suc n)) h)))
  where
    go : (t : Bool) → ltb x 10 ≡ t → length (decimal (x / 10)) ≤ suc n → length (decimal x) ≤ suc (suc n)
    go true e k = omega (arith, length_digit x (ltb-true x 10 e))
    go false e k = omega (arith, length_more x (ltb-false x 10 e))

-- an amount below 0 has its sign before the digits, any other has none
pub amount_below : (a : Amount) → a.plus < a.minus → amount_of a ≡ 45 ∷ decimal (a.minus - a.plus)
unfolding amount_of
amount_below a h = rw (lt-ltb a.plus a.minus h)

pub amount_above : (a : Amount) → a.minus ≤ a.plus → amount_of a ≡ decimal (a.plus - a.minus)
unfolding amount_of
amount_above a h = rw (le-ltb a.plus a.minus h)

-- the digits before the last one of a number of 64 bits, and all of them
pub digits_before_last : (x : ℕ) → x < 2 ^ 64 → length (decimal (x / 10)) ≤ 19
digits_before_last x h = decimal-short 18 (x / 10) (omega arith)

pub digits_short : (x : ℕ) → x < 2 ^ 64 → length (decimal x) ≤ 20
digits_short x h = decimal-short 19 x (omega arith)
