-- Text as bytes: amounts in decimal digits, and lines of them.
use Rattle.std.specs.Prelude.{List, [], ◌∷◌, ◌++◌, ℕ, zero, suc, ◌+◌, ◌-◌, ◌*◌, ◌/◌, ◌%◌, ltb}
use Rattle.std.specs.List.{flat_map}
use Rattle.basis.specs.Choice.{pick}
use Rattle.text.specs.declared.amounts.Amount.{Amount}

-- the decimal digits of x, the last one behind those of x / 10; so many turns are enough as there are digits
unfoldable pub digits : ℕ → ℕ → List ℕ
digits zero x = []
digits (suc turns) x =
    let more = digits turns (x / 10) ++ ((48 + x % 10) ∷ []) in
    pick (ltb x 10) ((48 + x) ∷ []) more

-- .. of any number: std's `decimal` ends at 64 digits, and its laws with it
unfoldable pub decimal : ℕ → List ℕ
decimal x = digits (suc x) x

-- a number, and a difference
abbrev pub less : ℕ → ℕ → Amount
less plus minus = record { plus = plus; minus = minus }

abbrev pub plain : ℕ → Amount
plain x = less x 0

-- plus less minus, with the minus sign directly before the first digit
unfoldable pub amount_of : Amount → List ℕ
amount_of a =
    pick (ltb a.plus a.minus) (45 ∷ decimal (a.minus - a.plus)) (decimal (a.plus - a.minus))

-- amounts, each behind a blank
abbrev pub spaced : List Amount → List ℕ
spaced amounts = flat_map (λ a. 32 ∷ amount_of a) amounts

-- a letter, the amounts, a line feed
unfoldable pub line_of : ℕ → List Amount → List ℕ
line_of letter amounts = letter ∷ (spaced amounts ++ (10 ∷ []))

-- the most bytes of an amount, a sign and the 20 digits of 64 bits; of an amount behind its blank; of a line of three amounts
abbrev pub amount_most : ℕ
amount_most = 21

abbrev pub spaced_most : ℕ
spaced_most = amount_most + 1

abbrev pub line_most : ℕ
line_most = 3 * spaced_most + 2

-- f i, f (i + 1), .., n texts one after the other
unfoldable pub joined_from : (ℕ → List ℕ) → ℕ → ℕ → List ℕ
joined_from f i zero = []
joined_from f i (suc n) = f i ++ joined_from f (suc i) n

abbrev pub joined : (ℕ → List ℕ) → ℕ → List ℕ
joined f n = joined_from f 0 n
