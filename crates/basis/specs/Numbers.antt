-- Numbers written as bytes, low byte first.
use Rattle.std.specs.Prelude.{List, [], ◌∷◌, ◌++◌, ℕ, zero, suc, ◌+◌, ◌*◌, ◌/◌, ◌%◌, ◌<◌, length, take, drop, get_or}
use Rattle.std.specs.List.{flat_map}
use Rattle.basis.specs.Tables.{tab}

-- each element is a byte
abbrev pub Bytes : List ℕ → Type 0
Bytes s = (k : ℕ) → get_or s k 0 < 256

-- the number that the bytes stand for
unfoldable pub number : List ℕ → ℕ
number [] = 0
number (b ∷ bs) = b + 256 * number bs

-- the low bytes of a number, as many as the width says
unfoldable pub bytes_of : ℕ → ℕ → List ℕ
bytes_of zero x = []
bytes_of (suc w) x = x % 256 ∷ bytes_of w (x / 256)

-- the number of so many bytes from a place on
abbrev pub number_at : ℕ → List ℕ → ℕ → ℕ
number_at w s at = number (take w (drop at s))

-- the list with others put over it from a place on
abbrev pub written : {A : Type 0} → List A → ℕ → List A → List A
written old at new = take at old ++ (new ++ drop (at + length new) old)

-- n numbers of w bytes each, one after the other
abbrev pub numbers_of : ℕ → ℕ → List ℕ → List ℕ
numbers_of w n s = tab (λ i. number_at w s (w * i)) n

-- the bytes of numbers one after the other, w bytes each
unfoldable pub all_bytes_of : ℕ → List ℕ → List ℕ
all_bytes_of w xs = flat_map (bytes_of w) xs
