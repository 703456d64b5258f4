-- Sums over a list and over a count, and the greatest element of a list.
use Rattle.std.specs.Prelude.{List, [], ◌∷◌, Bool, ℕ, zero, suc, ◌+◌, max, leb, sum as sum_of_all}
use Rattle.std.specs.List.{list_all}

-- the sum of a list's elements
abbrev pub sum : List ℕ → ℕ
sum xs = sum_of_all xs

-- f 0 + .. + f (n - 1)
unfoldable pub sum_up : (ℕ → ℕ) → ℕ → ℕ
sum_up f zero = 0
sum_up f (suc n) = sum_up f n + f n

-- no element is above the limit
abbrev pub all_at_most : ℕ → List ℕ → Bool
all_at_most limit xs = list_all (λ x. leb x limit) xs

-- the greatest element, 0 of an empty list
unfoldable pub greatest : List ℕ → ℕ
greatest [] = 0
greatest (x ∷ xs) = max x (greatest xs)
