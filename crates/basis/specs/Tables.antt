-- Lists made of a function of the place, and a test of each place of a list.
use Rattle.std.specs.Prelude.{Bool, List, map, ℕ}
use Rattle.std.specs.List.{list_all, enumerate_from, range_with_len}

-- f i, f (i + 1), .., n elements
unfoldable pub tab_from : {A : Type 0} → (ℕ → A) → ℕ → ℕ → List A
tab_from f i n = map f (range_with_len i n)

-- f 0, f 1, .., f (n - 1)
abbrev pub tab : {A : Type 0} → (ℕ → A) → ℕ → List A
tab f n = tab_from f 0 n

-- the test of a place and its entry holds at every place of the list, the first of which has this number
abbrev pub every_from : (ℕ → ℕ → Bool) → ℕ → List ℕ → Bool
every_from test first l = list_all (λ entry. test entry.0 entry.1) (enumerate_from first l)
