-- Where a call's unit and consumer stand in the book: steps of the program.
use Rattle.std.specs.Prelude.{ℕ, ◌-◌, leb, Option, None, Some}
use Rattle.basis.specs.Choice.{pick, between}

-- the place of a number from 1 to the count, if it is one
abbrev pub place_among : ℕ → ℕ → Option ℕ
place_among count n = pick (between 1 count n) (Some (n - 1)) None

-- the place of a number from 1 on, 0 where it is out of range
abbrev pub place_of : ℕ → ℕ → ℕ
place_of greatest n = pick (leb n greatest) (n - 1) 0
