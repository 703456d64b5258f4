-- What is promised of the amounts of a division ("Division by shares"), whatever the total and the weights: a total T by weights, W
-- being their sum, which is not 0 (weights that sum to 0 meet 13).
use Rattle.std.specs.Prelude.{◌≡◌, List, ◌⊎◌, ℕ, ◌+◌, ◌*◌, ◌/◌, ◌%◌, ◌<◌, length, get_or}
use Rattle.basis.specs.Sums.{sum}
use Rattle.share.specs.Division.{shares}

-- what the participant at place i gets
abbrev pub amount_at : ℕ → List ℕ → ℕ → ℕ
amount_at T weights i = get_or (shares T weights) i 0

-- T·weight / W of the participant at place i, rounded down, and its remainder
abbrev pub quotient_at : ℕ → List ℕ → ℕ → ℕ
quotient_at T weights i = T * get_or weights i 0 / sum weights

abbrev pub remainder_at : ℕ → List ℕ → ℕ → ℕ
remainder_at T weights i = T * get_or weights i 0 % sum weights

-- "the largest remainders, ties to the lower consumer number": the participant at place i comes before the one at place j
abbrev pub ComesBefore : ℕ → List ℕ → ℕ → ℕ → Type 0
ComesBefore T weights i j =
    (remainder_at T weights j < remainder_at T weights i)
    ⊎ ((remainder_at T weights j ≡ remainder_at T weights i) × (i < j))

pub record DividedByShares (T : ℕ) (weights : List ℕ) : Type 0 where
  -- there is one amount for each weight
  pub one_for_each : length (shares T weights) ≡ length weights
  -- the amounts add up to T
  pub add_up : sum (shares T weights) ≡ T
  -- "Each gets T·weight / W; the units left over go singly": each has its quotient, or one unit more where that leaves a remainder
  pub quotient_or_more : (i : ℕ) → (amount_at T weights i ≡ quotient_at T weights i) ⊎ ((amount_at T weights i ≡ quotient_at T weights i + 1) × (0 < remainder_at T weights i))
  -- each amount times W is less than W away from T times its weight
  pub not_above : (i : ℕ) → amount_at T weights i * sum weights < T * get_or weights i 0 + sum weights
  pub not_below : (i : ℕ) → T * get_or weights i 0 < amount_at T weights i * sum weights + sum weights
  -- whoever got a unit more comes before whoever did not
  pub in_order : (i j : ℕ) → amount_at T weights i ≡ quotient_at T weights i + 1 → amount_at T weights j ≡ quotient_at T weights j → ComesBefore T weights i j
  -- a weight of 0 gets 0
  pub nothing_for_zero : (i : ℕ) → get_or weights i 0 ≡ 0 → amount_at T weights i ≡ 0

-- all of this holds wherever the weights do not sum to 0
abbrev pub SharesDivide : Type 0
SharesDivide = (T : ℕ) (weights : List ℕ) → 0 < sum weights → DividedByShares T weights
