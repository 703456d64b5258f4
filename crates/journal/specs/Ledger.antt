-- What a run keeps beside its book: the sum of each producer's balances, and from the fix on the figures from which a close's number is found.
use Rattle.std.specs.Prelude.{◌≡◌, List, ℕ, suc, ◌≤◌, length, get_or, Option}
use Rattle.basis.specs.Sums.{sum}
use Rattle.basis.specs.Tables.{tab}
use Rattle.quantities.specs.Limits.{producers, consumers}
use Rattle.state.specs.declared.kept.Book.{Book}
use Rattle.state.specs.State.{cells, row_of, stage_number}
use Rattle.fix.specs.Fix.{greatest_limit, weights_of}
use Rattle.close.specs.Close.{reals_of}

-- a place for each consumer, and in stage firm what all of them declared and the real demand of each
pub record Ready (b : Book) (total : ℕ) (reals : List (Option ℕ)) : Type 0 where
  pub count : length reals ≡ consumers
  pub total_right : stage_number b.stage ≡ 2 → total ≡ sum (weights_of b.consumers)
  pub reals_right : stage_number b.stage ≡ 2 → reals ≡ reals_of b.consumers

-- a cell for each pair, the sum of each producer's balances, and what a producer may commit
pub record Summed (limits balances sums : List ℕ) : Type 0 where
  pub whole : length balances ≡ cells
  pub right : sums ≡ tab (λ i. sum (row_of balances (suc i))) producers
  pub few : (k : ℕ) → get_or limits k 0 ≤ greatest_limit
