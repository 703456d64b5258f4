-- The calls of a contract between a producer and a consumer: commit, release ("commit, release .. belong to firm").
use Rattle.std.specs.Prelude.{List, [], ℕ, ◌+◌, ◌-◌, ltb, get_or, set}
use Rattle.basis.specs.Choice.{pick, between}
use Rattle.basis.specs.Sums.{sum}
use Rattle.quantities.specs.Limits.{producers}
use Rattle.table.specs.declared.calls.Call.TheVariants as call
use Rattle.table.specs.declared.contracts.ContractCall.{ContractCall}
use Rattle.table.specs.declared.contracts.ContractCall.TheVariants.{Commit, Release}
use Rattle.state.specs.declared.kept.Stage.{Stage}
use Rattle.state.specs.declared.kept.Stage.TheVariants.{Firm}
use Rattle.state.specs.declared.kept.Declaration.{Declaration}
use Rattle.state.specs.declared.kept.Book.{Book}
use Rattle.state.specs.State.{Reply}
use Rattle.decision.specs.Consumers.{known}
use Rattle.decision.specs.declared.contracts.Balance.{Balance}
use Rattle.quantities.specs.Refusals.{Decided, decided_by}
use Rattle.state.specs.State.{consumer_at, cell_of, row_of, with_balances, ranged, staged, reply_of}

-- the sum of a producer's balances, 0 where there is no such producer
abbrev pub producer_balance : List ℕ → ℕ → ℕ
producer_balance balances producer = pick (between 1 producers producer) (sum (row_of balances producer)) 0

-- 11: the producer's balances + q exceed its units' efficient offers; 12: q above the pair's balance
abbrev pub commit_rest : ℕ → ℕ → ℕ → ℕ
commit_rest limit total q = pick (ltb limit (total + q)) 11 0

abbrev pub release_rest : ℕ → ℕ → ℕ
release_rest balance q = pick (ltb balance q) 12 0

-- behind 3, 4 and 10, from what the producer may commit, the sum of its balances and the pair's balance
unfoldable pub contract_rest : ContractCall → ℕ → ℕ → ℕ → ℕ
contract_rest (Commit q) limit total balance = commit_rest limit total q
contract_rest (Release q) limit total balance = release_rest balance q

-- the pair's balance after a call
unfoldable pub balance_after : ContractCall → ℕ → ℕ
balance_after (Commit q) balance = balance + q
balance_after (Release q) balance = balance - q

-- commit: 3, 4, 10, 11; release: 3, 4, 10, 12
unfoldable pub contract_number : ℕ → ℕ → ContractCall → Stage → Declaration → List ℕ → List ℕ → ℕ
contract_number producer consumer act stage declaration balances limits =
    ranged (call.Contract producer consumer act) []
    (staged Firm stage
    (known declaration
    (contract_rest act (get_or limits (producer - 1) 0) (sum (row_of balances producer)) (get_or balances (cell_of producer consumer) 0))))

-- the book after an accepted call of a contract
unfoldable pub after_contract : Book → ℕ → ℕ → ContractCall → Book
after_contract b producer consumer act =
    with_balances b
    (set b.balances (cell_of producer consumer) (balance_after act (get_or b.balances (cell_of producer consumer) 0)))

unfoldable pub contract_of : Book → ℕ → ℕ → ContractCall → Reply
contract_of b producer consumer act =
    reply_of (contract_number producer consumer act b.stage (consumer_at b.consumers consumer).declaration b.balances b.limits) b
    (after_contract b producer consumer act)

-- a balance at a cell
abbrev pub balance_at : ℕ → ℕ → Balance
balance_at cell balance = record { cell = cell; balance = balance }

-- what a call comes to for its contract
unfoldable pub contract_answer_of : ℕ → ℕ → ContractCall → Stage → Declaration → List ℕ → List ℕ → Decided Balance
contract_answer_of producer consumer act stage declaration balances limits =
    decided_by (contract_number producer consumer act stage declaration balances limits)
    (balance_at (cell_of producer consumer) (balance_after act (get_or balances (cell_of producer consumer) 0)))
