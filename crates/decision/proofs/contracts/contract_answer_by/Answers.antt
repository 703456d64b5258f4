-- What passed the ranges has a producer and a consumer of the book.
use Rattle.std.proofs.Common.{◌≡◌, ◌∙◌, ◌-◌, ◌*◌, ℕ, [], arith, rules}
use Rattle.basis.specs.Sums.{sum}
use Rattle.quantities.specs.Limits.{consumers}
use Rattle.table.specs.Ranges.{fields_number, rest_in_range, call_number}
use Rattle.table.specs.declared.calls.Call.TheVariants as call
use Rattle.table.specs.declared.contracts.ContractCall.{ContractCall}
use Rattle.table.proofs.ContractLaws.{ContractRanged, amount_of, contract_numbered}
use Rattle.state.specs.State.{row_of}
use Rattle.decision.specs.ContractCalls.{contract_answer_of, contract_number, contract_rest, balance_after}
use Rattle.decision.proofs.Rows.{in_row, total_in_range}
use Rattle.decision.proofs.contracts.contract_answer_by.Goals as goal

placed : (producer consumer : ℕ) (act : ContractCall) → 0 ≡ fields_number (call.Contract producer consumer act) → ContractRanged producer consumer (amount_of act)
unfolding call_number rest_in_range
placed producer consumer act n = contract_numbered producer consumer act [] (simp (← n))

pub overflow_sub-row : goal.overflow_sub-row
overflow_sub-row c = omega (arith, (placed c.args.producer c.args.consumer c.args.act c.in_ok-check_fields.ensures).producer.least)

pub overflow_sub-cell : goal.overflow_sub-cell
overflow_sub-cell c = omega (arith, (placed c.args.producer c.args.consumer c.args.act c.in_ok-check_fields.ensures).consumer.least)

pub bounds-limits-row : goal.bounds-limits-row
bounds-limits-row c =
    let r = placed c.args.producer c.args.consumer c.args.act c.in_ok-check_fields.ensures in
    omega (arith, r.producer.least, r.producer.most)

pub bounds-balances-cell : goal.bounds-balances-cell
bounds-balances-cell c =
    let r = placed c.args.producer c.args.consumer c.args.act c.in_ok-check_fields.ensures in
    omega (arith, r.producer.most, r.consumer.least, r.consumer.most)

pub committed-requires : goal.committed-requires
committed-requires c =
    let a = c.args in
    let r = placed a.producer a.consumer a.act c.in_ok-check_fields.ensures in
    omega (arith, in_row a.balances.now ((a.producer - 1) * consumers) consumers (a.consumer - 1) (omega (arith, r.consumer.least, r.consumer.most)), c.requires, total_in_range a.balances.now r.producer)

pub bounds-balances-cell-in-Release : goal.bounds-balances-cell-in-Release
bounds-balances-cell-in-Release c =
    let r = placed c.args.producer c.args.consumer c.args.act c.in_ok-check_fields.ensures in
    omega (arith, r.producer.most, r.consumer.least, r.consumer.most)

pub returns-in_ok-balance-in-Commit : goal.returns-in_ok-balance-in-Commit
unfolding call_number rest_in_range contract_answer_of contract_number contract_rest balance_after
returns-in_ok-balance-in-Commit c =
    let a = c.args in
    let r = placed a.producer a.consumer a.act c.in_ok-check_fields.ensures in
    let e : a.total ≡ sum (row_of a.balances.now a.producer) = c.requires ∙ total_in_range a.balances.now r.producer in
    let k = rw e at c.in_ok-balance-in-Commit.ensures in
    search rules
