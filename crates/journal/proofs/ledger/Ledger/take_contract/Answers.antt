-- `journal::ledger::Ledger::take_contract` meets its contract: the producer's sum moves with the balance. Assumes nothing.
use Rattle.std.proofs.Common.{◌≡◌, sym, ap, ◌∙◌, arith}
use Prim.Native.Nat.{ℕ, ◌+◌, ◌-◌}
use Rattle.journal.proofs.Ready.{ready_beside_contract}
use Rattle.journal.proofs.Summed.{ranged-contract, committed_room, released_room, moved, contract_summed}
use Rattle.journal.proofs.ledger.Ledger.take_contract.Goals as goal
use Rattle.journal.proofs.ledger.Ledger.take_contract.Goals.{in-Commit, in-Release}

pub overflow_sub-self-2 : goal.overflow_sub-self-2
overflow_sub-self-2 c =
    let a = c.args in
    (ranged-contract a.self.now.book a.producer a.consumer a.act c.in_ok-settle_contract_by.ensures).producer.least

pub bounds-self-producer : goal.bounds-self-producer
bounds-self-producer c =
    let a = c.args in
    let r = ranged-contract a.self.now.book a.producer a.consumer a.act c.in_ok-settle_contract_by.ensures in
    omega (arith, r.producer.least, r.producer.most)

pub overflow_add-self : goal.overflow_add-self
overflow_add-self c =
    let a = c.args in
    let b = a.self.now.book in
    let r = committed_room b a.producer a.consumer c.in-Commit.q (rw c.in-Commit.is at c.in_ok-settle_contract_by.ensures) in
    omega (arith, r, a.self.now.summed.few (a.producer - 1), c.sum_of-total.ensures, c.from.ensures)

pub overflow_sub-self : goal.overflow_sub-self
overflow_sub-self c =
    let a = c.args in
    let b = a.self.now.book in
    let r = released_room b a.producer a.consumer c.in-Release.q (rw c.in-Release.is at c.in_ok-settle_contract_by.ensures) in
    omega (arith, r.0, r.1, c.sum_of-total.ensures, c.from-in-Release.ensures)

pub invariant_of-self-2 : goal.invariant_of-self-2
invariant_of-self-2 c =
    let a = c.args in
    let l = a.self.now in
    let total = c.sum_of-total.result in
    let sum_now : c.match-act.self ≡ moved a.act total = elim c.match-act.branch [
      | in-Commit w ↦ w.self-is ∙ ap (λ (n : ℕ). total + n) w.from.ensures ∙ ap (λ x. moved x total) (sym w.in-Commit.is)
      | in-Release w ↦ w.self-is ∙ ap (λ (n : ℕ). total - n) w.from-in-Release.ensures ∙ ap (λ x. moved x total) (sym w.in-Release.is)
    ] in
    record {
      ready = ready_beside_contract l.book a.producer a.consumer a.act c.in_ok-settle_contract_by.ensures l.ready;
      summed = contract_summed l.book a.producer a.consumer a.act c.in_ok-settle_contract_by.ensures l.summed (sum_now ∙ ap (moved a.act) c.sum_of-total.ensures);
    }
