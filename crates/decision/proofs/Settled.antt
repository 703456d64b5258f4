-- What is decided of a call from what stands at its place, stored there, is the call's reply.
use mathlib.Core.Path.{◌≡◌, refl, ap, ◌∙◌}
use mathlib.Core.Bool.{Bool, true, false}
use mathlib.Core.List.{List, []}
use Prim.Native.Nat.{ℕ, ◌-◌, ◌<◌}
use native.Mathlib.Omega.{arith}
use borrow.Author.Tests.{eqb-true}
use lib.Dec.{eqb}
use lib.ListN.{get_or, set}
use Rattle.basis.specs.Choice.{pick}
use Rattle.basis.specs.Sums.{sum}
use Rattle.basis.proofs.Choice.{handed_on}
use Rattle.quantities.specs.Limits.{consumers}
use Rattle.table.specs.Ranges.{call_number}
use Rattle.table.specs.declared.calls.Call.TheVariants as call
use Rattle.table.specs.declared.consumers.ConsumerCall.{ConsumerCall}
use Rattle.table.specs.declared.contracts.ContractCall.{ContractCall}
use Rattle.table.proofs.ConsumerLaws.{consumer_numbered}
use Rattle.table.proofs.ContractLaws.{contract_numbered}
use Rattle.state.specs.declared.kept.Stage.{Stage}
use Rattle.state.specs.declared.kept.Stage.TheVariants.{Firm}
use Rattle.state.specs.declared.kept.Consumer.{Consumer}
use Rattle.state.specs.declared.kept.Declaration.{Declaration}
use Rattle.state.specs.declared.kept.Book.{Book}
use Rattle.state.specs.State.{Reply}
use Rattle.state.specs.State.{fresh_consumer, cells, cell_of, row_of, with_consumers, with_balances, ranged, staged}
use Rattle.quantities.specs.Refusals.{Decided, Refused, Stored, decided_by}
use Rattle.decision.specs.declared.contracts.Balance.{Balance}
use Rattle.state.specs.Places.{place_of}
use Rattle.decision.specs.Consumers.{known, consumer_rest, consumer_after, consumer_number, after_consumer, consumer_of, consumer_answer_of}
use Rattle.decision.specs.ContractCalls.{contract_rest, balance_after, contract_number, after_contract, contract_of, balance_at, contract_answer_of}
use Rattle.state.proofs.Placed.{own_place}
use Rattle.state.proofs.Replies.{reply, by_number, replies_agree, ranges_alone}

-- an answer is stored
abbrev pub settled_consumer : Book → ℕ → Decided Consumer → Reply
settled_consumer b place (Refused number) = reply number b
settled_consumer b place (Stored x) = reply 0 (with_consumers b (set b.consumers place x))

abbrev pub settled_balance : Book → Decided Balance → Reply
settled_balance b (Refused number) = reply number b
settled_balance b (Stored x) = reply 0 (with_balances b (set b.balances x.cell x.balance))

module _ (b : Book) (consumer : ℕ) (act : ConsumerCall) (place : ℕ) (e : place ≡ place_of consumers consumer) where
  consumer_here : call_number (call.Consumer consumer act) [] ≡ 0 → place ≡ consumer - 1
  consumer_here z = e ∙ own_place (consumer_numbered consumer act [] z)

  pub consumer_settled : settled_consumer b place (consumer_answer_of consumer act b.stage (get_or b.consumers place fresh_consumer)) ≡ consumer_of b consumer act
  unfolding consumer_answer_of consumer_of consumer_number after_consumer
  consumer_settled =
      let at : ℕ → Consumer = λ p. get_or b.consumers p fresh_consumer in
      let left : ℕ → ℕ = λ p. consumer_rest act b.stage (at p) in
      let new : ℕ → Book = λ p. with_consumers b (set b.consumers p (consumer_after act (at p))) in
      let n : ℕ = ranged (call.Consumer consumer act) [] (left place) in
      by_number (settled_consumer b place) (Stored (consumer_after act (at place))) Refused b (new place) n refl (λ m. refl)
      ∙ replies_agree n (ranged (call.Consumer consumer act) [] (left (consumer - 1))) b (new place) (new (consumer - 1))
      (ranges_alone (call.Consumer consumer act) [] (left place) (left (consumer - 1)) (λ z. ap left (consumer_here z)))
      (λ z. ap new (consumer_here (handed_on (call_number (call.Consumer consumer act) []) (left place) z).0))

module _ (b : Book) (producer consumer : ℕ) (act : ContractCall) (place : ℕ) (e : place ≡ place_of consumers consumer) where
  consumer_of_contract : call_number (call.Contract producer consumer act) [] ≡ 0 → place ≡ consumer - 1
  consumer_of_contract z = e ∙ own_place (contract_numbered producer consumer act [] z).consumer

  pub contract_settled : settled_balance b (contract_answer_of producer consumer act b.stage (get_or b.consumers place fresh_consumer).declaration b.balances b.limits) ≡ contract_of b producer consumer act
  unfolding contract_answer_of contract_of contract_number after_contract
  contract_settled =
      let cell : ℕ = cell_of producer consumer in
      let balance : ℕ = get_or b.balances cell 0 in
      let rest : ℕ = contract_rest act (get_or b.limits (producer - 1) 0) (sum (row_of b.balances producer)) balance in
      let left : ℕ → ℕ = λ p. staged Firm b.stage (known (get_or b.consumers p fresh_consumer).declaration rest) in
      let new : Book = with_balances b (set b.balances cell (balance_after act balance)) in
      let n : ℕ = ranged (call.Contract producer consumer act) [] (left place) in
      by_number (settled_balance b) (Stored (balance_at cell (balance_after act balance))) Refused b new n refl (λ m. refl)
      ∙ replies_agree n (ranged (call.Contract producer consumer act) [] (left (consumer - 1))) b new new
      (ranges_alone (call.Contract producer consumer act) [] (left place) (left (consumer - 1)) (λ z. ap left (consumer_of_contract z)))
      (λ z. refl)

-- an answer that stores has no number
no_number : (n : ℕ) (x y : Balance) → decided_by n x ≡ Stored y → (n ≡ 0) × (x ≡ y)
no_number n x y e = go (eqb n 0) refl e
  where
    go : (t : Bool) → eqb n 0 ≡ t → pick t (Stored x) (Refused n) ≡ Stored y → (n ≡ 0) × (x ≡ y)
    go true q h = (eqb-true n 0 q, cc h)
    go false q h = let z : ◌≡◌ {A = ℕ} 0 1 = cc in absurd (omega arith)

-- a balance is stored at a cell of the book
pub cell_within : (producer consumer : ℕ) (act : ContractCall) (stage : Stage) (d : Declaration) (balances limits : List ℕ) (x : Balance) → contract_answer_of producer consumer act stage d balances limits ≡ Stored x → x.cell < cells
unfolding contract_answer_of contract_number
cell_within producer consumer act stage d balances limits x e =
    let k = no_number _ (balance_at (cell_of producer consumer) _) x e in
    let r = contract_numbered producer consumer act [] (handed_on (call_number (call.Contract producer consumer act) []) _ k.0).0 in
    omega (arith, ap (λ (y : Balance). y.cell) k.1, r.producer.most, r.consumer.least, r.consumer.most)
