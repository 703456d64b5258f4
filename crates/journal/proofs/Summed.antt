-- The sum of each producer's balances, which a run keeps beside its book, stays right with each call.
use mathlib.Core.Path.{◌≡◌, refl, sym, ap, ◌∙◌}
use mathlib.Core.Bool.{Bool, true, false}
use mathlib.Core.List.{List, []}
use Prim.Native.Nat.{ℕ, suc, zero-le, ◌+◌, ◌-◌, ◌*◌, ◌≤◌, ◌<◌}
use native.Mathlib.Omega.{arith}
use borrow.Author.Tests.{eqb-true, eqb-false, ltb-false}
use lib.Dec.{eqb, ltb}
use lib.ListN.{length, get_or, set, length-set, take, drop, replicate}
use lib.Seq.{get_or-set_same, get_or-set_other}
use Rattle.std.proofs.lemmas.List.{get_or_past, drop-replicate, take-replicate, get_or-replicate, length-replicate}
use Rattle.std.specs.Prelude.{Option, None, Some}
use Rattle.std.proofs.Common.{◌⊎◌, inl, inr}
use Rattle.std.proofs.lemmas.Bool.{cases_lt}
use Rattle.basis.specs.Choice.{pick, between}
use Rattle.basis.specs.Sums.{sum}
use Rattle.basis.specs.Tables.{tab}
use Rattle.basis.proofs.Choice.{peel, peel_not, handed_on, between_true}
use Rattle.basis.proofs.Sums.{at_most_sum, sum_zeros}
use Rattle.basis.proofs.Tables.{length-tab, get_or-tab, tab_from_places}
use Rattle.quantities.specs.Limits.{producers, consumers}
use Rattle.table.specs.Ranges.{call_number}
use Rattle.table.specs.declared.calls.Call.TheVariants as call
use Rattle.table.specs.declared.consumers.ConsumerCall.{ConsumerCall}
use Rattle.table.specs.declared.contracts.ContractCall.{ContractCall}
use Rattle.table.specs.declared.contracts.ContractCall.TheVariants.{Commit, Release}
use Rattle.table.proofs.Laws.{Numbered}
use Rattle.table.proofs.ContractLaws.{ContractRanged, amount_of, contract_numbered}
use Rattle.state.specs.declared.kept.Stage.TheVariants.{Firm}
use Rattle.state.specs.declared.kept.Book.{Book}
use Rattle.state.specs.Places.{place_among}
use Rattle.state.specs.State.{Reply, reply_with, reply_of, cells, cell_of, row_of, stage_number, staged, consumer_at}
use Rattle.state.specs.declared.kept.Declaration.{Declaration}
use Rattle.state.proofs.Cells.{row_before, sum_row_set, row_other}
use Rattle.power.specs.declared.component.Hours.{Hours}
use Rattle.fix.specs.Fix.{greatest_limit, offers_of, efficient_in, limit_of, limits_of, fix_number, fixed, fix_of}
use Rattle.close.specs.Close.{closed}
use Rattle.book.specs.Year.{begun, year_of}
use Rattle.decision.specs.Consumers.{is_declared, known, after_consumer, consumer_of}
use Rattle.decision.specs.ContractCalls.{producer_balance, contract_rest, balance_after, contract_number, after_contract, contract_of}
use Rattle.decision.proofs.Rows.{in_row, total_in_range}
use Rattle.journal.specs.Ledger.{Summed}
use Rattle.journal.proofs.Ready.{accepted_book}

-- a call that leaves the balances leaves the sums right
pub summed_aside : {n number : ℕ} (b new : Book) {after : Book} {sums : List ℕ} → new.limits ≡ b.limits → new.balances ≡ b.balances → reply_with number after ≡ reply_of n b new → Summed b.limits b.balances sums → Summed after.limits after.balances sums
summed_aside {n} {number} b new {after} {sums} f k e s = rw (ap (λ (q : Reply). q.book) e) (go (eqb n 0))
  where
    go : (t : Bool) → Summed (pick t new b).limits (pick t new b).balances sums
    go true = rw (f, k) s
    go false = s

-- a list of zeros, at any place
zeros_at : (n k : ℕ) → get_or (replicate n 0) k 0 ≤ 0
zeros_at n k = omega (arith, at_most_sum (replicate n 0) k, sum_zeros n)

-- the sums of no balances
pub none_summed : Summed (replicate producers 0) (replicate cells 0) (replicate producers 0)
none_summed =
    record {
      whole = length-replicate {A = ℕ} cells 0;
      right =
          tab_from_places (λ i. sum (row_of (replicate cells 0) (suc i))) (replicate producers 0) producers 0 (length-replicate {A = ℕ} producers 0)
          (λ k h. get_or-replicate producers k 0 0 h ∙ sym (none k h));
      few = λ k. omega (arith, zeros_at producers k);
    }
  where
    none : (k : ℕ) → k < producers → sum (row_of (replicate cells 0) (suc k)) ≡ 0
    none k h =
        let back : suc k - 1 ≡ k = omega arith in
        ap (λ j. sum (take consumers (drop (j * consumers) (replicate cells 0)))) back
        ∙ ap (λ (l : List ℕ). sum (take consumers l)) (drop-replicate (k * consumers) cells 0)
        ∙ ap sum (take-replicate consumers (cells - k * consumers) 0 (omega (arith, row_before consumers k producers h)))
        ∙ sum_zeros consumers

-- the sum of a producer, 0 where there is no such producer
pub sum_there : {limits balances sums : List ℕ} (s : Summed limits balances sums) {producer : ℕ} → Numbered producers producer → get_or sums (producer - 1) 0 ≡ sum (row_of balances producer)
sum_there {limits} {balances} s {producer} n =
    let suc_back : suc (producer - 1) ≡ producer = omega (arith, n.least) in
    ap (λ l. get_or l (producer - 1) 0) s.right
    ∙ get_or-tab (λ i. sum (row_of balances (suc i))) producers (producer - 1) 0 (omega (arith, n.least, n.most))
    ∙ ap (λ p. sum (row_of balances p)) suc_back

-- what an accepted call of a contract shows, and the sum that it leaves
module _ (b : Book) (producer consumer : ℕ) (act : ContractCall) {after : Book} (e : reply_with 0 after ≡ contract_of b producer consumer act) where
  abbrev cell : ℕ
  cell = cell_of producer consumer

  abbrev balance : ℕ
  balance = get_or b.balances cell 0

  abbrev total : ℕ
  total = sum (row_of b.balances producer)

  abbrev limit : ℕ
  limit = get_or b.limits (producer - 1) 0

  abbrev declaration : Declaration
  declaration = (consumer_at b.consumers consumer).declaration

  abbrev rest : ℕ
  rest = contract_rest act limit total balance

  passed : (call_number (call.Contract producer consumer act) [] ≡ 0) × (rest ≡ 0)
  unfolding contract_of contract_number
  passed =
      let z = sym (ap (λ (r : Reply). r.number) e) in
      let a = handed_on (call_number (call.Contract producer consumer act) []) (staged Firm b.stage (known declaration rest)) z in
      let f = peel_not (eqb (stage_number b.stage) (stage_number Firm)) 3 (known declaration rest) a.1 in
      (a.0, (peel_not (is_declared declaration) 9 rest f.1).1)

  pub ranged-contract : ContractRanged producer consumer (amount_of act)
  ranged-contract = contract_numbered producer consumer act [] passed.0

  balances_after : after.balances ≡ set b.balances cell (balance_after act balance)
  unfolding contract_of after_contract
  balances_after = ap (λ (x : Book). x.balances) (accepted_book _ b (after_contract b producer consumer act) e)

  limits_after : after.limits ≡ b.limits
  unfolding contract_of after_contract
  limits_after = ap (λ (x : Book). x.limits) (accepted_book _ b (after_contract b producer consumer act) e)

  -- a sum stored in the place of the producer's
  stored : {sums : List ℕ} → Summed b.limits b.balances sums → (sum_now : ℕ) → sum_now + balance ≡ total + balance_after act balance → Summed after.limits after.balances (set sums (producer - 1) sum_now)
  stored {sums} s sum_now q =
      let r = ranged-contract in
      let long : length (set sums (producer - 1) sum_now) ≡ producers = length-set sums (producer - 1) sum_now ∙ ap length s.right ∙ length-tab (λ i. sum (row_of b.balances (suc i))) producers in
      rw (limits_after, balances_after)
      (record {
        whole = length-set b.balances cell (balance_after act balance) ∙ s.whole;
        right = tab_from_places (λ i. sum (row_of (set b.balances cell (balance_after act balance)) (suc i))) (set sums (producer - 1) sum_now) producers 0 long (λ k h. each k h (eqb k (producer - 1)) refl);
        few = s.few;
      })
    where
      each : (k : ℕ) → k < producers → (t : Bool) → eqb k (producer - 1) ≡ t → get_or (set sums (producer - 1) sum_now) k 0 ≡ sum (row_of (set b.balances cell (balance_after act balance)) (suc k))
      each k h true m =
          let r = ranged-contract in
          let here : k ≡ producer - 1 = eqb-true k (producer - 1) m in
          let own : suc k ≡ producer = omega (arith, here, r.producer.least) in
          let l = ap length s.right ∙ length-tab (λ i. sum (row_of b.balances (suc i))) producers in
          rw (own, here)
          (get_or-set_same sums (producer - 1) sum_now 0 (omega (arith, l, r.producer.least, r.producer.most))
          ∙ omega (arith, q, sum_row_set b.balances s.whole producer consumer (balance_after act balance) r.producer.least r.producer.most r.consumer.least r.consumer.most))
      each k h false m =
          let r = ranged-contract in
          let apart = eqb-false k (producer - 1) m in
          get_or-set_other sums (producer - 1) k sum_now 0 apart
          ∙ ap (λ l. get_or l k 0) s.right
          ∙ get_or-tab (λ i. sum (row_of b.balances (suc i))) producers k 0 h
          ∙ ap sum (sym (row_other b.balances s.whole producer consumer (balance_after act balance) r.producer.least r.producer.most r.consumer.least r.consumer.most (suc k) (omega arith) (λ o. apart (omega (arith, o)))))

-- a commitment has room below the limit, a release is of the pair's balance
commit_room : (most sum_now at_cell q : ℕ) → contract_rest (Commit q) most sum_now at_cell ≡ 0 → sum_now + q ≤ most
unfolding contract_rest
commit_room most sum_now at_cell q z = ltb-false most (sum_now + q) (peel (ltb most (sum_now + q)) 10 0 z).0

release_room : (most sum_now at_cell q : ℕ) → contract_rest (Release q) most sum_now at_cell ≡ 0 → q ≤ at_cell
unfolding contract_rest
release_room most sum_now at_cell q z = ltb-false at_cell q (peel (ltb at_cell q) 11 0 z).0

module _ (b : Book) (producer consumer q : ℕ) {after : Book} where
  pub committed_room : reply_with 0 after ≡ contract_of b producer consumer (Commit q) → producer_balance b.balances producer + q ≤ get_or b.limits (producer - 1) 0
  committed_room e =
      let t = total_in_range b.balances (ranged-contract b producer consumer (Commit q) e).producer in
      omega (arith, t, commit_room (get_or b.limits (producer - 1) 0) (sum (row_of b.balances producer)) (get_or b.balances (cell_of producer consumer) 0) q (passed b producer consumer (Commit q) e).1)

  pub released_room : reply_with 0 after ≡ contract_of b producer consumer (Release q) → (q ≤ get_or b.balances (cell_of producer consumer) 0) × (get_or b.balances (cell_of producer consumer) 0 ≤ producer_balance b.balances producer)
  released_room e =
      let r = ranged-contract b producer consumer (Release q) e in
      let t = total_in_range b.balances r.producer in
      let row = in_row b.balances ((producer - 1) * consumers) consumers (consumer - 1) (omega (arith, r.consumer.least, r.consumer.most)) in
      (release_room (get_or b.limits (producer - 1) 0) (sum (row_of b.balances producer)) (get_or b.balances (cell_of producer consumer) 0) q (passed b producer consumer (Release q) e).1, omega (arith, t, row))

-- the sum that a call leaves
abbrev pub moved : ContractCall → ℕ → ℕ
moved (Commit q) sum_was = sum_was + q
moved (Release q) sum_was = sum_was - q

pub contract_summed : (b : Book) (producer consumer : ℕ) (act : ContractCall) {after : Book} → reply_with 0 after ≡ contract_of b producer consumer act → {sums : List ℕ} → Summed b.limits b.balances sums → {v : ℕ} → v ≡ moved act (producer_balance b.balances producer) → Summed after.limits after.balances (set sums (producer - 1) v)
unfolding balance_after
contract_summed b producer consumer (Commit q) e s {v} k =
    let t = total_in_range b.balances (ranged-contract b producer consumer (Commit q) e).producer in
    stored b producer consumer (Commit q) e s v (omega (arith, t, k))
contract_summed b producer consumer (Release q) e s {v} k =
    let t = total_in_range b.balances (ranged-contract b producer consumer (Release q) e).producer in
    let r = released_room b producer consumer q e in
    stored b producer consumer (Release q) e s v (omega (arith, t, k, r.0, r.1))

-- the sum at a place, if there is one
abbrev pub sum_at : List ℕ → Option ℕ → ℕ
sum_at sums None = 0
sum_at sums (Some place) = get_or sums place 0

-- .. at a producer's
module _ {limits balances sums : List ℕ} (s : Summed limits balances sums) (producer : ℕ) where
  pub placed_sum : (place : Option ℕ) → place ≡ place_among producers producer → sum_at sums place ≡ producer_balance balances producer
  placed_sum place e = ap (sum_at sums) e ∙ go (between 1 producers producer) refl
    where
      go : (t : Bool) → between 1 producers producer ≡ t → sum_at sums (pick t (Some (producer - 1)) None) ≡ pick t (sum (row_of balances producer)) 0
      go true h = let k = between_true 1 producers producer h in sum_there s (record { least = k.0; most = k.1 })
      go false h = refl

-- a year, a fix and a call of a consumer leave the balances, and so does a close, below
module _ (b : Book) {after : Book} {number : ℕ} {sums : List ℕ} (s : Summed b.limits b.balances sums) where
  pub year_summed : (hours : Hours) → reply_with number after ≡ year_of b hours → Summed after.limits after.balances sums
  unfolding year_of begun
  year_summed hours e = summed_aside b (begun b hours) refl refl e s

  pub fix_summed : (dmp : ℕ) → reply_with number after ≡ fix_of b dmp → Summed after.limits after.balances sums
  unfolding fix_of fixed limits_of limit_of
  fix_summed dmp e = rw (ap (λ (q : Reply). q.book) e) (go (eqb (fix_number b dmp) 0))
    where
      go : (t : Bool) → Summed (pick t (fixed b dmp) b).limits (pick t (fixed b dmp) b).balances sums
      go true = record { whole = s.whole; right = s.right; few = λ k. few k (cases_lt k producers) }
        where
          each : ℕ → ℕ
          each i = limit_of b.units (efficient_in b.units (offers_of b.hours b.units)) (suc i)

          few : (k : ℕ) → (k < producers) ⊎ (producers ≤ k) → get_or (tab each producers) k 0 ≤ greatest_limit
          few k (inl h) = rw (get_or-tab each producers k 0 h) (omega arith)
          few k (inr h) = rw (get_or_past (tab each producers) k 0 (omega (arith, length-tab each producers))) zero-le
      go false = s

  pub consumer_summed : (consumer : ℕ) (act : ConsumerCall) → reply_with number after ≡ consumer_of b consumer act → Summed after.limits after.balances sums
  unfolding consumer_of after_consumer
  consumer_summed consumer act e = summed_aside b (after_consumer b consumer act) refl refl e s

pub closed_summed : (b : Book) (p : ℕ) {after : Book} {sums : List ℕ} → Summed b.limits b.balances sums → after ≡ closed b p → Summed after.limits after.balances sums
unfolding closed
closed_summed b p s e = rw e s
