-- The calls of a contract: an accepted one keeps what is kept, and the number of any one.
use mathlib.Core.Path.{◌≡◌, refl, sym, ap, ◌∙◌}
use mathlib.Core.Bool.{Bool, true, false, false≢true}
use mathlib.Core.List.{List, [], ◌∷◌}
use Prim.Native.Nat.{ℕ, suc, ◌+◌, ◌-◌, ◌≤◌}
use native.Mathlib.Nat.{zero-add}
use native.Mathlib.Omega.{arith}
use borrow.Author.Tests.{eq-eqb, eqb-true, eqb-false, ltb-false}
use lib.Dec.{eqb, ltb}
use lib.ListN.{get_or, set, length-set}
use lib.Seq.{get_or-set_same, get_or-set_other}
use Rattle.basis.specs.Choice.{pick}
use Rattle.basis.specs.Sums.{sum, sum_up}
use Rattle.basis.proofs.Choice.{peel, peel_not}
use Rattle.basis.proofs.Sums.{sum_as_sum_up, sum_up_same}
use Rattle.quantities.specs.Limits.{producers, consumers}
use Rattle.table.specs.Records.{parts_of, CallName}
use Rattle.table.specs.Records as name
use Rattle.table.specs.declared.calls.Call.TheVariants as call
use Rattle.table.specs.declared.contracts.ContractCall.{ContractCall}
use Rattle.table.specs.declared.contracts.ContractCall.TheVariants.{Commit, Release}
use Rattle.table.proofs.Laws.{Numbered}
use Rattle.table.proofs.ContractLaws.{contract_numbered}
use Rattle.state.specs.declared.kept.Stage.TheVariants.{Firm}
use Rattle.state.specs.declared.kept.Book.{Book}
use Rattle.state.specs.State.{cell_of, row_of, consumer_at, ranged}
use Rattle.decision.specs.Consumers.{is_declared, known}
use Rattle.decision.specs.ContractCalls.{contract_rest, balance_after, contract_number, after_contract}
use Rattle.book.specs.Lists.{Event}
use Rattle.claims.specs.History.{is_a, field, fixed_in, closed_in, begun_in, sum_over, commitments_in, releases_in}
use Rattle.claims.specs.Figures.{producer_offer_in}
use Rattle.claims.specs.Refusals.{at_stage, declared_to, balance_in, balances_in, number_in}
use Rattle.claims.proofs.SameFigures.{pair_this, sum_as_before, fixed_as_before}
use Rattle.claims.proofs.Parts.{the_timing, the_plants, the_consumers, the_grounds, the_money, Untouched, untouched_by}
use Rattle.claims.proofs.Stages.{firm_is, accepted_shows, behind}
use Rattle.claims.proofs.Kept.{Contracts, Kept}
use Rattle.claims.proofs.Untouched.{timing_other, plants_other, consumers-other, firm_other, money_before}
use Rattle.state.proofs.Cells.{same_cell, cell_within, length_row, cell_in_row, sum_row_set, row_other}
use Rattle.claims.proofs.Places.{known_at}
use Rattle.claims.proofs.Offers.{limit_in}

-- the number that stands for more than there may be was not met
at_most_passed : (x most k : ℕ) → pick (ltb most x) (suc k) 0 ≡ 0 → x ≤ most
at_most_passed x most k z = ltb-false most x (peel (ltb most x) k 0 z).0

-- a call adds its q to the sum of its own name and pair, and to no other pair's
pair_sum : (e : Event) (h : List Event) (n : CallName) (p c : ℕ) → is_a n e ≡ true → field 0 e ≡ p → field 1 e ≡ c → sum_over n p c (e ∷ h) ≡ field 2 e + sum_over n p c h
unfolding sum_over
pair_sum e h n p c q a b =
    let yes : pick (eqb (field 0 e) p) (eqb (field 1 e) c) false ≡ true = simp (eq-eqb (field 0 e) p a, eq-eqb (field 1 e) c b) in
    ap (λ t. pick t (field 2 e) 0 + sum_over n p c h) (pair_this e h n p c q ∙ yes)

other-sum : (e : Event) (h : List Event) (n : CallName) (p c : ℕ) → ((field 0 e ≡ p) × (field 1 e ≡ c) → ⊥) → sum_over n p c (e ∷ h) ≡ sum_over n p c h
unfolding sum_over
other-sum e h n p c o =
    ap (λ t. pick t (field 2 e) 0 + sum_over n p c h) (no (is_a n e) (eqb (field 0 e) p) refl (eqb (field 1 e) c) refl)
    ∙ zero-add (sum_over n p c h)
  where
    no : (r s : Bool) → eqb (field 0 e) p ≡ s → (t : Bool) → eqb (field 1 e) c ≡ t → pick (pick r s false) t false ≡ false
    no true true x true y = absurd (o (eqb-true (field 0 e) p x, eqb-true (field 1 e) c y))
    no true true x false y = refl
    no true false x t y = refl
    no false s x t y = refl

abbrev event : ℕ → ℕ → ContractCall → List ℕ → Event
event p c act readings = record { call = call.Contract p c act; readings = readings }

-- a call of a contract leaves timing, plants, consumers, what the fix works from, and money
beside_contracts : (p c : ℕ) (act : ContractCall) (readings : List ℕ) → Untouched the_timing (event p c act readings) × Untouched the_plants (event p c act readings) × Untouched the_consumers (event p c act readings) × Untouched the_grounds (event p c act readings) × Untouched the_money (event p c act readings)
beside_contracts p c (Commit q) readings = (refl, refl, refl, refl, refl)
beside_contracts p c (Release q) readings = (refl, refl, refl, refl, refl)

-- its first two fields
pair_of : (p c : ℕ) (act : ContractCall) (readings : List ℕ) → (field 0 (event p c act readings) ≡ p) × (field 1 (event p c act readings) ≡ c)
unfolding parts_of
pair_of p c (Commit q) readings = (refl, refl)
pair_of p c (Release q) readings = (refl, refl)

-- the balance that an accepted call leaves is what is committed less what is released
balance_after_lem : (h : List Event) (p c : ℕ) (act : ContractCall) (readings : List ℕ) (limit total balance : ℕ) → contract_rest act limit total balance ≡ 0 → balance + releases_in h p c ≡ commitments_in h p c → balance_after act balance + releases_in (event p c act readings ∷ h) p c ≡ commitments_in (event p c act readings ∷ h) p c
unfolding contract_rest balance_after parts_of
balance_after_lem h p c (Commit q) readings limit total balance z e =
    let commit = event p c (Commit q) readings in
    omega (arith, e, sum_as_before commit h name.Release p c refl, pair_sum commit h name.Commit p c refl refl refl)
balance_after_lem h p c (Release q) readings limit total balance z e =
    let release = event p c (Release q) readings in
    omega (arith, e, at_most_passed q balance 11 z, sum_as_before release h name.Commit p c refl, pair_sum release h name.Release p c refl refl refl)

-- and a producer's balances stay within its limit
within_limit : (act : ContractCall) (limit total balance : ℕ) → contract_rest act limit total balance ≡ 0 → total ≤ limit → total + balance_after act balance ≤ limit + balance
unfolding contract_rest balance_after
within_limit (Commit q) limit total balance z m = omega (arith, at_most_passed (total + q) limit 10 z)
within_limit (Release q) limit total balance z m = omega (arith, m)

module _ (h : List Event) (b : Book) (k : Kept h b) (producer consumer : ℕ) where
  abbrev cell : ℕ
  cell = cell_of producer consumer

  abbrev limit : ℕ
  limit = get_or b.limits (producer - 1) 0

  abbrev total : ℕ
  total = sum (row_of b.balances producer)

  abbrev balance : ℕ
  balance = get_or b.balances cell 0

  module _ (act : ContractCall) (readings : List ℕ) where
    abbrev e : Event
    e = event producer consumer act readings

    -- one balance changed, in the firm year
    module _ (np : Numbered producers producer) (nc : Numbered consumers consumer) (was-fixed : fixed_in h ≡ true) (z : contract_rest act limit total balance ≡ 0) where
      abbrev balances : List ℕ
      balances = set b.balances cell (balance_after act balance)

      apart_sum : (n : CallName) (q d : ℕ) → ((producer ≡ q) × (consumer ≡ d) → ⊥) → sum_over n q d (e ∷ h) ≡ sum_over n q d h
      apart_sum n q d o =
          let f = pair_of producer consumer act readings in other-sum e h n q d (λ s. o (sym f.0 ∙ s.0, sym f.1 ∙ s.1))

      balance_at : (q d : ℕ) → Numbered producers q → Numbered consumers d → (t : Bool) → eqb (cell_of q d) cell ≡ t → get_or balances (cell_of q d) 0 + releases_in (e ∷ h) q d ≡ commitments_in (e ∷ h) q d
      balance_at q d nq nd true s =
          let same = eqb-true (cell_of q d) cell s in
          let pair = same_cell q d producer consumer nq.least nd.least nd.most np.least nc.least nc.most same in
          rw (pair.0, pair.1)
          (ap (λ x. x + releases_in (e ∷ h) producer consumer) (get_or-set_same b.balances cell (balance_after act balance) 0 (rw k.contracts.length_kept (cell_within producer consumer np.least np.most nc.least nc.most)))
          ∙ balance_after_lem h producer consumer act readings limit total balance z (k.contracts.balance_kept producer consumer np nc))
      balance_at q d nq nd false s =
          let other = eqb-false (cell_of q d) cell s in
          let apart : (producer ≡ q) × (consumer ≡ d) → ⊥ = λ r. other (rw (r.0, r.1) refl) in
          ap (λ x. x + releases_in (e ∷ h) q d) (get_or-set_other b.balances cell (cell_of q d) (balance_after act balance) 0 other)
          ∙ ap (λ x. get_or b.balances (cell_of q d) 0 + x) (apart_sum name.Release q d apart)
          ∙ k.contracts.balance_kept q d nq nd
          ∙ sym (apart_sum name.Commit q d apart)

      total_at : (q : ℕ) → Numbered producers q → (t : Bool) → eqb q producer ≡ t → sum (row_of balances q) ≤ get_or b.limits (q - 1) 0
      total_at q nq true s =
          let room = within_limit act limit total balance z (k.contracts.total_kept was-fixed producer np) in
          let row = sum_row_set b.balances k.contracts.length_kept producer consumer (balance_after act balance) np.least np.most nc.least nc.most in
          rw (eqb-true q producer s) (omega (arith, room, row))
      total_at q nq false s =
          rw (row_other b.balances k.contracts.length_kept producer consumer (balance_after act balance) np.least np.most nc.least nc.most q nq.least (eqb-false q producer s)) (k.contracts.total_kept was-fixed q nq)

      balance-stored : Contracts (e ∷ h) balances b.limits
      balance-stored =
          record {
            length_kept = length-set b.balances cell (balance_after act balance) ∙ k.contracts.length_kept;
            balance_kept = λ q d nq nd. balance_at q d nq nd (eqb (cell_of q d) cell) refl;
            nothing_yet = λ s. absurd (false≢true (sym s ∙ fixed_as_before e h (untouched_by the_timing e (beside_contracts producer consumer act readings).0 name.Fix refl) ∙ was-fixed));
            total_kept = λ s q nq. total_at q nq (eqb q producer) refl;
          }

    abbrev number : ℕ
    number = contract_number producer consumer act b.stage (consumer_at b.consumers consumer).declaration b.balances b.limits

    pub contract_kept : number ≡ 0 → Kept (e ∷ h) (after_contract b producer consumer act)
    unfolding contract_number after_contract
    contract_kept z =
        let rest = contract_rest act limit total balance in
        let declaration = (consumer_at b.consumers consumer).declaration in
        let shown = accepted_shows (call.Contract producer consumer act) [] Firm b.stage (known declaration rest) z in
        let ranges = contract_numbered producer consumer act [] shown.range in
        let firm = firm_is (closed_in h) (fixed_in h) (begun_in h) (sym k.timing.stage_kept ∙ shown.stage) in
        let beside = beside_contracts producer consumer act readings in
        record {
          timing = timing_other e h beside.0 k.timing;
          plants = plants_other e h beside.1 k.plants;
          consumers = consumers-other e h beside.2 k.consumers;
          contracts = balance-stored ranges.producer ranges.consumer firm.1 (peel_not (is_declared declaration) 9 rest shown.rest).1;
          firm = firm_other e h beside.3 k.firm;
          money = money_before e h beside.4 firm.0;
        }

  -- a pair's balance, and a producer's balances, are those that the history tells of
  balance_in_lem : (p c : ℕ) → Numbered producers p → Numbered consumers c → get_or b.balances (cell_of p c) 0 ≡ balance_in h p c
  balance_in_lem p c np nc = omega (arith, k.contracts.balance_kept p c np nc)

  balances_in_lem : (p : ℕ) → Numbered producers p → sum (row_of b.balances p) ≡ balances_in h p
  balances_in_lem p np =
      sum_as_sum_up (row_of b.balances p)
      ∙ ap (sum_up (λ i. get_or (row_of b.balances p) i 0)) (length_row b.balances k.contracts.length_kept p 1 0 np.least np.most (omega arith) (omega arith))
      ∙ sum_up_same (λ i. get_or (row_of b.balances p) i 0) (λ i. balance_in h p (suc i)) consumers
      (λ i q.
      let e : suc i - 1 ≡ i = omega arith in
      ap (λ n. get_or (row_of b.balances p) n 0) (sym e)
      ∙ cell_in_row b.balances k.contracts.length_kept p (suc i) 0 np.least np.most (omega arith) (omega arith)
      ∙ balance_in_lem p (suc i) np (record { least = omega arith; most = omega arith }))

  -- what is left of the number behind 3, 4 and 10, from what the history tells of
  abbrev rest_in : ContractCall → ℕ
  rest_in act = contract_rest act (producer_offer_in h producer) (balances_in h producer) (balance_in h producer consumer)

  exact_by : (act : ContractCall) (readings : List ℕ) → number act readings ≡ ranged (call.Contract producer consumer act) [] (at_stage 2 h (declared_to h consumer (rest_in act)))
  unfolding contract_number
  exact_by act readings =
      behind h b.stage k.timing.stage_kept (call.Contract producer consumer act) [] Firm (known (consumer_at b.consumers consumer).declaration (contract_rest act limit total balance)) (declared_to h consumer (rest_in act))
      (λ z s.
      let ranges = contract_numbered producer consumer act [] z in
      let fixed = (firm_is (closed_in h) (fixed_in h) (begun_in h) s).1 in
      known_at h b k consumer ranges.consumer
      (ap (λ n. contract_rest act n total balance) (limit_in h b k fixed producer ranges.producer)
      ∙ ap (λ n. contract_rest act (producer_offer_in h producer) n balance) (balances_in_lem producer ranges.producer)
      ∙ ap (contract_rest act (producer_offer_in h producer) (balances_in h producer)) (balance_in_lem producer consumer ranges.producer ranges.consumer)))

  pub contract_exact : (act : ContractCall) (readings : List ℕ) → number act readings ≡ number_in h (call.Contract producer consumer act) readings
  unfolding number_in contract_rest
  contract_exact (Commit q) readings = exact_by (Commit q) readings
  contract_exact (Release q) readings = exact_by (Release q) readings
