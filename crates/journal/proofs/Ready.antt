-- What a run keeps beside its book, from the fix on, stays right with each call.
use mathlib.Core.Path.{◌≡◌, refl, sym, ap, ◌∙◌}
use mathlib.Core.Bool.{Bool, true, false}
use mathlib.Core.List.{List, [], ◌∷◌, map}
use Rattle.std.specs.Prelude.{Option}
use Prim.Native.Nat.{ℕ, zero, suc}
use native.Mathlib.Omega.{arith}
use borrow.Author.Tests.{eqb-true}
use lib.Dec.{eqb}
use lib.ListN.{length, get_or, set, length-set}
use Rattle.basis.specs.Choice.{pick}
use Rattle.basis.specs.Sums.{sum}
use Rattle.basis.proofs.Choice.{handed_on}
use Rattle.quantities.specs.declared.refusals.Refusal.{Refusal}
use Rattle.quantities.specs.Limits.{consumers}
use Rattle.quantities.specs.Refusals.{refusal_number, Refused, Stored}
use Rattle.quantities.proofs.RefusalLaws.{refusing}
use Rattle.table.specs.Ranges.{call_number}
use Rattle.table.specs.declared.calls.Call.TheVariants as call
use Rattle.table.specs.declared.consumers.ConsumerCall.{ConsumerCall}
use Rattle.table.specs.declared.contracts.ContractCall.{ContractCall}
use Rattle.power.specs.declared.component.Hours.{Hours}
use Rattle.state.specs.declared.kept.Stage.{Stage}
use Rattle.state.specs.declared.kept.Consumer.{Consumer}
use Rattle.state.specs.declared.kept.Book.{Book}
use Rattle.state.specs.Places.{place_of}
use Rattle.state.specs.State.{Reply, reply_with, reply_of, fresh_consumer, stage_number, with_consumers}
use Rattle.fix.specs.Fix.{declared_by, weights_of}
use Rattle.close.specs.Close.{real_demand, reals_of, close_number_by, close_number, closed}
use Rattle.book.specs.Year.{year_number, begun, year_of}
use Rattle.decision.specs.Consumers.{consumer_rest, consumer_after, consumer_number, consumer_answer_of, consumer_of}
use Rattle.decision.specs.ContractCalls.{after_contract, contract_of}
use Rattle.decision.proofs.Acts.{declaration_kept}
use Rattle.decision.proofs.Settled.{settled_consumer, consumer_settled}
use Rattle.journal.specs.Ledger.{Ready}

-- in another stage nothing is asked
pub not_firm : {b : Book} {total : ℕ} {reals : List (Option ℕ)} → length reals ≡ consumers → (stage_number b.stage ≡ 2 → ⊥) → Ready b total reals
not_firm n h = record { count = n; total_right = λ e. absurd (h e); reals_right = λ e. absurd (h e) }

module _ (n : ℕ) (b new : Book) {after : Book} where
  -- the book of a reply that accepts is the new one
  pub accepted_book : reply_with 0 after ≡ reply_of n b new → after ≡ new
  accepted_book e =
      let z : 0 ≡ n = ap (λ (r : Reply). r.number) e in
      ap (λ (r : Reply). r.book) e ∙ ap (λ m. pick (eqb m 0) new b) (sym z)

  -- .. and of one that refuses, the old one
  pub refused_book : (refusal : Refusal) → reply_with (refusal_number refusal) after ≡ reply_of n b new → after ≡ b
  refused_book refusal e =
      let z : refusal_number refusal ≡ n = ap (λ (r : Reply). r.number) e in
      ap (λ (r : Reply). r.book) e ∙ ap (λ m. pick (eqb m 0) new b) (sym z) ∙ ap (λ t. pick t new b) (refusing refusal)

  -- a call that leaves stage and consumers leaves the figures right
  pub ready_aside : {number total : ℕ} {reals : List (Option ℕ)} → new.stage ≡ b.stage → new.consumers ≡ b.consumers → reply_with number after ≡ reply_of n b new → Ready b total reals → Ready after total reals
  ready_aside {number} {total} {reals} s k e r = rw (ap (λ (q : Reply). q.book) e) (go (eqb n 0))
    where
      go : (t : Bool) → Ready (pick t new b) total reals
      go true =
          record {
            count = r.count;
            total_right = λ f. rw k (r.total_right (sym (ap stage_number s) ∙ f));
            reals_right = λ f. rw k (r.reals_right (sym (ap stage_number s) ∙ f));
          }
      go false = r

-- .. as a call of a contract does
pub ready_beside_contract : (b : Book) (producer consumer : ℕ) (act : ContractCall) {after : Book} {total : ℕ} {reals : List (Option ℕ)} → reply_with 0 after ≡ contract_of b producer consumer act → Ready b total reals → Ready after total reals
unfolding contract_of after_contract
ready_beside_contract b producer consumer act e r = ready_aside _ b (after_contract b producer consumer act) refl refl e r

-- a list of what consumers have, one of them replaced
map_replaced : {A : Type 0} (f : Consumer → A) (xs : List Consumer) (i : ℕ) (x : Consumer) → map f (set xs i x) ≡ set (map f xs) i (f (get_or (set xs i x) i fresh_consumer))
map_replaced f [] i x = refl
map_replaced f (y ∷ ys) zero x = refl
map_replaced f (y ∷ ys) (suc i) x = ap (λ l. f y ∷ l) (map_replaced f ys i x)

-- replaced by one that has the same
map_kept : {A : Type 0} (f : Consumer → A) (xs : List Consumer) (i : ℕ) (x : Consumer) → f x ≡ f (get_or xs i fresh_consumer) → map f (set xs i x) ≡ map f xs
map_kept f [] i x e = refl
map_kept f (y ∷ ys) zero x e = ap (λ v. v ∷ map f ys) e
map_kept f (y ∷ ys) (suc i) x e = ap (λ l. f y ∷ l) (map_kept f ys i x e)

-- what the book keeps of a consumer's accepted call, and that it was in range and refused by nothing
module _ (b : Book) (consumer : ℕ) (act : ConsumerCall) (place : ℕ) {after : Book} (p : place ≡ place_of consumers consumer) (e : reply_with 0 after ≡ consumer_of b consumer act) where
  abbrev old : Consumer
  old = get_or b.consumers place fresh_consumer

  stored : (after ≡ with_consumers b (set b.consumers place (consumer_after act old))) × (consumer_number consumer act b.stage old ≡ 0)
  unfolding consumer_answer_of
  stored = go (eqb (consumer_number consumer act b.stage old) 0) refl (e ∙ sym (consumer_settled b consumer act place p))
    where
      go : (t : Bool) → eqb (consumer_number consumer act b.stage old) 0 ≡ t → reply_with 0 after ≡ settled_consumer b place (pick t (Stored (consumer_after act old)) (Refused (consumer_number consumer act b.stage old)))
          → (after ≡ with_consumers b (set b.consumers place (consumer_after act old))) × (consumer_number consumer act b.stage old ≡ 0)
      go true q h = (ap (λ (r : Reply). r.book) h, eqb-true _ 0 q)
      go false q h = absurd (omega (arith, borrow.Author.Tests.eqb-false _ 0 q (sym (ap (λ (r : Reply). r.number) h))))

  -- its real demand, put in the place of the earlier one, keeps the figures right
  pub ready_stored : (total : ℕ) (reals : List (Option ℕ)) → Ready b total reals → Ready after total (set reals place (real_demand (get_or after.consumers place fresh_consumer)))
  unfolding consumer_number weights_of reals_of
  ready_stored total reals r =
      let k = stored in
      let z = (handed_on (call_number (call.Consumer consumer act) []) (consumer_rest act b.stage old) k.1).1 in
      rw k.0
      (record {
        count = length-set reals place _ ∙ r.count;
        total_right =
            λ s.
            r.total_right s
            ∙ sym (ap sum (map_kept (λ y. declared_by y.declaration) b.consumers place (consumer_after act old) (ap declared_by (declaration_kept act b.stage old s z))));
        reals_right =
            λ s. ap (λ l. set l place (real_demand (get_or (set b.consumers place (consumer_after act old)) place fresh_consumer))) (r.reals_right s) ∙ sym (map_replaced real_demand b.consumers place (consumer_after act old));
      })

-- the year leads to another stage, and refused leaves the book; so does a close that is accepted
pub ready_year : (b : Book) (hours : Hours) {after : Book} {number total : ℕ} {reals : List (Option ℕ)} → reply_with number after ≡ year_of b hours → Ready b total reals → Ready after total reals
unfolding year_of begun
ready_year b hours {after} {number} {total} {reals} e r = rw (ap (λ (q : Reply). q.book) e) (go (eqb (year_number b hours) 0))
  where
    go : (t : Bool) → Ready (pick t (begun b hours) b) total reals
    go true = not_firm r.count (λ s. omega (arith, s))
    go false = r

pub ready_closed : (b : Book) (p : ℕ) {after : Book} {total : ℕ} {reals : List (Option ℕ)} → after ≡ closed b p → length reals ≡ consumers → Ready after total reals
unfolding closed
ready_closed b p {after} e n = not_firm n (λ s. omega (arith, ap (λ (x : Book). stage_number x.stage) e, s))

-- in another stage a close's number does not depend on them
other_stage : (stage : Stage) (dmp total₁ total₂ : ℕ) (reals₁ reals₂ : List (Option ℕ)) (xs : List Consumer) (p : ℕ) → eqb (stage_number stage) 2 ≡ false → close_number_by stage dmp total₁ reals₁ xs p ≡ close_number_by stage dmp total₂ reals₂ xs p
unfolding close_number_by
other_stage stage dmp total₁ total₂ reals₁ reals₂ xs p q = rw q

-- the number of a close that is found from them
pub close_found : (b : Book) (total : ℕ) (reals : List (Option ℕ)) (p : ℕ) → Ready b total reals → close_number_by b.stage b.dmp total reals b.consumers p ≡ close_number b p
close_found b total reals p r = same (eqb (stage_number b.stage) 2) refl
  where
    same : (t : Bool) → eqb (stage_number b.stage) 2 ≡ t → close_number_by b.stage b.dmp total reals b.consumers p ≡ close_number b p
    same true q =
        let s = eqb-true (stage_number b.stage) 2 q in
        ap (λ t. close_number_by b.stage b.dmp t reals b.consumers p) (r.total_right s)
        ∙ ap (λ l. close_number_by b.stage b.dmp (sum (weights_of b.consumers)) l b.consumers p) (r.reals_right s)
    same false q = other_stage b.stage b.dmp total (sum (weights_of b.consumers)) reals (reals_of b.consumers) b.consumers p q
