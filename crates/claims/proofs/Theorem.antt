-- Demand 3, from what every list keeps.
use Rattle.std.specs.Prelude.{Some, Option, None}
use mathlib.Core.Path.{◌≡◌, refl, sym, ap, ◌∙◌, subst}
use mathlib.Core.Bool.{Bool, true, false}
use mathlib.Core.List.{List, [], map}
use mathlib.Core.Logic.{⊎_elim}
use Prim.Native.Nat.{ℕ, suc, ◌+◌, ◌-◌, ◌*◌, ◌≤◌, ◌<◌, zero-le}
use native.Mathlib.Omega.{arith}
use borrow.Author.Tests.{ne_eqb}
use lib.Dec.{eqb}
use lib.ListN.{get_or}
use Rattle.basis.specs.Sums.{sum}
use Rattle.basis.proofs.Sums.{sum_zeros}
use Rattle.share.specs.Division.{division_number, shares}
use Rattle.share.proofs.Accepted.{accepted}
use Rattle.share.proofs.Laws.{sum-shares, share_near}
use Rattle.power.specs.Quantity.{watts_of_kilowatt}
use Rattle.quantities.specs.Limits.{units, producers, consumers}
use Rattle.quantities.specs.Flags.{flagged, injection_given}
use Rattle.table.specs.Records as name
use Rattle.table.proofs.Laws.{Numbered}
use Rattle.state.specs.declared.kept.Consumer.{Consumer}
use Rattle.state.specs.declared.kept.Book.{Book}
use Rattle.state.specs.State.{fresh_book, firm_demand_by, row_of}
use Rattle.gathering.specs.Units.{cap_of}
use Rattle.close.specs.Close.{credits_of, undistributed_of}
use Rattle.book.specs.Lists.{Event, after_all, accepted_by}
use Rattle.claims.specs.History.{field, field_in, last_that, about, fixed_in, closed_in, dmp_in, declared_in, entry_by, entry_in, component_in}
use Rattle.claims.specs.Figures.{power_in, efficient_offer_in, producer_offer_in, declarations_in, total_declared_in, demand_in, consumer_in, declaration_by, positive_adjustments_in, all_charges_in, all_credits_in, undistributed_in}
use Rattle.claims.specs.Demand.{demand_of, NoSurplus, Demand3, Claim}
use Rattle.claims.proofs.Kept.{Within, Kept}
use Rattle.claims.proofs.Demands.{total_positive, declaration_at, demand_at, demand_in_lem, demands_in}
use Rattle.claims.proofs.Fixing.{empty_row}
use Rattle.claims.proofs.Places.{consumer_at_lem}
use Rattle.claims.proofs.Offers.{within_power, limit_in}
use Rattle.claims.proofs.RealDemands.{heard_at, adjusted_by_real}
use Rattle.claims.proofs.Lists.{kept}

numbered : {greatest n : ℕ} → 1 ≤ n → n ≤ greatest → Numbered greatest n
numbered l m = record { least = l; most = m }

module _ (h : List Event) (b : Book) (k : Kept h b) where
  producer_total : (p : ℕ) → Numbered producers p → (t : Bool) → fixed_in h ≡ t → sum (row_of b.balances p) ≤ producer_offer_in h p
  producer_total p np true q =
      subst (λ most. sum (row_of b.balances p) ≤ most) (limit_in h b k q p np) (k.contracts.total_kept q p np)
  producer_total p np false q = rw (empty_row b.balances p (k.contracts.nothing_yet q)) zero-le

  near : fixed_in h ≡ true → (c : ℕ) → Numbered consumers c → (demand_of b c * total_declared_in h < dmp_in h * field_in 1 (declared_in h c) + total_declared_in h) × (dmp_in h * field_in 1 (declared_in h c) < demand_of b c * total_declared_in h + total_declared_in h)
  near q c nc =
      let e : suc (c - 1) ≡ c = omega (arith, nc.least) in
      let below : c - 1 < consumers = omega (arith, nc.least, nc.most) in
      let d : demand_of b c ≡ get_or (shares (dmp_in h) (declarations_in h)) (c - 1) 0 =
      ap (λ (x : Consumer). firm_demand_by x.declaration) (consumer_at_lem h b k c nc)
      ∙ ap (λ n. firm_demand_by (consumer_in h n).declaration) (sym e)
      ∙ demand_in_lem h q (k.firm.dmp_shared q) (c - 1) below in
      let w : field_in 1 (declared_in h c) ≡ get_or (declarations_in h) (c - 1) 0 =
      ap (λ n. field_in 1 (declared_in h n)) (sym e) ∙ sym (declaration_at h (c - 1) below) in
      rw (d, w) (share_near (dmp_in h) (declarations_in h) (total_positive h q (k.firm.dmp_shared q)) (c - 1))

  -- the firm demand that the book has is the one defined
  demand_defined : (c : ℕ) → Numbered consumers c → (t : Bool) → fixed_in h ≡ t → demand_of b c ≡ demand_in h c
  unfolding demand_in
  demand_defined c nc true q =
      let e : suc (c - 1) ≡ c = omega (arith, nc.least) in
      ap (λ (x : Consumer). firm_demand_by x.declaration) (consumer_at_lem h b k c nc)
      ∙ ap (λ n. firm_demand_by (consumer_in h n).declaration) (sym e)
      ∙ demand_in_lem h q (k.firm.dmp_shared q) (c - 1) (omega (arith, nc.least, nc.most))
      ∙ sym (demand_at h q (k.firm.dmp_shared q) (c - 1))
      ∙ ap (demand_in h) e
  demand_defined c nc false q =
      ap (λ (x : Consumer). firm_demand_by x.declaration) (consumer_at_lem h b k c nc) ∙ none (declared_in h c) ∙ sym zero-demand
    where
      zero-demand : demand_in h c ≡ 0
      zero-demand = rw q refl

      none : (l : Option Event) → firm_demand_by (declaration_by (demand_in h c) l) ≡ 0
      none None = refl
      none (Some e) = zero-demand

  -- the injection of a unit whose call gives one
  injection : (u : ℕ) (e : Event) → Numbered units u → last_that (about name.Unit u) h ≡ Some e → flagged injection_given (field 3 e) ≡ true → efficient_offer_in h u ≤ field 4 e
  injection u e nu q f =
      let cap : cap_of (entry_in h u) ≡ Some (record { 0 = field 4 e }) = ap (λ l. cap_of (entry_by l)) q ∙ rw f refl in
      let w : power_in h u ≤ watts_of_kilowatt * field 4 e = subst (λ c. Within c (component_in h u 0)) cap (k.plants.power_capped u 0) in
      omega (arith, within_power h u nu, w)

  -- the money, where the charges were divided and where there was nothing to divide by
  module _ (closed : closed_in h ≡ true) where
    abbrev charges : ℕ
    charges = sum (all_charges_in h)

    charged_is : b.closing.charged ≡ charges
    charged_is = k.money.charged_kept closed ∙ ap sum (k.money.charges_kept closed)

    credited_is : b.closing.credited ≡ sum (all_credits_in h)
    credited_is = k.money.credited_kept closed ∙ ap sum (k.money.credits_kept closed)

    if_divided : division_number charges (positive_adjustments_in h) consumers ≡ 0 → (sum (all_credits_in h) ≡ charges) × (undistributed_in h ≡ 0) × (0 < sum (positive_adjustments_in h))
    unfolding all_credits_in undistributed_in credits_of undistributed_of
    if_divided z =
        let some = (accepted charges (positive_adjustments_in h) consumers z).positive in
        (rw z (sum-shares charges (positive_adjustments_in h) some), rw z refl, some)

    if_none : sum (positive_adjustments_in h) ≡ 0 → (sum (all_credits_in h) ≡ 0) × (undistributed_in h ≡ charges)
    unfolding all_credits_in undistributed_in credits_of undistributed_of
    if_none z =
        let no : eqb (division_number charges (positive_adjustments_in h) consumers) 0 ≡ false =
        ne_eqb (division_number charges (positive_adjustments_in h) consumers) 0 (λ q. absurd (omega (arith, (accepted charges (positive_adjustments_in h) consumers q).positive))) in
        (simp no (sum_zeros consumers), simp no)

    balances : b.closing.charged ≡ b.closing.credited + b.closing.undistributed
    balances =
        let u = k.money.undistributed_kept closed in
        ⊎_elim (λ z. let m = if_divided z in omega (arith, charged_is, credited_is, u, m.0, m.1)) (λ z. let m = if_none z in omega (arith, charged_is, credited_is, u, m.0, m.1))
        (k.money.charges_divided closed)

    nobody : NoSurplus h → b.closing.undistributed ≡ b.closing.charged
    nobody z = k.money.undistributed_kept closed ∙ (if_none z).1 ∙ sym charged_is

    somebody : (NoSurplus h → ⊥) → b.closing.undistributed ≡ 0
    somebody o =
        k.money.undistributed_kept closed ∙ ⊎_elim (λ z. (if_divided z).1) (λ z. absurd (o z)) (k.money.charges_divided closed)

  holds : Demand3 h b
  holds =
      record {
        demands_add_up =
            λ q.
            ap (λ xs. sum (map (λ (x : Consumer). firm_demand_by x.declaration) xs)) k.consumers.consumers_kept
            ∙ ap sum (demands_in h q (k.firm.dmp_shared q))
            ∙ sum-shares (dmp_in h) (declarations_in h) (total_positive h q (k.firm.dmp_shared q));
        demand_not_above = λ q c lc uc. (near q c (numbered lc uc)).0;
        demand_not_below = λ q c lc uc. (near q c (numbered lc uc)).1;
        balance =
            λ p c lp up lc uc.
            let e = k.contracts.balance_kept p c (numbered lp up) (numbered lc uc) in (omega (arith, e), omega (arith, e));
        producer_total = λ p lp up. producer_total p (numbered lp up) (fixed_in h) refl;
        offer_within_power = λ u lu uu. within_power h u (numbered lu uu);
        offer_within_injection = λ u e lu uu. injection u e (numbered lu uu);
        money_balances = balances;
        nobody_to_credit = nobody;
        somebody_to_credit = somebody;
        demands_defined = λ c lc uc. demand_defined c (numbered lc uc) (fixed_in h) refl;
        offers_defined = λ q. (k.firm.offers_kept q, k.firm.efficient_kept q);
        adjusted_defined = λ q. k.money.adjusted_kept q;
        charges_defined = λ q. k.money.charges_kept q;
        credits_defined = λ q. k.money.credits_kept q;
        real_demand_given = λ q c lc uc. heard_at h (k.money.heard q) c (numbered lc uc);
        adjusted_by_real_demand =
            λ q c lc uc d.
            ap (λ l. get_or l (c - 1) 0) (k.money.adjusted_kept q)
            ∙ adjusted_by_real h c (numbered lc uc) d (heard_at h (k.money.heard q) c (numbered lc uc) d);
        sums_defined = λ q. (k.money.charged_kept q, k.money.credited_kept q, k.money.undistributed_kept q);
      }

-- demand 3 holds of every list of calls
pub demand3 : Claim
demand3 calls = holds (accepted_by fresh_book [] calls) (after_all fresh_book calls) (kept calls)
