-- Demand 3: one claim about every list of calls, accepted and refused, from a fresh book ("The list of demand 3").
use Rattle.std.specs.Prelude.{◌≡◌, true, List, [], map, ℕ, ◌+◌, ◌-◌, ◌*◌, ◌/◌, ◌≤◌, ◌<◌, get_or, Some}
use Rattle.basis.specs.Sums.{sum}
use Rattle.quantities.specs.Limits.{units, producers, consumers}
use Rattle.quantities.specs.Flags.{flagged, injection_given}
use Rattle.power.specs.Quantity.{watts_of_kilowatt}
use Rattle.table.specs.Records as name
use Rattle.state.specs.declared.kept.Book.{Book}
use Rattle.state.specs.State.{fresh_book, consumer_at, firm_demand_by, cell_of, row_of}
use Rattle.book.specs.Lists.{Event, after_all, accepted_by}
use Rattle.claims.specs.History.{field, field_in, last_that, about, happened, fixed_in, closed_in, dmp_in, declared_in, real_in, commitments_in, releases_in}
use Rattle.claims.specs.Figures.{power_in, offers_in, efficient_offers_in, efficient_offer_in, producer_offer_in, total_declared_in, demand_in, adjusted_demands_in, positive_adjustments_in, all_charges_in, all_credits_in, undistributed_in}

-- the firm demand that the book has for a consumer, and for all of them
abbrev pub demand_of : Book → ℕ → ℕ
demand_of b c = firm_demand_by (consumer_at b.consumers c).declaration

abbrev pub demands_of : Book → List ℕ
demands_of b = map (λ x. firm_demand_by x.declaration) b.consumers

-- the balance that the book has between a producer and a consumer
abbrev pub balance_of : Book → ℕ → ℕ → ℕ
balance_of b p c = get_or b.balances (cell_of p c) 0

-- no consumer has a positive adjustment
abbrev pub NoSurplus : List Event → Type 0
NoSurplus h = sum (positive_adjustments_in h) ≡ 0

-- h: the accepted calls of the list, the last one first; b: the book after the list
pub record Demand3 (h : List Event) (b : Book) : Type 0 where
  -- "Once the year is fixed, firm demands add up to exactly the projected maximum demand."
  pub demands_add_up : fixed_in h ≡ true → sum (demands_of b) ≡ dmp_in h
  -- "Each is less than 1 kW from that maximum times the consumer's last accepted declaration over the sum of these."
  pub demand_not_above : fixed_in h ≡ true → (c : ℕ) → 1 ≤ c → c ≤ consumers → demand_of b c * total_declared_in h < dmp_in h * field_in 1 (declared_in h c) + total_declared_in h
  pub demand_not_below : fixed_in h ≡ true → (c : ℕ) → 1 ≤ c → c ≤ consumers → dmp_in h * field_in 1 (declared_in h c) < demand_of b c * total_declared_in h + total_declared_in h
  -- "At every stage, the balance between a producer and a consumer is the accepted commitments less the accepted releases in the list."
  pub balance : (p c : ℕ) → 1 ≤ p → p ≤ producers → 1 ≤ c → c ≤ consumers → (releases_in h p c ≤ commitments_in h p c) × (balance_of b p c ≡ commitments_in h p c - releases_in h p c)
  -- "A producer's balances total at most the efficient offers of its units,"
  pub producer_total : (p : ℕ) → 1 ≤ p → p ≤ producers → sum (row_of b.balances p) ≤ producer_offer_in h p
  -- "none above that unit's maximum power," document 02, A6: "An efficient offer, times 1,000, is still at most the unit's maximum power in watts."
  pub offer_within_power : (u : ℕ) → 1 ≤ u → u ≤ units → watts_of_kilowatt * efficient_offer_in h u ≤ power_in h u
  -- "nor above its authorised injection where one is given."
  pub offer_within_injection : (u : ℕ) (e : Event) → 1 ≤ u → u ≤ units → last_that (about name.Unit u) h ≡ Some e → flagged injection_given (field 3 e) ≡ true → efficient_offer_in h u ≤ field 4 e
  -- "Once closed, charges equal credits plus the undistributed amount,"
  pub money_balances : closed_in h ≡ true → b.closing.charged ≡ b.closing.credited + b.closing.undistributed
  -- "which is the whole of the charges if no consumer has a positive adjustment and otherwise zero."
  pub nobody_to_credit : closed_in h ≡ true → NoSurplus h → b.closing.undistributed ≡ b.closing.charged
  pub somebody_to_credit : closed_in h ≡ true → (NoSurplus h → ⊥) → b.closing.undistributed ≡ 0
  -- "The book's firm demands, and each consumer's charge and credit, are the ones defined above."
  pub demands_defined : (c : ℕ) → 1 ≤ c → c ≤ consumers → demand_of b c ≡ demand_in h c
  pub offers_defined : fixed_in h ≡ true → (b.offers ≡ offers_in h) × (b.efficient ≡ efficient_offers_in h)
  pub adjusted_defined : closed_in h ≡ true → b.closing.adjusted ≡ adjusted_demands_in h
  pub charges_defined : closed_in h ≡ true → b.closing.charges ≡ all_charges_in h
  pub credits_defined : closed_in h ≡ true → b.closing.credits ≡ all_credits_in h
  -- document 02, A4: "Where it stands, [the mean] is used as Dreal, whether or not a reading exists. .. A consumer with neither stops the close."
  pub real_demand_given : closed_in h ≡ true → (c : ℕ) → 1 ≤ c → c ≤ consumers → happened (declared_in h c) ≡ true → happened (real_in h c) ≡ true
  pub adjusted_by_real_demand : closed_in h ≡ true → (c : ℕ) → 1 ≤ c → c ≤ consumers → happened (declared_in h c) ≡ true → get_or b.closing.adjusted (c - 1) 0 ≡ field_in 1 (real_in h c) * dmp_in h / total_declared_in h
  -- "Charges and credits are summed over the consumers; these sums and the undistributed amount are those of the closed book"
  pub sums_defined : closed_in h ≡ true → (b.closing.charged ≡ sum b.closing.charges) × (b.closing.credited ≡ sum b.closing.credits) × (b.closing.undistributed ≡ undistributed_in h)

-- "For every list of the book's calls from a fresh book, refused ones included, this holds after the list."
abbrev pub Claim : Type 0
Claim = (calls : List Event) → Demand3 (accepted_by fresh_book [] calls) (after_all fresh_book calls)
