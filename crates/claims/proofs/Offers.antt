-- The efficient offers that a history tells of, and what each producer may commit.
use Rattle.std.specs.Prelude.{Option, None, Some}
use Rattle.state.specs.declared.kept.Entry.{Entry}
use mathlib.Core.Path.{◌≡◌, refl, ap, ◌∙◌, subst}
use mathlib.Core.Bool.{Bool, true, false}
use mathlib.Core.List.{List}
use Prim.Native.Nat.{ℕ, suc, min, ◌-◌, ◌*◌, ◌≤◌, ◌<◌, zero-le}
use native.Mathlib.Nat.{le_trans, min-eq_right, mul-le-mul_left}
use native.Mathlib.Omega.{arith}
use lib.Dec.{eqb}
use lib.ListN.{get_or}
use Rattle.basis.specs.Choice.{pick}
use Rattle.basis.proofs.Sums.{sum_up_same, sum_up_at_most}
use Rattle.basis.proofs.Tables.{get_or-tab}
use Rattle.power.specs.Quantity.{watts_of_kilowatt}
use Rattle.power.specs.Power.{maximum_power}
use Rattle.quantities.specs.Limits.{greatest_power, units, producers}
use Rattle.plant.specs.Efficient.{chosen_year}
use Rattle.plant.proofs.Offers.{offer_at_most_maximum}
use Rattle.plant.proofs.Selection.{efficient_of_unit, efficient_at_most_offer}
use Rattle.table.proofs.Laws.{Numbered}
use Rattle.state.specs.declared.kept.Unit.{Unit}
use Rattle.state.specs.declared.kept.Book.{Book}
use Rattle.state.specs.State.{fresh_unit}
use Rattle.fix.specs.Fix.{offer_by, offers_of, flags_of, efficient_in, greatest_limit, producer_by, limit_of, limits_of}
use Rattle.book.specs.Lists.{Event}
use Rattle.claims.specs.History.{fixed_in, hours_in, entry_in}
use Rattle.claims.specs.Figures.{unit_in, units_in, power_in, offers_in, efficient_offers_in, efficient_offer_in, producer_offer_in}
use Rattle.claims.proofs.Kept.{Kept}
use Rattle.claims.proofs.Tables.{map-tab}

module _ (h : List Event) where
  -- the offer of a unit, and that in watts it is at most its maximum power
  offer_of : (u : Unit) → watts_of_kilowatt * offer_by (hours_in h) u u.enrolment ≤ (maximum_power u.components.set).0
  offer_of u = go u.enrolment
    where
      go : (e : Option Entry) → watts_of_kilowatt * offer_by (hours_in h) u e ≤ (maximum_power u.components.set).0
      go None = zero-le
      go (Some e) = offer_at_most_maximum e.plant (hours_in h) u.components.set u.components.generator u.components.storage

  offer_at : (i : ℕ) → i < units → watts_of_kilowatt * get_or (offers_in h) i 0 ≤ power_in h (suc i)
  unfolding offers_in offers_of units_in
  offer_at i p =
      let e = map-tab (λ (u : Unit). offer_by (hours_in h) u u.enrolment) (λ j. unit_in h (suc j)) units in
      rw (e, get_or-tab (λ j. offer_by (hours_in h) (unit_in h (suc j)) (unit_in h (suc j)).enrolment) units i 0 p) (offer_of (unit_in h (suc i)))

  efficient_at : (i : ℕ) → i < units → watts_of_kilowatt * efficient_offer_in h (suc i) ≤ power_in h (suc i)
  unfolding efficient_offers_in efficient_in
  efficient_at i p =
      let year = chosen_year units (flags_of (units_in h)) (offers_in h) in
      let e : suc i - 1 ≡ i = omega arith in
      le_trans
      (mul-le-mul_left watts_of_kilowatt (rw (e, efficient_of_unit units year (flags_of (units_in h)) (offers_in h) i p) (efficient_at_most_offer year (get_or (flags_of (units_in h)) i 0) (get_or (offers_in h) i 0))))
      (offer_at i p)

  pub within_power : (u : ℕ) → Numbered units u → watts_of_kilowatt * efficient_offer_in h u ≤ power_in h u
  within_power u n =
      let e : suc (u - 1) ≡ u = omega (arith, n.least) in subst (λ n. watts_of_kilowatt * efficient_offer_in h n ≤ power_in h n) e (efficient_at (u - 1) (omega (arith, n.least, n.most)))

  -- a producer's limit is the efficient offers of its units, capped
  limit_is : (p : ℕ) → Numbered producers p → get_or (limits_of (units_in h) (efficient_offers_in h)) (p - 1) 0 ≡ min greatest_limit (producer_offer_in h p)
  unfolding limits_of limit_of units_in
  limit_is p np =
      let e : suc (p - 1) ≡ p = omega (arith, np.least) in
      let same =
      sum_up_same (λ i. pick (eqb (producer_by (get_or (units_in h) i fresh_unit).enrolment) p) (get_or (efficient_offers_in h) i 0) 0) (λ i. pick (eqb (producer_by (entry_in h (suc i))) p) (efficient_offer_in h (suc i)) 0) units
      (λ i q.
      let s : suc i - 1 ≡ i = omega arith in
      rw (get_or-tab (λ j. unit_in h (suc j)) units i fresh_unit q, s) refl) in
      rw (get_or-tab (λ i. limit_of (units_in h) (efficient_offers_in h) (suc i)) producers (p - 1) 0 (omega (arith, np.least, np.most)), e)
      (ap (min greatest_limit) same)

module _ (h : List Event) (b : Book) (k : Kept h b) where
  -- a producer's limit is exactly the efficient offers of its units
  offer_small : (p : ℕ) → producer_offer_in h p ≤ greatest_limit
  offer_small p =
      sum_up_at_most greatest_power (λ i. pick (eqb (producer_by (entry_in h (suc i))) p) (efficient_offer_in h (suc i)) 0) units
      (λ i q. chosen (eqb (producer_by (entry_in h (suc i))) p) i q)
    where
      chosen : (t : Bool) (i : ℕ) → i < units → pick t (efficient_offer_in h (suc i)) 0 ≤ greatest_power
      chosen true i q = omega (arith, efficient_at h i q, k.plants.power_small (suc i) 0)
      chosen false i q = zero-le

  pub limit_in : fixed_in h ≡ true → (p : ℕ) → Numbered producers p → get_or b.limits (p - 1) 0 ≡ producer_offer_in h p
  limit_in q p np =
      ap (λ l. get_or l (p - 1) 0) (k.firm.limits_kept q) ∙ limit_is h p np ∙ min-eq_right (offer_small p)
