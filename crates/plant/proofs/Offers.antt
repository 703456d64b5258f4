-- A firm offer, in watts, is at most the maximum power of component 0, whatever the kind.
use mathlib.Core.Path.{◌≡◌, refl, sym}
use mathlib.Core.Bool.{Bool, true, false}
use mathlib.Core.List.{List, [], ◌∷◌}
use Prim.Native.Nat.{ℕ, zero, suc, ◌≤◌, ◌<◌, zero-le}
use native.Mathlib.Nat.{min-le_left, min-le_right, le_trans}
use native.Mathlib.Omega.{arith}
use lib.ListN.{get_or, get_or-eq_default}
use Rattle.basis.specs.Choice.{pick}
use Rattle.quantities.specs.Limits.{greatest_kind}
use Rattle.power.specs.declared.quantity.Watts.{Watts}
use Rattle.power.specs.declared.component.Component.{Component}
use Rattle.power.specs.declared.component.Hours.{Hours}
use Rattle.plant.specs.declared.offer.Plant.{Plant}
use Rattle.power.specs.Quantity.{watts, in_watts, least, over_hours}
use Rattle.power.specs.Power.{maximum_power}
use Rattle.plant.specs.Offer.{available_power, offers_by_kind, offer_in_watts, firm_offer, complete}
use Rattle.plant.specs.Promises.{OfferAtMostMaximum}
use Rattle.plant.proofs.Coefficient.{times_c_at_most}

module _ (p : Plant) (h : Hours) (set generator storage : Component) where
  -- there is none in front of kind 1 and behind kind 8
  pub offer_of_no_kind : (0 < p.kind → greatest_kind < p.kind) → watts 0 ≡ offer_in_watts p h set generator storage
  unfolding offer_in_watts
  offer_of_no_kind f = go p.kind f
    where
      go : (k : ℕ) → (0 < k → greatest_kind < k) → watts 0 ≡ get_or (offers_by_kind p h set generator storage) k (watts 0)
      go zero f = refl
      go (suc k) f = sym (get_or-eq_default (offers_by_kind p h set generator storage) (watts 0) (f (omega arith)))

-- no power of a list is above a limit
data All (most : Watts) : List Watts → Type 0 where
  none : All most []
  more : {p : Watts} {l : List Watts} → p.0 ≤ most.0 → All most l → All most (p ∷ l)

at_most : (most d : Watts) (l : List Watts) → All most l → d.0 ≤ most.0 → (k : ℕ) → (get_or l k d).0 ≤ most.0
at_most most d l none h k = h
at_most most d l (more a m) h zero = a
at_most most d (p ∷ l) (more a m) h (suc k) = at_most most d l m h k

-- what is given only if a test holds
if_held : (t : Bool) (p most : Watts) → p.0 ≤ most.0 → (pick t p (watts 0)).0 ≤ most.0
if_held true p most h = h
if_held false p most h = zero-le

-- power times c, and the lesser of two, are within the power
available : (x : Component) → (available_power x).0 ≤ (maximum_power x).0
available x = times_c_at_most (maximum_power x) x.availability

lesser : (a b most : Watts) → a.0 ≤ most.0 → (least a b).0 ≤ most.0
lesser a b most h = le_trans (min-le_left a.0 b.0) h

row_at_most_maximum : (p : Plant) (h : Hours) (set generator storage : Component) → (offer_in_watts p h set generator storage).0 ≤ (maximum_power set).0
unfolding offer_in_watts
row_at_most_maximum p h set generator storage =
    at_most most (watts 0) (offers_by_kind p h set generator storage)
    (more zero-le
    (more (if_held p.report (available_power set) most (available set))
    (more (if_held p.report _ most (le_trans (times_c_at_most (least (in_watts p.ppr) most) set.availability) (min-le_right (in_watts p.ppr).0 most.0)))
    (more (limited h.nhrm)
    (more (limited h.ndhmd)
    (more (lesser (least (available_power set) most) (over_hours p.e1 h.nhmd) most (lesser (available_power set) most most (available set)))
    (more (limited h.ndhmd)
    (more (limited h.nhrm)
    (more (if_held (complete set generator storage) _ most (min-le_left most.0 _))
    none)))))))))
    zero-le
    p.kind
  where
    most : Watts
    most = maximum_power set

    limited : (hours : ℕ) → (least (available_power set) (over_hours p.e1 hours)).0 ≤ (maximum_power set).0
    limited hours = lesser (available_power set) (over_hours p.e1 hours) (maximum_power set) (available set)

-- .. and so is what it is in watts, once it is rounded down to kW
pub offer_at_most_maximum : OfferAtMostMaximum
unfolding firm_offer
offer_at_most_maximum p h set generator storage = omega (arith, row_at_most_maximum p h set generator storage)
