-- What is promised of powers and offers, whatever the plant, its components and their tests.
use Rattle.std.specs.Prelude.{◌≡◌, List, ◌⊎◌, ℕ, ◌≤◌, Option, Some}
use Rattle.power.specs.declared.quantity.Kw.{Kw}
use Rattle.power.specs.declared.component.Minutes.{Minutes}
use Rattle.power.specs.declared.component.Component.{Component}
use Rattle.power.specs.declared.component.Hours.{Hours}
use Rattle.plant.specs.declared.offer.Plant.{Plant}
use Rattle.power.specs.Quantity.{in_watts, greatest_watts}
use Rattle.power.specs.Power.{maximum_power, test_of}
use Rattle.plant.specs.Availability.{ready_minutes, whole_minutes}
use Rattle.plant.specs.Offer.{firm_offer}
use Rattle.plant.specs.Efficient.{efficient_offer}

-- "Each result is capped by PIC if given": a test under a cap, accepted or not, leaves a maximum power within the cap if it found one
abbrev pub TestWithinCap : Type 0
TestWithinCap =
    (x : Component) (pic : Kw) (ending tc count : ℕ) (bytes : List ℕ) →
    (maximum_power x).0 ≤ (in_watts pic).0 →
    (maximum_power (test_of x (Some pic) ending tc count bytes).component).0 ≤ (in_watts pic).0

-- "A field of power is in whole kW, 0 to 3,000,000": a test leaves a maximum power of at most 3,000,000 kW, in watts, if it found one within this
abbrev pub TestWithinGreatest : Type 0
TestWithinGreatest =
    (x : Component) (cap : Option Kw) (ending tc count : ℕ) (bytes : List ℕ) →
    (maximum_power x).0 ≤ greatest_watts →
    (maximum_power (test_of x cap ending tc count bytes).component).0 ≤ greatest_watts

-- c = (HD + HMP - HED) / (HD + HIF + HMP) is at most 1
abbrev pub ReadyAtMostWhole : Type 0
ReadyAtMostWhole = (m : Minutes) → ready_minutes m ≤ whole_minutes m

-- a firm offer of any kind, "times 1,000, is still at most the unit's maximum power in watts" (document 02, A6), "that of component 0"
abbrev pub OfferAtMostMaximum : Type 0
OfferAtMostMaximum =
    (p : Plant) (h : Hours) (set generator storage : Component) →
    (in_watts (firm_offer p h set generator storage)).0 ≤ (maximum_power set).0

-- a unit "has its offer as efficient offer; others 0": the efficient offer is the offer or 0
abbrev pub EfficientOrNone : Type 0
EfficientOrNone =
    (year flags offer : ℕ) → (efficient_offer year flags offer ≡ offer) ⊎ (efficient_offer year flags offer ≡ 0)
