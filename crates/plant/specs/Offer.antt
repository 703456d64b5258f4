-- The firm offer of the eight kinds ("Firm offer", 2.1.1 to 2.1.7), in watts until it is finished (document 02, A6). What is missing makes it 0.
use Rattle.std.specs.Prelude.{Bool, true, false, List, [], ◌∷◌, ℕ, min, ◌+◌, get_or, Option, None, Some}
use Rattle.basis.specs.Choice.{pick}
use Rattle.power.specs.declared.quantity.Kw.{Kw}
use Rattle.power.specs.declared.quantity.Watts.{Watts}
use Rattle.power.specs.declared.component.Component.{Component}
use Rattle.power.specs.declared.component.Hours.{Hours}
use Rattle.plant.specs.declared.offer.Plant.{Plant}
use Rattle.power.specs.Quantity.{watts, in_watts, whole_kilowatts, least, over_hours}
use Rattle.power.specs.Power.{maximum_power}
use Rattle.plant.specs.Availability.{held, times_c}

-- PP·c of a component
abbrev pub available_power : Component → Watts
available_power x = times_c (maximum_power x) x.availability

-- a result is held
abbrev pub has_result : Option Watts → Bool
has_result None = false
has_result (Some p) = true

-- kind 1, thermal, with a supply report: PP·c
abbrev pub thermal : Plant → Component → Watts
thermal p x = pick p.report (available_power x) (watts 0)

-- kind 2, renewable fuel, with a supply report: min(PPR, PP)·c, PPR in watts
abbrev pub renewable : Plant → Component → Watts
renewable p x = pick p.report (times_c (least (in_watts p.ppr) (maximum_power x)) x.availability) (watts 0)

-- kinds 3 and 7, geothermal and run of river, 4 and 6, wind and solar: min(PP·c, E1 / hours)
abbrev pub limited : Plant → ℕ → Component → Watts
limited p hours x = least (available_power x) (over_hours p.e1 hours)

-- kind 5, regulated hydro: min(PP·c, PP, E1 / hours)
abbrev pub regulated : Plant → ℕ → Component → Watts
regulated p hours x = least (least (available_power x) (maximum_power x)) (over_hours p.e1 hours)

-- kind 8: gen = min(PP1·c1, E1 / hours)
abbrev pub generated : Plant → ℕ → Component → Watts
generated p hours x = limited p hours x

-- kind 8: store = min(PP2·c2, E2 / hours, CAP / hours)
abbrev pub stored : Plant → ℕ → Component → Watts
stored p hours x = least (least (available_power x) (over_hours p.e2 hours)) (over_hours p.cap hours)

-- kind 8: all three results, and the availabilities of generator and storage
abbrev pub complete : Component → Component → Component → Bool
complete set generator storage =
    pick (has_result set.result)
    (pick (has_result generator.result)
    (pick (has_result storage.result)
    (pick (held generator.availability) (held storage.availability) false)
    false)
    false)
    false

-- at most so much of two powers together
abbrev pub together : Watts → Watts → Watts → Watts
together most a b = watts (min most.0 (a.0 + b.0))

-- kind 8, with storage: min(PP, store + gen)
abbrev pub with_storage : Plant → ℕ → Component → Component → Component → Watts
with_storage p hours set generator storage =
    pick (complete set generator storage)
    (together (maximum_power set) (stored p hours storage) (generated p hours generator))
    (watts 0)

-- the table's rows in watts, from kind 1 to kind 8, behind one for no kind
abbrev pub offers_by_kind : Plant → Hours → Component → Component → Component → List Watts
offers_by_kind p h set generator storage =
    watts 0
    ∷ thermal p set
    ∷ renewable p set
    ∷ limited p h.nhrm set
    ∷ limited p h.ndhmd set
    ∷ regulated p h.nhmd set
    ∷ limited p h.ndhmd set
    ∷ limited p h.nhrm set
    ∷ with_storage p h.ndhmd set generator storage
    ∷ []

-- the row of a plant's kind, 0 where it is of no kind
unfoldable pub offer_in_watts : Plant → Hours → Component → Component → Component → Watts
offer_in_watts p h set generator storage = get_or (offers_by_kind p h set generator storage) p.kind (watts 0)

-- the firm offer of a plant with its three components: "Only the finished firm offer is rounded down to kW"
unfoldable pub firm_offer : Plant → Hours → Component → Component → Component → Kw
firm_offer p h set generator storage = whole_kilowatts (offer_in_watts p h set generator storage)
