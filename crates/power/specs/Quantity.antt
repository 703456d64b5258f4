-- Power in kW and in watts, energy in kWh, and the conversions between them ("Quantities": quotients are rounded down; document 02, A6).
use Rattle.std.specs.Prelude.{ℕ, min, ◌*◌, ◌/◌}
use Rattle.quantities.specs.Limits.{greatest_power}
use Rattle.power.specs.declared.quantity.Kw.{Kw}
use Rattle.power.specs.declared.quantity.Watts.{Watts}
use Rattle.power.specs.declared.quantity.Kwh.{Kwh}

abbrev pub kw : ℕ → Kw
kw n = record { 0 = n }

abbrev pub watts : ℕ → Watts
watts n = record { 0 = n }

abbrev pub kwh : ℕ → Kwh
kwh n = record { 0 = n }

-- a kilowatt has a thousand watts
abbrev pub watts_of_kilowatt : ℕ
watts_of_kilowatt = 1000

-- so many kilowatts in watts: "PIC taken times 1,000", "PPR .. likewise"
abbrev pub in_watts : Kw → Watts
in_watts power = watts (watts_of_kilowatt * power.0)

-- "rounded down to kW"
abbrev pub whole_kilowatts : Watts → Kw
whole_kilowatts power = kw (power.0 / watts_of_kilowatt)

-- the greatest field of power, in watts
abbrev pub greatest_watts : ℕ
greatest_watts = watts_of_kilowatt * greatest_power

-- the lesser of two powers
abbrev pub least : Watts → Watts → Watts
least a b = watts (min a.0 b.0)

-- an hour has four quarters
abbrev pub quarters_of_hour : ℕ
quarters_of_hour = 4

-- the power of an energy over so many quarter hours: "4,000·S over the same divisor, rounded down"
abbrev pub over_quarters : Kwh → ℕ → Watts
over_quarters energy quarters = watts (quarters_of_hour * watts_of_kilowatt * energy.0 / quarters)

-- the power of an energy over so many hours, 0 over none: "scaled before the division"
abbrev pub over_hours : Kwh → ℕ → Watts
over_hours energy hours = watts (watts_of_kilowatt * energy.0 / hours)
