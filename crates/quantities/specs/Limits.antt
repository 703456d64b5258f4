-- The limits of document 01, each once: "Quantities", the ranges of "Journal records", "Division by shares"; and those of document 02.
use Rattle.std.specs.Prelude.{ℕ}

-- "Units are 1 to 48, producers 1 to 16"
abbrev pub units : ℕ
units = 48

abbrev pub producers : ℕ
producers = 16

-- "The limit of 64 becomes 300" (document 02, A7)
abbrev pub consumers : ℕ
consumers = 300

-- "consumers 1 to 64", those that a record's field of one byte names
abbrev pub byte_consumers : ℕ
byte_consumers = 64

-- "A field of power is in whole kW, 0 to 3,000,000"
abbrev pub greatest_power : ℕ
greatest_power = 3000000

-- "Other energies are 0 to 4,000,000,000 kWh."
abbrev pub greatest_energy : ℕ
greatest_energy = 4000000000

-- "A reading is the kWh of one quarter hour, 0 to 750,000."
abbrev pub greatest_reading : ℕ
greatest_reading = 750000

-- "Availability is counted in minutes, each figure 0 to 1,052,640 (731 days)."
abbrev pub greatest_minutes : ℕ
greatest_minutes = 1052640

-- "Minutes run from 0 to 4,000,000,000": the greatest minute at which a window or an entry of an outage log starts or ends
abbrev pub last_minute : ℕ
last_minute = 4000000000

-- "Its entries, at most 1,000"
abbrev pub most_entries : ℕ
most_entries = 1000

-- NHRM and NHMD, and NDHMD, at most
abbrev pub greatest_hours : ℕ
greatest_hours = 744

abbrev pub greatest_day_hours : ℕ
greatest_day_hours = 24

-- a kind of plant is 1 to 8
abbrev pub greatest_kind : ℕ
greatest_kind = 8

-- a component, and the way a test ended, are 0 to 2
abbrev pub greatest_component : ℕ
greatest_component = 2

abbrev pub greatest_ending : ℕ
greatest_ending = 2

-- TC, the full test time in quarters, is 4 to 96
abbrev pub least_time : ℕ
least_time = 4

abbrev pub greatest_time : ℕ
greatest_time = 96

-- the number of readings is 0 to 96
abbrev pub greatest_count : ℕ
greatest_count = 96

-- P is 1 to 2,500 cents per kW-month
abbrev pub greatest_price : ℕ
greatest_price = 2500

-- "The library sold alone takes 1 to 64 weights up to 3,000,000 and T up to 6,000,000,000,000"; the limit of 64 "becomes 300, for the division too" (A7)
abbrev pub greatest_total : ℕ
greatest_total = 6000000000000

abbrev pub greatest_weight : ℕ
greatest_weight = greatest_power

abbrev pub most_weights : ℕ
most_weights = consumers
