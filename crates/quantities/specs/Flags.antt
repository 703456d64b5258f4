-- The flags of a unit ("Journal records").
use Rattle.std.specs.Prelude.{Bool, ℕ, ◌/◌, ◌%◌, eqb}

-- "Flags: 1 and 2 used in first and second simulated year, 4 forced generation persists, 8 PIC given, 16 supply report held"
abbrev pub first_year : ℕ
first_year = 1

abbrev pub second_year : ℕ
second_year = 2

abbrev pub forced_generation : ℕ
forced_generation = 4

abbrev pub injection_given : ℕ
injection_given = 8

abbrev pub report_held : ℕ
report_held = 16

-- all of them together; "Other bits .. are 0"
abbrev pub all_flags : ℕ
all_flags = 31

-- the flag stands in the flags
abbrev pub flagged : ℕ → ℕ → Bool
flagged flag flags = eqb (flags / flag % 2) 1
