-- Examples of the table of numbered replies, by computation.
use mathlib.Core.Path.{◌≡◌, refl}
use mathlib.Core.List.{[], ◌∷◌}
use Rattle.basis.specs.Numbers.{number}
use Rattle.table.specs.Records.{parts_of, readings_size, table_of, form_of, mark_at}
use Rattle.table.specs.Ranges.{fields_number, rest_in_range, call_number}
use Rattle.record.specs.Reading.{read_at, stop_number}
use Rattle.record.specs.Writing.{write_number}
use Rattle.table.specs.declared.calls.Call.TheVariants.{Year, Unit}
use Rattle.table.specs.declared.units.UnitCall.TheVariants.{Enrol}

-- 1: 59
pub cut_short : stop_number (read_at (0x59 ∷ []) 0) ≡ 1
unfolding read_at
cut_short = refl

-- 2: 00 00
pub unknown-mark : stop_number (read_at (0 ∷ 0 ∷ []) 0) ≡ 2
unfolding read_at mark_at table_of number
unknown-mark = refl

-- 3: kind 9
pub kind_nine : call_number (Unit 1 (Enrol (record { producer = 1; kind = 9; flags = 0; pic = 0; ppr = 0; e1 = 0; e2 = 0; cap = 0 }))) [] ≡ 3
unfolding fields_number call_number table_of parts_of rest_in_range
kind_nine = refl

-- 15: 6 bytes for year
pub six_bytes : write_number (Year (record { nhrm = 720; nhmd = 120; ndhmd = 4 })) [] 6 ≡ 15
unfolding write_number fields_number call_number table_of parts_of rest_in_range readings_size form_of
six_bytes = refl

-- 7 bytes are enough
pub seven_bytes : write_number (Year (record { nhrm = 720; nhmd = 120; ndhmd = 4 })) [] 7 ≡ 0
unfolding write_number fields_number call_number table_of parts_of rest_in_range readings_size form_of
seven_bytes = refl
