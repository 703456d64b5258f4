-- Ranges of the quantities, of a test and of an availability ("Quantities", "Journal records").
use Rattle.std.specs.Prelude.{Bool, false, List, ℕ, ◌*◌, leb, eqb, length}
use Rattle.basis.specs.Choice.{pick, between}
use Rattle.basis.specs.Numbers.{numbers_of}
use Rattle.basis.specs.Sums.{all_at_most}
use Rattle.quantities.specs.Limits.{greatest_reading, greatest_minutes, greatest_ending, least_time, greatest_time, greatest_count}

-- the readings that lent bytes hold, four bytes each
abbrev pub readings_of : ℕ → List ℕ → List ℕ
readings_of count bytes = numbers_of 4 count bytes

-- the fields of a test, with the bytes of its readings, are in range
abbrev pub test_in_range : ℕ → ℕ → ℕ → List ℕ → Bool
test_in_range ending tc count bytes =
    pick (leb ending greatest_ending)
    (pick (between least_time greatest_time tc)
    (pick (leb count greatest_count)
    (pick (eqb (length bytes) (4 * count)) (all_at_most greatest_reading (readings_of count bytes)) false)
    false)
    false)
    false

-- the figures of an availability are in range
abbrev pub minutes_in_range : ℕ → ℕ → ℕ → ℕ → Bool
minutes_in_range hd hmp hif hed =
    pick (leb hd greatest_minutes)
    (pick (leb hmp greatest_minutes) (pick (leb hif greatest_minutes) (leb hed greatest_minutes) false) false)
    false
