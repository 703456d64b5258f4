-- The thirteen cases that the papers fix, over the definitions ("Before a delivery is taken").
use Rattle.power.specs.declared.quantity.Watts.{Watts}
use Rattle.std.specs.Prelude.{◌≡◌, Bool, true, false, List, [], ◌∷◌, ◌++◌, ℕ, replicate, Option, None, Some}
use Rattle.basis.specs.Numbers.{bytes_of, all_bytes_of}
use Rattle.share.specs.Division.{shares}
use Rattle.power.specs.Quantity.{watts}
use Rattle.power.specs.Power.{Answer, fresh, test_of}
use Rattle.plant.specs.Efficient.{efficient_of}
use Rattle.journal.specs.Run.{run_of}
use Rattle.journal.specs.declared.outcome.Run.{Run}
use Rattle.listing.specs.Listing.{totals_line, counts_line}
use Rattle.letters.specs.Letters.{unit_lines, owners_of, producer_lines, demand_lines, settlement_lines}

-- case J, record by record, with the readings of its three meters
unfoldable pub journal_with : ℕ → ℕ → ℕ → List ℕ
journal_with real1 real2 real3 =
    -- year 720, 120, 4
    (0x59 ∷ 0x52 ∷ 0xD0 ∷ 0x02 ∷ 0x78 ∷ 0x00 ∷ 0x04 ∷ []) ++ (
    -- unit 1, producer 1, kind 1, flags 17, rest 0
    (0x55 ∷ 0x4E ∷ 0x01 ∷ 0x01 ∷ 0x01 ∷ 0x11 ∷ 0x00 ∷ 0x00 ∷ 0x00 ∷ 0x00 ∷ 0x00 ∷ 0x00 ∷ 0x00 ∷ 0x00 ∷ 0x00 ∷ 0x00 ∷ 0x00 ∷ 0x00 ∷ 0x00 ∷ 0x00 ∷ 0x00 ∷ 0x00 ∷ 0x00 ∷ 0x00 ∷ 0x00 ∷ 0x00 ∷ []) ++ (
    -- test 1, component 0, ending 0, TC 4, four readings 2,500
    (0x54 ∷ 0x53 ∷ 0x01 ∷ 0x00 ∷ 0x00 ∷ 0x04 ∷ 0x04 ∷ 0xC4 ∷ 0x09 ∷ 0x00 ∷ 0x00 ∷ 0xC4 ∷ 0x09 ∷ 0x00 ∷ 0x00 ∷ 0xC4 ∷ 0x09 ∷ 0x00 ∷ 0x00 ∷ 0xC4 ∷ 0x09 ∷ 0x00 ∷ 0x00 ∷ []) ++ (
    -- availability 900, 60, 40, 10
    (0x41 ∷ 0x56 ∷ 0x01 ∷ 0x00 ∷ 0x84 ∷ 0x03 ∷ 0x00 ∷ 0x00 ∷ 0x3C ∷ 0x00 ∷ 0x00 ∷ 0x00 ∷ 0x28 ∷ 0x00 ∷ 0x00 ∷ 0x00 ∷ 0x0A ∷ 0x00 ∷ 0x00 ∷ 0x00 ∷ []) ++ (
    -- declare 1: 1000/1000
    (0x44 ∷ 0x4D ∷ 0x01 ∷ 0xE8 ∷ 0x03 ∷ 0x00 ∷ 0x00 ∷ 0xE8 ∷ 0x03 ∷ 0x00 ∷ 0x00 ∷ []) ++ (
    -- declare 2: 1000/1100
    (0x44 ∷ 0x4D ∷ 0x02 ∷ 0xE8 ∷ 0x03 ∷ 0x00 ∷ 0x00 ∷ 0x4C ∷ 0x04 ∷ 0x00 ∷ 0x00 ∷ []) ++ (
    -- declare 3: 1000/1000
    (0x44 ∷ 0x4D ∷ 0x03 ∷ 0xE8 ∷ 0x03 ∷ 0x00 ∷ 0x00 ∷ 0xE8 ∷ 0x03 ∷ 0x00 ∷ 0x00 ∷ []) ++ (
    -- fix 10,000
    (0x46 ∷ 0x58 ∷ 0x10 ∷ 0x27 ∷ 0x00 ∷ 0x00 ∷ []) ++ (
    -- commit 1 to 1 9,000
    (0x43 ∷ 0x4D ∷ 0x01 ∷ 0x01 ∷ 0x28 ∷ 0x23 ∷ 0x00 ∷ 0x00 ∷ []) ++ (
    -- commit 1 to 2 501
    (0x43 ∷ 0x4D ∷ 0x01 ∷ 0x02 ∷ 0xF5 ∷ 0x01 ∷ 0x00 ∷ 0x00 ∷ []) ++ (
    -- release 1 to 1 1,000
    (0x52 ∷ 0x4C ∷ 0x01 ∷ 0x01 ∷ 0xE8 ∷ 0x03 ∷ 0x00 ∷ 0x00 ∷ []) ++ (
    -- commit 1 to 2 1,500
    (0x43 ∷ 0x4D ∷ 0x01 ∷ 0x02 ∷ 0xDC ∷ 0x05 ∷ 0x00 ∷ 0x00 ∷ []) ++ (
    -- meter 1, 2, 3
    (0x4D ∷ 0x54 ∷ 0x01 ∷ bytes_of 4 real1) ++ ((0x4D ∷ 0x54 ∷ 0x02 ∷ bytes_of 4 real2) ++ ((0x4D ∷ 0x54 ∷ 0x03 ∷ bytes_of 4 real3) ++
    -- close 890
    (0x43 ∷ 0x4C ∷ 0x7A ∷ 0x03 ∷ [])))))))))))))))

-- J meters 900, 1,200, 1,000
unfoldable pub run_j : Run
run_j = run_of (journal_with 900 1200 1000)

-- "J with every meter reading 4,000"
unfoldable pub run_above : Run
run_above = run_of (journal_with 4000 4000 4000)

-- readings of 1,000 kWh each, four bytes
unfoldable pub equal_readings : ℕ → List ℕ
equal_readings count = all_bytes_of 4 (replicate count 1000)

-- what a component's first test, of TC 5, answers: the number and the component
abbrev pub first_test : ℕ → ℕ → Answer
first_test ending count = test_of fresh None ending 5 count (equal_readings count)

-- an accepted test, with the memory of a void trip and the result that it leaves, in watts
abbrev pub accepted_test : Bool → Option Watts → Answer
accepted_test memory result =
    record { number = 0; component = record { result = result; void_trip = memory; availability = None } }

pub record Thirteen : Type 0 where
  -- U 1 9500 9500
  pub letter_u : unit_lines run_j.book.units run_j.book.offers run_j.book.efficient ≡ 85 ∷ 32 ∷ 49 ∷ 32 ∷ 57 ∷ 53 ∷ 48 ∷ 48 ∷ 32 ∷ 57 ∷ 53 ∷ 48 ∷ 48 ∷ 10 ∷ []
  -- P 1 9500 9500
  pub letter_p : producer_lines (owners_of run_j.book.units) run_j.book.limits run_j.book.balances ≡ 80 ∷ 32 ∷ 49 ∷ 32 ∷ 57 ∷ 53 ∷ 48 ∷ 48 ∷ 32 ∷ 57 ∷ 53 ∷ 48 ∷ 48 ∷ 10 ∷ []
  -- D 1 3334, D 2 3333, D 3 3333
  pub letter_d : demand_lines run_j.book.consumers ≡ 68 ∷ 32 ∷ 49 ∷ 32 ∷ 51 ∷ 51 ∷ 51 ∷ 52 ∷ 10 ∷ 68 ∷ 32 ∷ 50 ∷ 32 ∷ 51 ∷ 51 ∷ 51 ∷ 51 ∷ 10 ∷ 68 ∷ 32 ∷ 51 ∷ 32 ∷ 51 ∷ 51 ∷ 51 ∷ 51 ∷ 10 ∷ []
  -- S 1 334 7123560, S 2 -667 -7123560, S 3 0 0
  pub letter_s : settlement_lines run_j.book.consumers run_j.book.closing.adjusted run_j.book.closing.charges run_j.book.closing.credits ≡ 83 ∷ 32 ∷ 49 ∷ 32 ∷ 51 ∷ 51 ∷ 52 ∷ 32 ∷ 55 ∷ 49 ∷ 50 ∷ 51 ∷ 53 ∷ 54 ∷ 48 ∷ 10 ∷ 83 ∷ 32 ∷ 50 ∷ 32 ∷ 45 ∷ 54 ∷ 54 ∷ 55 ∷ 32 ∷ 45 ∷ 55 ∷ 49 ∷ 50 ∷ 51 ∷ 53 ∷ 54 ∷ 48 ∷ 10 ∷ 83 ∷ 32 ∷ 51 ∷ 32 ∷ 48 ∷ 32 ∷ 48 ∷ 10 ∷ []
  -- T 7123560 7123560 0
  pub letter_t : totals_line run_j.book ≡ 84 ∷ 32 ∷ 55 ∷ 49 ∷ 50 ∷ 51 ∷ 53 ∷ 54 ∷ 48 ∷ 32 ∷ 55 ∷ 49 ∷ 50 ∷ 51 ∷ 53 ∷ 54 ∷ 48 ∷ 32 ∷ 48 ∷ 10 ∷ []
  -- R 16 15 1
  pub letter_r : counts_line run_j ≡ 82 ∷ 32 ∷ 49 ∷ 54 ∷ 32 ∷ 49 ∷ 53 ∷ 32 ∷ 49 ∷ 10 ∷ []
  -- trip not the plant's doing, accepted: below 80 % void, at 80 % over the time reached
  pub count_3_ending_1 : first_test 1 3 ≡ accepted_test false None
  pub count_4_ending_1 : first_test 1 4 ≡ accepted_test false (Some (watts 4000000))
  -- trip of the plant's doing, accepted: below 80 % void and remembered, at 80 % over TC
  pub count_3_ending_2 : first_test 2 3 ≡ accepted_test true None
  pub count_4_ending_2 : first_test 2 4 ≡ accepted_test false (Some (watts 3200000))
  -- "a tie the first"
  pub tie_of_years : efficient_of 2 (1 ∷ 2 ∷ []) (500 ∷ 500 ∷ []) ≡ record { year = 1; offers = 500 ∷ 0 ∷ [] }
  pub three_equal_weights : shares 10000 (1000 ∷ 1000 ∷ 1000 ∷ []) ≡ 3334 ∷ 3333 ∷ 3333 ∷ []
  -- "charges and undistributed are both 106,800,000"
  pub no_positive_adjustment : (run_above.book.closing.charged ≡ 106800000) × (run_above.book.closing.credited ≡ 0) × (run_above.book.closing.undistributed ≡ 106800000)
