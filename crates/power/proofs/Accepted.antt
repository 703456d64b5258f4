-- What an accepted test shows.
use mathlib.Core.Path.{◌≡◌}
use mathlib.Core.Bool.{true}
use mathlib.Core.List.{List}
use Prim.Native.Nat.{ℕ, ◌*◌, ◌/◌, ◌^◌, ◌≤◌, ◌<◌}
use Rattle.std.specs.Int.{from_le_bytes, w32}
use Rattle.std.specs.List.{sum_by}
use Rattle.std.specs.Simd.{first_chunks}
use native.Mathlib.Omega.{arith}
use Rattle.std.proofs.lemmas.Bool.Decides.{nat_tests}
use lib.ListN.{length}
use Rattle.basis.specs.Sums.{sum, all_at_most}
use Rattle.quantities.specs.Limits.{greatest_reading, greatest_ending, greatest_count, greatest_time, least_time}
use Rattle.power.specs.Ranges.{readings_of}
use Rattle.power.specs.Power.{count_fits, test_number}
use Rattle.power.proofs.Readings.{sum_of_readings, energy_at_most}

-- what an accepted test shows
pub record AcceptedTest (ending tc count : ℕ) (bytes : List ℕ) : Type 0 where
  pub ended : ending ≤ greatest_ending
  pub least_time_lem : least_time ≤ tc
  pub most_time : tc ≤ greatest_time
  pub few : count ≤ greatest_count
  pub whole : length bytes ≡ 4 * count
  pub small : all_at_most greatest_reading (readings_of count bytes) ≡ true
  pub fits : count_fits ending tc count ≡ true

pub accepted-test : (ending tc count : ℕ) (bytes : List ℕ) → test_number ending tc count bytes ≡ 0 → AcceptedTest ending tc count bytes
accepted-test ending tc count bytes e = grind (arith, nat_tests)

-- no more readings than the full time has quarters
pub count_within_time : (ending tc count : ℕ) → count_fits ending tc count ≡ true → count ≤ tc
count_within_time ending tc count e = grind (arith, nat_tests)

-- .. and so the energy of the chunks that hold its readings is that of the readings, and as small as these allow
pub record EnergyOfChunks (tc count : ℕ) (bytes : List ℕ) : Type 0 where
  pub same : sum_by (from_le_bytes w32) (first_chunks 4 (length bytes / 4) bytes) ≡ sum (readings_of count bytes)
  pub fits : sum (readings_of count bytes) < 2 ^ 32
  pub small : sum (readings_of count bytes) ≤ count * greatest_reading
  pub within : count ≤ tc

pub energy_of_chunks : (ending tc count : ℕ) (bytes : List ℕ) → test_number ending tc count bytes ≡ 0 → EnergyOfChunks tc count bytes
energy_of_chunks ending tc count bytes e =
    let k = accepted-test ending tc count bytes e in
    let small : sum (readings_of count bytes) ≤ count * greatest_reading = energy_at_most greatest_reading count bytes k.small in
    record {
      same = sum_of_readings count bytes k.whole;
      fits = omega (arith, k.few, small);
      small = small;
      within = count_within_time ending tc count k.fits;
    }
