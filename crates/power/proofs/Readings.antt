-- The readings of a test, as the chunks of four bytes that hold them.
use Rattle.std.proofs.Common.{◌≡◌, refl, sym, ap, subst, ◌∙◌, ℕ, zero, suc, ◌+◌, ◌*◌, ◌/◌, ◌≤◌, true, List, [], ◌∷◌, map, length, take, drop, leb, arith}
use Rattle.std.specs.Int.{from_le_bytes, w32}
use Rattle.std.specs.List.{list_all, sum_by}
use Rattle.std.specs.Simd.{first_chunks}
use Rattle.std.proofs.lemmas.List.{drop-drop}
use Rattle.std.proofs.lemmas.List.Folds.{list_all-map}
use Rattle.std.proofs.lemmas.List.Sums.{sum-map}
use Rattle.basis.specs.Numbers.{number, number_at}
use Rattle.basis.specs.Tables.{tab_from}
use Rattle.basis.specs.Sums.{sum, all_at_most}
use Rattle.basis.proofs.Sums.{sum_at_most, all_at_most_lem}
use Rattle.basis.proofs.Tables.{length-tab}
use Rattle.power.specs.Ranges.{readings_of}
use Rattle.power.specs.Power.{energy_of}

-- the number of four bytes, in the library's words
of_four : (s : List ℕ) → number (take 4 s) ≡ from_le_bytes w32 (take 4 s)
unfolding number
of_four [] = refl
of_four (a ∷ []) = omega arith
of_four (a ∷ b ∷ []) = omega arith
of_four (a ∷ b ∷ c ∷ []) = omega arith
of_four (a ∷ b ∷ c ∷ d ∷ s) = omega arith

-- the readings from the one at i on
pub chunks_from : (i n : ℕ) (s : List ℕ) → map (from_le_bytes w32) (first_chunks 4 n (drop (4 * i) s)) ≡ tab_from (λ k. number_at 4 s (4 * k)) i n
unfolding tab_from
chunks_from i zero s = refl
chunks_from i (suc n) s =
    let next : drop 4 (drop (4 * i) s) ≡ drop (4 * (i + 1)) s = drop-drop 4 (4 * i) s ∙ ap (λ k. drop k s) (omega arith) in
    rw (← of_four (drop (4 * i) s), next) (ap (λ l. number_at 4 s (4 * i) ∷ l) (chunks_from (i + 1) n s))

chunks_are_readings : (count : ℕ) (s : List ℕ) → length s ≡ 4 * count → map (from_le_bytes w32) (first_chunks 4 (length s / 4) s) ≡ readings_of count s
chunks_are_readings count s h =
    let n : length s / 4 ≡ count = omega arith in rw n (chunks_from 0 count s)

-- a test and the sum of all chunks are those of the readings
pub all_readings : (m count : ℕ) (s : List ℕ) → length s ≡ 4 * count → list_all (λ bytes. leb (from_le_bytes w32 bytes) m) (first_chunks 4 (length s / 4) s) ≡ all_at_most m (readings_of count s)
all_readings m count s h =
    sym (list_all-map (λ x. leb x m) (from_le_bytes w32) (first_chunks 4 (length s / 4) s))
    ∙ ap (all_at_most m) (chunks_are_readings count s h)

pub sum_of_readings : (count : ℕ) (s : List ℕ) → length s ≡ 4 * count → sum_by (from_le_bytes w32) (first_chunks 4 (length s / 4) s) ≡ sum (readings_of count s)
sum_of_readings count s h =
    sym (sum-map (from_le_bytes w32) (first_chunks 4 (length s / 4) s)) ∙ ap sum (chunks_are_readings count s h)

-- readings of at most m each sum to at most count times m
pub energy_at_most : (m count : ℕ) (s : List ℕ) → all_at_most m (readings_of count s) ≡ true → (energy_of count s).0 ≤ count * m
energy_at_most m count s e =
    subst (λ n. sum (readings_of count s) ≤ n * m) (length-tab (λ i. number_at 4 s (4 * i)) count)
    (sum_at_most m (readings_of count s) (all_at_most_lem m (readings_of count s) e))
