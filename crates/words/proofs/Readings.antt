-- The readings that are shown, as the chunks of four bytes that hold them.
use Rattle.std.proofs.Common.{◌≡◌, ℕ, zero, suc, ◌/◌, List, ◌∷◌, map, length, take, drop, min, sym, ap, ◌∙◌, arith}
use Rattle.std.specs.Int.{from_le_bytes, w32}
use Rattle.std.specs.List.{flat_map}
use Rattle.std.specs.Simd.{first_chunks}
use Rattle.std.proofs.lemmas.List.Folds.{flat_map-map}
use Rattle.quantities.specs.Limits.{greatest_count}
use Rattle.power.proofs.Readings.{chunks_from}
use Rattle.words.specs.Calls.{value_text, shown_readings, readings_text}

-- the first chunks of the first
first : (n k : ℕ) (s : List ℕ) → take n (first_chunks 4 k s) ≡ first_chunks 4 (min n k) s
first zero k s = let e : min 0 k ≡ 0 = omega arith in rw e
first (suc n) zero s = let e : min (suc n) 0 ≡ 0 = omega arith in rw e
first (suc n) (suc k) s =
    let e : min (suc n) (suc k) ≡ suc (min n k) = omega arith in
    rw e (ap (λ l. take 4 s ∷ l) (first n k (drop 4 s)))

-- the chunks of a list
abbrev pub chunks : List ℕ → List (List ℕ)
chunks s = first_chunks 4 (length s / 4) s

pub readings_of_chunks : (s : List ℕ) → flat_map (λ b. value_text (from_le_bytes w32 b)) (take greatest_count (chunks s)) ≡ readings_text s
unfolding readings_text
readings_of_chunks s =
    sym (flat_map-map value_text (from_le_bytes w32) (take greatest_count (chunks s)))
    ∙ ap (λ l. flat_map value_text (map (from_le_bytes w32) l)) (first greatest_count (length s / 4) s)
    ∙ ap (flat_map value_text) (chunks_from 0 (shown_readings (length s)) s)
