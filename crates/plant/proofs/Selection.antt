-- The efficient offers: the sum of a year, and the efficient offer of each unit.
use Rattle.std.proofs.Common.{arith}
use Rattle.std.specs.List.{sum_by, zip}
use Rattle.std.proofs.lemmas.Slice.Zip.{get_or-zip, length-zip}
use mathlib.Core.Path.{◌≡◌, ap, ◌∙◌}
use mathlib.Core.List.{List}
use Prim.Native.Nat.{ℕ, ◌≤◌, ◌<◌}
use Rattle.std.proofs.lemmas.Bool.Decides.{nat_tests}
use lib.ListN.{length, get_or}
use Rattle.basis.specs.Sums.{sum_up}
use Rattle.basis.proofs.Sums.{sum_by_places, sum_up_same}
use Rattle.basis.proofs.Tables.{get_or-tab}
use Rattle.plant.specs.Efficient.{counted, year_sum, efficient_offer, efficient_offers}

-- a year's sum, over the pairs of a unit's flags and its offer
pub year_sum_of_pairs : (n year : ℕ) (flags offers : List ℕ) → length flags ≡ n → length offers ≡ n → sum_by (λ p. counted year p.0 p.1) (zip flags offers) ≡ year_sum n year flags offers
unfolding year_sum
year_sum_of_pairs n year flags offers h k =
    let pairs : List (ℕ × ℕ) = zip flags offers in
    let long : length pairs ≡ n = omega (arith, length-zip flags offers) in
    sum_by_places (λ p. counted year p.0 p.1) pairs (0, 0)
    ∙ ap (sum_up (λ i. counted year (get_or pairs i (0, 0)).0 (get_or pairs i (0, 0)).1)) long
    ∙ sum_up_same (λ i. counted year (get_or pairs i (0, 0)).0 (get_or pairs i (0, 0)).1) (λ i. counted year (get_or flags i 0) (get_or offers i 0)) n
    (λ i l. ap (λ (p : ℕ × ℕ). counted year p.0 p.1) (get_or-zip flags offers i (0, 0) (omega arith) (omega arith)))

pub efficient_at_most_offer : (year flags offer : ℕ) → efficient_offer year flags offer ≤ offer
efficient_at_most_offer year flags offer = grind (arith, nat_tests)

module _ (n year : ℕ) (flags offers : List ℕ) where
  -- the efficient offer of each unit
  pub efficient_of_unit : (i : ℕ) → i < n → get_or (efficient_offers n year flags offers) i 0 ≡ efficient_offer year (get_or flags i 0) (get_or offers i 0)
  unfolding efficient_offers
  efficient_of_unit i h = get_or-tab (λ k. efficient_offer year (get_or flags k 0) (get_or offers k 0)) n i 0 h
