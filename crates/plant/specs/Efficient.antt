-- The efficient offer ("Efficient offer", 2.2.1 c, 2.2.2).
use Rattle.std.specs.Prelude.{true, List, ℕ, leb, get_or}
use Rattle.basis.specs.Choice.{pick}
use Rattle.basis.specs.Sums.{sum_up}
use Rattle.basis.specs.Tables.{tab}
use Rattle.quantities.specs.Flags.{flagged, first_year, second_year, forced_generation}
use Rattle.plant.specs.declared.efficient.Efficient.{Efficient}

-- what a unit adds to a year's sum: its offer, if used in that year, whose flag is its number
abbrev pub counted : ℕ → ℕ → ℕ → ℕ
counted year flags offer = pick (flagged year flags) offer 0

-- the sum of the offers of the units used in a year
unfoldable pub year_sum : ℕ → ℕ → List ℕ → List ℕ → ℕ
year_sum n year flags offers = sum_up (λ i. counted year (get_or flags i 0) (get_or offers i 0)) n

-- the year of the greater sum, of a tie the first
abbrev pub chosen_year : ℕ → List ℕ → List ℕ → ℕ
chosen_year n flags offers = pick (leb (year_sum n second_year flags offers) (year_sum n first_year flags offers)) first_year second_year

-- its offer, if used in that year or flagged 4, else 0
abbrev pub efficient_offer : ℕ → ℕ → ℕ → ℕ
efficient_offer year flags offer = pick (pick (flagged year flags) true (flagged forced_generation flags)) offer 0

-- the efficient offers of n units, once the year is chosen
unfoldable pub efficient_offers : ℕ → ℕ → List ℕ → List ℕ → List ℕ
efficient_offers n year flags offers = tab (λ i. efficient_offer year (get_or flags i 0) (get_or offers i 0)) n

-- the year chosen and the efficient offers of n units
abbrev pub efficient_of : ℕ → List ℕ → List ℕ → Efficient
efficient_of n flags offers =
    record {
      year = chosen_year n flags offers;
      offers = efficient_offers n (chosen_year n flags offers) flags offers;
    }
