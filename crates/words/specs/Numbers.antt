-- The numbered replies in words.
use Rattle.std.specs.Prelude.{List, [], ◌∷◌, ◌++◌, ℕ, get_or, codes}
use Rattle.text.specs.Text.{decimal}

-- the table of "Numbered replies" in short words, from 0 on, and behind it the numbers of document 02
unfoldable pub meanings : List (List ℕ)
meanings =
    codes "accepted"
    ∷ codes "record cut short"
    ∷ codes "unknown mark"
    ∷ codes "field outside its range"
    ∷ codes "not in this stage"
    ∷ codes "unit already enrolled"
    ∷ codes "unit not enrolled"
    ∷ codes "component foreign to kind"
    ∷ codes "count of readings against the full time"
    ∷ codes "minutes that cannot be"
    ∷ codes "consumer not declared"
    ∷ codes "above the producer's efficient offers"
    ∷ codes "above the pair's balance"
    ∷ codes "weights sum to 0"
    ∷ codes "adjusted demand above 3,000,000 kW"
    ∷ codes "buffer too short"
    ∷ codes "consumer without a reading or a mean"
    ∷ codes "outage log out of order"
    ∷ codes "mark for consumers above 64"
    ∷ codes "charges above 6,000,000,000,000 cents"
    ∷ []

-- what a number means; nothing where there is no such number
unfoldable pub meaning : ℕ → List ℕ
meaning number = get_or meanings number []

-- a number, a blank, words, and a line feed
abbrev pub numbered : ℕ → List ℕ → List ℕ
numbered number words = decimal number ++ (32 ∷ (words ++ (10 ∷ [])))

-- a number and what it means
unfoldable pub said : ℕ → List ℕ
said number = numbered number (meaning number)

-- a place, a colon, and what is said of it
unfoldable pub at_place : ℕ → ℕ → List ℕ
at_place place number = decimal place ++ (codes ": " ++ said number)
