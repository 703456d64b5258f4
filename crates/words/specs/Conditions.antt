-- When a number is met: the column When of document 01's table "Numbered replies", where 10 names the mean too, and behind it the numbers of
-- document 02.
use Rattle.std.specs.Prelude.{List, [], ◌∷◌, ℕ, get_or, codes}
use Rattle.words.specs.Numbers.{numbered}

-- from 1 on, behind an empty row for 0, which the table does not have
unfoldable pub conditions : List (List ℕ)
conditions =
    []
    ∷ codes "record cut short"
    ∷ codes "unknown mark"
    ∷ codes "field outside its range; a division's T, weights or their number"
    ∷ codes "stage"
    ∷ codes "unit already enrolled"
    ∷ codes "unit not enrolled"
    ∷ codes "component foreign to kind"
    ∷ codes "ending 0 with count not TC; ending 1 or 2 with count TC or more"
    ∷ codes "HD + HIF + HMP is 0 or above 1,052,640, or HED > HD + HMP"
    ∷ codes "consumer not declared (commit, release, meter, mean)"
    ∷ codes "producer's balances + q exceed its units' efficient offers"
    ∷ codes "q above the pair's balance"
    ∷ codes "weights sum to 0"
    ∷ codes "a DFA above 3,000,000"
    ∷ codes "output buffer shorter than the record, or than a division's amounts"
    ∷ codes "close while a declared consumer has neither a reading nor a mean"
    ∷ codes "a window or an entry whose end is not after its start, a window too long, or an entry out of order"
    ∷ codes "a mark for consumers above 64"
    ∷ codes "charges above 6,000,000,000,000 cents"
    ∷ []

-- when a number is met; nothing where the table has no such number
unfoldable pub condition : ℕ → List ℕ
condition number = get_or conditions number []

-- a number and when it is met
unfoldable pub condition_line : ℕ → List ℕ
condition_line number = numbered number (condition number)
