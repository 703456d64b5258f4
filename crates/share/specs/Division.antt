-- Division by shares (document 01): a total T by weights, W being their sum.
use Rattle.std.specs.Prelude.{◌≡◌, List, map, ℕ, zero, suc, ◌+◌, ◌-◌, ◌*◌, ◌/◌, ◌%◌, ltb, eqb, length, get_or, set}
use Rattle.std.specs.List.{position_or_len}
use Rattle.basis.specs.Choice.{pick}
use Rattle.basis.specs.Sums.{sum, greatest, all_at_most}
use Rattle.basis.specs.Numbers.{written}
use Rattle.quantities.specs.Limits.{greatest_total, greatest_weight, most_weights}

-- "each gets T·weight / W", rounded down
unfoldable pub whole_parts : ℕ → ℕ → List ℕ → List ℕ
whole_parts T W weights = map (λ w. T * w / W) weights

-- what the rounding of each leaves
unfoldable pub remainders : ℕ → ℕ → List ℕ → List ℕ
remainders T W weights = map (λ w. T * w % W) weights

-- the first place at which x stands
unfoldable pub first_place_of : ℕ → List ℕ → ℕ
first_place_of x l = position_or_len (λ y. eqb y x) l

-- the place of the largest remainder, the lowest of several
unfoldable pub largest : List ℕ → ℕ
largest rest = first_place_of (greatest rest) rest

-- "the units left over go singly to the largest remainders, ties to the lower number": who has one is struck
unfoldable pub give : ℕ → List ℕ → List ℕ → List ℕ
give zero amounts rest = amounts
give (suc left) amounts rest =
    let k = largest rest in give left (set amounts k (get_or amounts k 0 + 1)) (set rest k 0)

-- the amounts of a division
unfoldable pub shares : ℕ → List ℕ → List ℕ
shares T weights =
    let W = sum weights in
    let parts = whole_parts T W weights in give (T - sum parts) parts (remainders T W weights)

-- numbers 3, 13, 15 in this order, else 0; room is for how many amounts there is room
unfoldable pub division_number : ℕ → List ℕ → ℕ → ℕ
division_number T weights room =
    pick (ltb greatest_total T) 3
    (pick (eqb (length weights) 0) 3
    (pick (ltb most_weights (length weights)) 3
    (pick (all_at_most greatest_weight weights)
    (pick (eqb (sum weights) 0) 13
    (pick (ltb room (length weights)) 15 0)) 3)))

-- the amounts over the front of a list where the division is accepted; else the list as it was
unfoldable pub divided : ℕ → List ℕ → List ℕ → List ℕ
divided T weights old = pick (eqb (division_number T weights (length old)) 0) (written old 0 (shares T weights)) old

-- what a division on numbers answers and leaves
pub record Divides (T : ℕ) (weights old : List ℕ) (number : ℕ) (new : List ℕ) : Type 0 where
  pub answer : number ≡ division_number T weights (length old)
  pub amounts : new ≡ divided T weights old
