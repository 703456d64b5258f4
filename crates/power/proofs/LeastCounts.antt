-- The card's rule at each of its entries.
use mathlib.Core.Path.{◌≡◌, refl, sym}
use mathlib.Core.Bool.{Bool, true, false}
use mathlib.Core.List.{List}
use Prim.Native.Nat.{ℕ, ◌+◌, ◌-◌, ◌<◌}
use lib.ListN.{length, get_or}
use Rattle.basis.specs.Choice.{pick}
use Rattle.basis.specs.Tables.{every_from}
use Rattle.basis.proofs.Choice.{both_true}
use Rattle.basis.proofs.Entries.{every_at}
use Rattle.quantities.specs.Limits.{least_time}
use Rattle.power.specs.Power.{reaches}
use Rattle.power.specs.Card.{is_least}

-- what passes the test of an entry: the count reaches 80 % of TC, and the count below it does not
is_least_lem : (tc count : ℕ) → is_least tc count ≡ true → (reaches count tc ≡ true) × (reaches (count - 1) tc ≡ false)
is_least_lem tc count e =
    let b = both_true (reaches count tc) _ e in (b.0, fails (reaches (count - 1) tc) b.1)
  where
    fails : (t : Bool) → pick t false true ≡ true → t ≡ false
    fails true e = sym e
    fails false e = refl

-- a table that passes the test at all of its entries has the rule at each
pub entry_rule : (l : List ℕ) → every_from is_least least_time l ≡ true → (k : ℕ) → k < length l → (reaches (get_or l k 0) (least_time + k) ≡ true) × (reaches (get_or l k 0 - 1) (least_time + k) ≡ false)
entry_rule l e k h = is_least_lem (least_time + k) (get_or l k 0) (every_at is_least l least_time e k h)
