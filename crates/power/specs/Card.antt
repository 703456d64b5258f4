-- The card that test engineers carry: "for each full time the smallest count that reaches 80 %" (02, A2).
use Rattle.std.specs.Prelude.{Bool, true, false, ◌≡◌, ℕ, ◌+◌, ◌-◌, ◌*◌, ◌/◌, ◌≤◌, leb}
use Rattle.basis.specs.Choice.{pick, between}
use Rattle.quantities.specs.Limits.{least_time, greatest_time}
use Rattle.power.specs.Power.{reaches}

-- 4·TC / 5 rounded up, 0 for a TC that the card does not have
abbrev pub least_count : ℕ → ℕ
least_count tc = pick (between least_time greatest_time tc) ((4 * tc + 4) / 5) 0

-- the rule of an entry: the count reaches 80 % of TC, and the count below it does not
abbrev pub is_least : ℕ → ℕ → Bool
is_least tc count = pick (reaches count tc) (pick (reaches (count - 1) tc) false true) false

-- what is promised of the card: a count reaches 80 % of TC exactly from the card's count on
abbrev pub CardDecides : Type 0
CardDecides = (tc count : ℕ) → least_time ≤ tc → tc ≤ greatest_time → reaches count tc ≡ leb (least_count tc) count
