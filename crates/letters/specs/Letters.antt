-- The lines of each letter ("Journal in, listing out"); "within a letter the numbers ascend".
use Rattle.state.specs.declared.kept.Entry.{Entry}
use Rattle.std.specs.Prelude.{Bool, true, false, List, [], ◌∷◌, ℕ, ◌+◌, eqb, get_or, Option, None, Some}
use Rattle.basis.specs.Choice.{pick}
use Rattle.basis.specs.Sums.{sum}
use Rattle.basis.specs.Tables.{tab}
use Rattle.quantities.specs.Limits.{units, producers, consumers}
use Rattle.state.specs.declared.kept.Unit.{Unit}
use Rattle.state.specs.declared.kept.Declaration.{Declaration}
use Rattle.state.specs.declared.kept.Declaration.TheVariants.{Undeclared, Declared}
use Rattle.state.specs.declared.kept.Consumer.{Consumer}
use Rattle.state.specs.State.{fresh_unit, fresh_consumer, row_of}
use Rattle.fix.specs.Fix.{producer_by}
use Rattle.text.specs.Text.{less, plain, line_of, joined}

-- "U: enrolled unit, offer, efficient offer."
unfoldable pub unit_line : ℕ → Option Entry → ℕ → ℕ → List ℕ
unit_line number None offer efficient = []
unit_line number (Some e) offer efficient = line_of 85 (plain number ∷ plain offer ∷ plain efficient ∷ [])

abbrev pub unit_line_at : List Unit → List ℕ → List ℕ → ℕ → List ℕ
unit_line_at us offers efficient i =
    unit_line (i + 1) (get_or us i fresh_unit).enrolment (get_or offers i 0) (get_or efficient i 0)

unfoldable pub unit_lines : List Unit → List ℕ → List ℕ → List ℕ
unit_lines us offers efficient = joined (unit_line_at us offers efficient) units

-- the producer of each unit, 0 of a unit that is not enrolled
abbrev pub owner_at : List Unit → ℕ → ℕ
owner_at us i = producer_by (get_or us i fresh_unit).enrolment

unfoldable pub owners_of : List Unit → List ℕ
owners_of us = tab (owner_at us) units

-- a producer with a unit
unfoldable pub owns : List ℕ → ℕ → Bool
owns [] producer = false
owns (owner ∷ owners) producer = pick (eqb owner producer) true (owns owners producer)

-- "P: producer with a unit, its efficient total, the sum of its balances."
unfoldable pub producer_line : ℕ → Bool → ℕ → ℕ → List ℕ
producer_line number true limit balance = line_of 80 (plain number ∷ plain limit ∷ plain balance ∷ [])
producer_line number false limit balance = []

abbrev pub producer_line_at : List ℕ → List ℕ → List ℕ → ℕ → List ℕ
producer_line_at owners limits balances i =
    producer_line (i + 1) (owns owners (i + 1)) (get_or limits i 0) (sum (row_of balances (i + 1)))

unfoldable pub producer_lines : List ℕ → List ℕ → List ℕ → List ℕ
producer_lines owners limits balances = joined (producer_line_at owners limits balances) producers

-- "D: declared consumer, firm demand."
unfoldable pub demand_line : ℕ → Declaration → List ℕ
demand_line number Undeclared = []
demand_line number (Declared f) = line_of 68 (plain number ∷ plain f.df ∷ [])

abbrev pub demand_line_at : List Consumer → ℕ → List ℕ
demand_line_at xs i = demand_line (i + 1) (get_or xs i fresh_consumer).declaration

unfoldable pub demand_lines : List Consumer → List ℕ
demand_lines xs = joined (demand_line_at xs) consumers

-- "S: declared consumer, ADF, cents (charge negative, credit positive, else 0)."; ADF is DF less DFA
unfoldable pub settlement_line : ℕ → Declaration → ℕ → ℕ → ℕ → List ℕ
settlement_line number Undeclared adjusted charge credit = []
settlement_line number (Declared f) adjusted charge credit =
    line_of 83 (plain number ∷ less f.df adjusted ∷ less credit charge ∷ [])

abbrev pub settlement_line_at : List Consumer → List ℕ → List ℕ → List ℕ → ℕ → List ℕ
settlement_line_at xs adjusted charges credits i =
    settlement_line (i + 1) (get_or xs i fresh_consumer).declaration (get_or adjusted i 0) (get_or charges i 0) (get_or credits i 0)

unfoldable pub settlement_lines : List Consumer → List ℕ → List ℕ → List ℕ → List ℕ
settlement_lines xs adjusted charges credits = joined (settlement_line_at xs adjusted charges credits) consumers
