-- "Numbered replies": the number of each refusal, and what an answer comes to.
use Rattle.std.specs.Prelude.{ℕ, Result, Ok, Err, eqb}
use Rattle.basis.specs.Choice.{pick}
use Rattle.quantities.specs.declared.refusals.Refusal.{Refusal}
use Rattle.quantities.specs.declared.refusals.Refusal.TheVariants.{OutOfRange, WrongStage, AlreadyEnrolled, NotEnrolled, ForeignComponent, CountAgainstTime, ImpossibleMinutes, NotDeclared, AboveOffers, AboveBalance, NoWeight, AboveGreatestPower, ShortBuffer, NoRealDemand, OutOfOrder, WideMark, AboveGreatestTotal}

-- the column Number of the table
abbrev pub refusal_number : Refusal → ℕ
refusal_number OutOfRange = 3
refusal_number WrongStage = 4
refusal_number AlreadyEnrolled = 5
refusal_number NotEnrolled = 6
refusal_number ForeignComponent = 7
refusal_number CountAgainstTime = 8
refusal_number ImpossibleMinutes = 9
refusal_number NotDeclared = 10
refusal_number AboveOffers = 11
refusal_number AboveBalance = 12
refusal_number NoWeight = 13
refusal_number AboveGreatestPower = 14
refusal_number ShortBuffer = 15
refusal_number NoRealDemand = 16
refusal_number OutOfOrder = 17
refusal_number WideMark = 18
refusal_number AboveGreatestTotal = 19

-- the number that an answer meets: "A call is accepted if it returned 0."
abbrev pub met : {A : Type 0} → Result A Refusal → ℕ
met (Ok x) = 0
met (Err refusal) = refusal_number refusal

-- what is decided of a call: a number refuses; without one something is stored
pub data Decided (A : Type 0) : Type 0 where
  Refused : ℕ → Decided A
  Stored : A → Decided A

abbrev pub decided_by : {A : Type 0} → ℕ → A → Decided A
decided_by n x = pick (eqb n 0) (Stored x) (Refused n)

-- what an answer decides
abbrev pub decided : {A : Type 0} → Result A Refusal → Decided A
decided (Ok x) = Stored x
decided (Err refusal) = Refused (refusal_number refusal)

-- how a text was put into a lent buffer: the number met, 0 if it was put, and the bytes of the text, 0 if it was not
pub record Filled : Type 0 where
  pub number : ℕ
  pub size : ℕ

abbrev pub filled_with : ℕ → ℕ → Filled
filled_with number size = record { number = number; size = size }

-- what an answer tells of it
abbrev pub filled : Result ℕ Refusal → Filled
filled (Ok size) = filled_with 0 size
filled (Err refusal) = filled_with (refusal_number refusal) 0
