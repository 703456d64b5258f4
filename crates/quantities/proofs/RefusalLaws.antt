-- A refusal has a number, and what an answer meets tells what it decides.
use Rattle.std.specs.Prelude.{◌≡◌, ℕ, false, Err, eqb, refl}
use Rattle.basis.specs.Choice.{pick}
use Rattle.quantities.specs.declared.refusals.Refusal.{Refusal}
use Rattle.quantities.specs.declared.refusals.Refusal.TheVariants.{OutOfRange, WrongStage, AlreadyEnrolled, NotEnrolled, ForeignComponent, CountAgainstTime, ImpossibleMinutes, NotDeclared, AboveOffers, AboveBalance, NoWeight, AboveGreatestPower, ShortBuffer, NoRealDemand, OutOfOrder, WideMark, AboveGreatestTotal}
use Rattle.quantities.specs.Refusals.{refusal_number, decided_by, decided}

-- 0 is no refusal's number
pub refusing : (refusal : Refusal) → eqb (refusal_number refusal) 0 ≡ false
refusing OutOfRange = refl
refusing WrongStage = refl
refusing AlreadyEnrolled = refl
refusing NotEnrolled = refl
refusing ForeignComponent = refl
refusing CountAgainstTime = refl
refusing ImpossibleMinutes = refl
refusing NotDeclared = refl
refusing AboveOffers = refl
refusing AboveBalance = refl
refusing NoWeight = refl
refusing AboveGreatestPower = refl
refusing ShortBuffer = refl
refusing NoRealDemand = refl
refusing OutOfOrder = refl
refusing WideMark = refl
refusing AboveGreatestTotal = refl

-- a number that a refusal has decides by that refusal
pub refused_by : {A : Type 0} (refusal : Refusal) (n : ℕ) (stored : A) → refusal_number refusal ≡ n → decided (Err refusal) ≡ decided_by n stored
refused_by refusal n stored e = rw (← e, refusing refusal)

-- a chain of tests that ended in the refusal's number ended there whatever came behind
pub refused_before : (refusal : Refusal) (n rest : ℕ) → refusal_number refusal ≡ n → refusal_number refusal ≡ pick (eqb n 0) rest n
refused_before refusal n rest e = rw (← e, refusing refusal)
