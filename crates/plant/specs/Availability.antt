-- The coefficient of availability ("Availability", annex 2.1).
use Rattle.std.specs.Prelude.{Bool, false, ℕ, ◌+◌, ◌-◌, ◌*◌, ◌/◌, leb, eqb, Option, None, Some}
use Rattle.basis.specs.Choice.{pick}
use Rattle.power.specs.declared.quantity.Watts.{Watts}
use Rattle.power.specs.declared.component.Minutes.{Minutes}
use Rattle.power.specs.declared.component.Component.{Component}
use Rattle.power.specs.Quantity.{watts}
use Rattle.power.specs.Power.{Answer, answer_of}
use Rattle.quantities.specs.Limits.{greatest_minutes}
use Rattle.power.specs.Ranges.{minutes_in_range}

abbrev pub minutes : ℕ → ℕ → ℕ → ℕ → Minutes
minutes hd hmp hif hed = record { hd = hd; hmp = hmp; hif = hif; hed = hed }

-- c is ready over whole: HD + HMP - HED
abbrev pub ready_minutes : Minutes → ℕ
ready_minutes m = m.hd + m.hmp - m.hed

-- HD + HIF + HMP
abbrev pub whole_minutes : Minutes → ℕ
whole_minutes m = m.hd + m.hif + m.hmp

-- HD + HIF + HMP is neither 0 nor above 1,052,640, and HED is at most HD + HMP (else number 9)
abbrev pub minutes_fit : Minutes → Bool
minutes_fit m =
    pick (eqb (whole_minutes m) 0) false
    (pick (leb (whole_minutes m) greatest_minutes) (leb m.hed (m.hd + m.hmp)) false)

-- 3, then 9, else 0
abbrev pub availability_number : Minutes → ℕ
availability_number m = pick (minutes_in_range m.hd m.hmp m.hif m.hed) (pick (minutes_fit m) 0 9) 3

-- an availability of a component
unfoldable pub availability_of : Component → Minutes → Answer
availability_of x m =
    answer_of (availability_number m) x
    (record { result = x.result; void_trip = x.void_trip; availability = Some m })

-- an availability is held; minutes that are refused are none
abbrev pub held : Option Minutes → Bool
held None = false
held (Some m) = eqb (availability_number m) 0

-- power times c, one product and one division in watts; 0 without an availability
unfoldable pub times_c : Watts → Option Minutes → Watts
times_c power None = watts 0
times_c power (Some m) = watts (pick (held (Some m)) (power.0 * ready_minutes m / whole_minutes m) 0)
