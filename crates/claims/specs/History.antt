-- What the accepted calls of a list say, the last one first. No book stands here.
use Rattle.state.specs.declared.kept.Entry.{Entry}
use Rattle.power.specs.declared.quantity.Kw.{Kw}
use Rattle.std.specs.Prelude.{Bool, false, List, [], ◌∷◌, ℕ, ◌+◌, eqb, get_or, Option, None, Some, is_some}
use Rattle.std.specs.List.{find}
use Rattle.std.specs.Option.{option_or}
use Rattle.basis.specs.Choice.{pick}
use Rattle.power.specs.Power.{fresh, energy_of, measured_of, after_test}
use Rattle.plant.specs.Availability.{minutes}
use Rattle.power.specs.declared.component.Component.{Component}
use Rattle.power.specs.declared.component.Hours.{Hours}
use Rattle.table.specs.Records.{parts_of, CallName, is_named}
use Rattle.table.specs.Records as name
use Rattle.book.specs.Lists.{Event}
use Rattle.gathering.specs.Units.{entry_of, cap_of}

-- the call has this name of the table
abbrev pub is_a : CallName → Event → Bool
is_a n e = is_named n e.call

-- its field, counted from 0 in the table's order
abbrev pub field : ℕ → Event → ℕ
field i e = get_or (parts_of e.call).values i 0

-- of this name, with this first field; and with these two first fields
abbrev pub about : CallName → ℕ → Event → Bool
about n x e = pick (is_a n e) (eqb (field 0 e) x) false

abbrev pub about_pair : CallName → ℕ → ℕ → Event → Bool
about_pair n x y e = pick (about n x e) (eqb (field 1 e) y) false

-- the last accepted call of a kind, if any: the first one of the list that has the last one first
unfoldable pub last_that : (Event → Bool) → List Event → Option Event
last_that kind h = find kind h

-- a field of it, 0 without one
abbrev pub field_in : ℕ → Option Event → ℕ
field_in i None = 0
field_in i (Some e) = field i e

abbrev pub happened : Option Event → Bool
happened l = is_some l

-- the year is fixed, or closed, "when the list has an accepted fix, or close"
abbrev pub begun_in : List Event → Bool
begun_in h = happened (last_that (is_a name.Year) h)

abbrev pub fixed_in : List Event → Bool
fixed_in h = happened (last_that (is_a name.Fix) h)

abbrev pub closed_in : List Event → Bool
closed_in h = happened (last_that (is_a name.Close) h)

-- blank 0, gathering 1, firm 2, closed 3: "Year belongs to blank and leads to gathering; .. fix leads to firm; .. close leads to closed"
abbrev pub stage_by : Bool → Bool → Bool → ℕ
stage_by closed fixed begun = pick closed 3 (pick fixed 2 (pick begun 1 0))

abbrev pub stage_in : List Event → ℕ
stage_in h = stage_by (closed_in h) (fixed_in h) (begun_in h)

-- NHRM, NHMD, NDHMD of the year
abbrev pub hours_in : List Event → Hours
hours_in h =
    let y = last_that (is_a name.Year) h in record { nhrm = field_in 0 y; nhmd = field_in 1 y; ndhmd = field_in 2 y }

-- DMP: "that fix gives DMP"
abbrev pub dmp_in : List Event → ℕ
dmp_in h = field_in 0 (last_that (is_a name.Fix) h)

-- P of the close
abbrev pub price_in : List Event → ℕ
price_in h = field_in 0 (last_that (is_a name.Close) h)

-- "the D of the consumer's last accepted declare, 0 without one", and its A
abbrev pub declared_in : List Event → ℕ → Option Event
declared_in h c = last_that (about name.Declare c) h

-- the consumer's last accepted reading
abbrev pub metered_in : List Event → ℕ → Option Event
metered_in h c = last_that (about name.Meter c) h

-- the consumer's last accepted mean (document 02, A4)
abbrev pub mean_in : List Event → ℕ → Option Event
mean_in h c = last_that (about name.Mean c) h

-- Dreal: "[w]here it stands, [the mean] is used as Dreal, whether or not a reading exists", else the reading
abbrev pub real_in : List Event → ℕ → Option Event
real_in h c = option_or (mean_in h c) (metered_in h c)

-- "Commitments and releases are the sums of q over the pair's accepted calls."
unfoldable pub sum_over : CallName → ℕ → ℕ → List Event → ℕ
sum_over n p c [] = 0
sum_over n p c (e ∷ h) = pick (about_pair n p c e) (field 2 e) 0 + sum_over n p c h

abbrev pub commitments_in : List Event → ℕ → ℕ → ℕ
commitments_in h p c = sum_over name.Commit p c h

abbrev pub releases_in : List Event → ℕ → ℕ → ℕ
releases_in h p c = sum_over name.Release p c h

-- what a unit was enrolled with: "A producer's units are those of its accepted unit calls"
abbrev pub entry_by : Option Event → Option Entry
entry_by None = None
entry_by (Some e) =
    Some (entry_of (field 1 e) (field 2 e) (field 3 e) (field 4 e) (field 5 e) (field 6 e) (field 7 e) (field 8 e))

abbrev pub entry_in : List Event → ℕ → Option Entry
entry_in h u = entry_by (last_that (about name.Unit u) h)

-- a component after a test, by the rows of "Maximum power"; after an availability
abbrev pub after_one : Event → Option Kw → ℕ → ℕ → Component → Component
after_one e cap u k x =
    pick (about_pair name.Test u k e)
    (after_test cap (field 2 e) x
    (measured_of x.void_trip (field 2 e) (field 3 e) (field 4 e) (energy_of (field 4 e) e.readings)))
    (pick (about_pair name.Availability u k e)
    (record {
      result = x.result;
      void_trip = x.void_trip;
      availability = Some (minutes (field 2 e) (field 3 e) (field 4 e) (field 5 e));
    })
    x)

-- a unit's component after the accepted tests and availabilities
unfoldable pub component_in : List Event → ℕ → ℕ → Component
component_in [] u k = fresh
component_in (e ∷ h) u k = after_one e (cap_of (entry_in h u)) u k (component_in h u k)
