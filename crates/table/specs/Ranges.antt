-- Number 3: the ranges of a call's fields, and of the readings lent with a test ("Journal records", "Numbered replies").
use Rattle.std.specs.Prelude.{Bool, true, false, not, List, ◌∷◌, ℕ, eqb, drop}
use Rattle.basis.specs.Choice.{pick, between}
use Rattle.quantities.specs.Limits.{producers, consumers}
use Rattle.quantities.specs.Flags.{injection_given, report_held, flagged}
use Rattle.power.specs.Ranges.{test_in_range}
use Rattle.table.specs.Records.{column, table_of, parts_of, form_of}
use Rattle.table.specs.Fields.{within_all}
use Rattle.table.specs.declared.calls.Call.{Call}
use Rattle.table.specs.declared.calls.Call.TheVariants.{Year, Fix, Close, Unit, Consumer, Contract}
use Rattle.table.specs.declared.units.Enrolling.{Enrolling}
use Rattle.table.specs.declared.units.UnitCall.{UnitCall}
use Rattle.table.specs.declared.units.UnitCall.TheVariants.{Enrol, Test, Availability}
use Rattle.table.specs.declared.columns.Column.{Column}
use Rattle.table.specs.declared.forms.Mark.{Mark}
use Rattle.table.specs.declared.forms.Mark.TheVariants as mark
use Rattle.table.specs.declared.forms.Fields.{Fields}
use Rattle.table.specs.declared.forms.Uses.{Uses}

-- flag 16 serves kinds 1 and 2, PPR kind 2, E1 kinds 3 to 8, E2 and CAP kind 8
unfoldable pub uses_of : ℕ → Uses
uses_of kind =
    record {
      report = between 1 2 kind;
      ppr = eqb kind 2;
      e1 = between 3 8 kind;
      e2 = eqb kind 8;
      cap = eqb kind 8;
    }

-- a flag that is not used does not stand
abbrev pub unset_unless : Bool → Bool → Bool
unset_unless used stands = pick used true (not stands)

-- a field that is not used is 0
abbrev pub zero_unless : Bool → ℕ → Bool
zero_unless used x = pick used true (eqb x 0)

-- the flags and fields of a unit that its kind and flags do not use are 0: PIC is used where it is given
unfoldable pub unused_zero : Uses → Enrolling → Bool
unused_zero used e =
    pick (unset_unless used.report (flagged report_held e.flags))
    (pick (zero_unless (flagged injection_given e.flags) e.pic)
    (pick (zero_unless used.ppr e.ppr)
    (pick (zero_unless used.e1 e.e1)
    (pick (zero_unless used.e2 e.e2) (zero_unless used.cap e.cap) false)
    false)
    false)
    false)
    false

-- what the ranges of a unit's single fields leave
abbrev pub unit_in_range : UnitCall → List ℕ → Bool
unit_in_range (Enrol e) readings = unused_zero (uses_of e.kind) e
unit_in_range (Test component t) readings = test_in_range t.ending t.tc t.count readings
unit_in_range (Availability component m) readings = true

-- what the ranges of single fields leave; what is lent with a call other than a test is ignored
unfoldable pub rest_in_range : Call → List ℕ → Bool
rest_in_range (Year h) readings = true
rest_in_range (Fix dmp) readings = true
rest_in_range (Close p) readings = true
rest_in_range (Unit unit act) readings = unit_in_range act readings
rest_in_range (Consumer consumer act) readings = true
rest_in_range (Contract producer consumer act) readings = true

-- each field of the call stands in its range of the table
abbrev pub fields_in_range : Call → Bool
fields_in_range c = within_all (table_of (parts_of c).mark).columns (parts_of c).values

-- 3 where a field of the call is out of range, else 0
unfoldable pub fields_number : Call → ℕ
fields_number c = pick (fields_in_range c) 0 3

-- 3 where a field of the call, or what is lent with a test, is out of range, else 0
unfoldable pub call_number : Call → List ℕ → ℕ
call_number c readings = pick (eqb (fields_number c) 0) (pick (rest_in_range c readings) 0 3) (fields_number c)

-- a call's fields as its record has them: the form and the values
unfoldable pub fields_of : Call → Fields
fields_of c = record { form = form_of (parts_of c).mark; values = (parts_of c).values }

-- a step of the program: the columns in which a call's fields are tested, with one for the consumer of either record
abbrev pub either_consumer : Column
either_consumer = column 2 1 consumers

unfoldable pub call_columns : Mark → List Column
call_columns mark.Year = (table_of mark.Year).columns
call_columns mark.Enrol = (table_of mark.Enrol).columns
call_columns mark.Test = (table_of mark.Test).columns
call_columns mark.Availability = (table_of mark.Availability).columns
call_columns (mark.Declare f) = either_consumer ∷ drop 1 (table_of (mark.Declare f)).columns
call_columns mark.Fix = (table_of mark.Fix).columns
call_columns (mark.Commit f) = column 1 1 producers ∷ either_consumer ∷ drop 2 (table_of (mark.Commit f)).columns
call_columns (mark.Release f) = column 1 1 producers ∷ either_consumer ∷ drop 2 (table_of (mark.Release f)).columns
call_columns (mark.Meter f) = either_consumer ∷ drop 1 (table_of (mark.Meter f)).columns
call_columns mark.Close = (table_of mark.Close).columns
call_columns (mark.Mean f) = either_consumer ∷ drop 1 (table_of (mark.Mean f)).columns
