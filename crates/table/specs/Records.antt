-- The table of "Journal records", and behind it the records of document 02: the mark of each record, the width and range of each of its fields, the call that it is, and the calls' names.
use Rattle.std.specs.Prelude.{Bool, true, false, List, [], ◌∷◌, ◌++◌, map, ℕ, suc, ◌+◌, ◌-◌, ◌*◌, eqb, leb, length, get_or, replicate, Option}
use Rattle.std.specs.List.{find}
use Rattle.basis.specs.Choice.{pick, between}
use Rattle.basis.specs.Sums.{sum}
use Rattle.quantities.specs.Limits.{units, producers, consumers, byte_consumers, greatest_power, greatest_energy, greatest_minutes, greatest_hours, greatest_day_hours, greatest_kind, greatest_component, greatest_ending, least_time, greatest_time, greatest_count, greatest_price}
use Rattle.quantities.specs.Flags.{all_flags}
use Rattle.table.specs.declared.forms.Form.{Form}
use Rattle.table.specs.declared.forms.ConsumerField.{ConsumerField}
use Rattle.table.specs.declared.forms.ConsumerField.TheVariants.{Narrow, Wide}
use Rattle.table.specs.declared.forms.Mark.{Mark}
use Rattle.table.specs.declared.forms.Mark.TheVariants as mark
use Rattle.table.specs.declared.parts.Parts.{Parts}
use Rattle.table.specs.declared.columns.Column.{Column}
use Rattle.table.specs.declared.lines.Line.{Line}
use Rattle.table.specs.declared.units.UnitCall.TheVariants as unit-call
use Rattle.table.specs.declared.consumers.ConsumerCall.TheVariants as consumer-call
use Rattle.table.specs.declared.contracts.ContractCall.TheVariants as contract-call
use Rattle.table.specs.declared.calls.Call.{Call}
use Rattle.table.specs.declared.calls.Call.TheVariants as call

-- the most fields that a record has, and the most bytes of a field or of a reading
abbrev pub most_fields : ℕ
most_fields = 9

abbrev pub widest : ℕ
widest = 4

-- a field's column of the table: its width in bytes, its least and its greatest value
abbrev pub column : ℕ → ℕ → ℕ → Column
column w l g = record { width = w; least = l; greatest = g }

-- no field
abbrev pub no_column : Column
no_column = column 0 0 0

-- a line with these bytes for its mark, and columns up to the most that a record has: those without a field are 0
abbrev pub line : ℕ → ℕ → List Column → ℕ → Line
line first second columns reading =
    record {
      mark = first + 256 * second;
      columns = columns ++ replicate (most_fields - length columns) no_column;
      reading = reading;
    }

-- a consumer's field: of one byte up to 64, of two bytes for "[c]onsumers above 64", which "takes 65 to 300 only, so each call has one record form" (document 02, A7)
abbrev pub consumer_column : ConsumerField → Column
consumer_column Narrow = column 1 1 byte_consumers
consumer_column Wide = column 2 (suc byte_consumers) consumers

-- a byte of a mark, and the one in its place for consumers above 64
abbrev pub by_field : ConsumerField → ℕ → ℕ → ℕ
by_field Narrow byte above = byte
by_field Wide byte above = above

-- the table, line by line
unfoldable pub table_of : Mark → Line
-- year: NHRM, NHMD, NDHMD
table_of mark.Year = line 0x59 0x52 (column 2 1 greatest_hours ∷ column 2 1 greatest_hours ∷ column 1 1 greatest_day_hours ∷ []) 0
-- unit: unit, producer, kind, flags, PIC, PPR, E1, E2, CAP
table_of mark.Enrol =
    line 0x55 0x4E
    (column 1 1 units
    ∷ column 1 1 producers
    ∷ column 1 1 greatest_kind
    ∷ column 1 0 all_flags
    ∷ column 4 0 greatest_power
    ∷ column 4 0 greatest_power
    ∷ column 4 0 greatest_energy
    ∷ column 4 0 greatest_energy
    ∷ column 4 0 greatest_energy
    ∷ []) 0
-- test: unit, component, ending, TC, count, "then count readings of 4"
table_of mark.Test =
    line 0x54 0x53
    (column 1 1 units ∷ column 1 0 greatest_component ∷ column 1 0 greatest_ending ∷ column 1 least_time greatest_time ∷ column 1 0 greatest_count ∷ []) 4
-- availability: unit, component, HD, HMP, HIF, HED
table_of mark.Availability =
    line 0x41 0x56
    (column 1 1 units
    ∷ column 1 0 greatest_component
    ∷ column 4 0 greatest_minutes
    ∷ column 4 0 greatest_minutes
    ∷ column 4 0 greatest_minutes
    ∷ column 4 0 greatest_minutes
    ∷ []) 0
-- declare: consumer, D, A
table_of (mark.Declare f) =
    line (by_field f 0x44 0x64) (by_field f 0x4D 0x6D) (consumer_column f ∷ column 4 0 greatest_power ∷ column 4 0 greatest_power ∷ []) 0
-- fix: DMP
table_of mark.Fix = line 0x46 0x58 (column 4 1 greatest_power ∷ []) 0
-- commit: producer, consumer, q
table_of (mark.Commit f) =
    line (by_field f 0x43 0x63) (by_field f 0x4D 0x6D) (column 1 1 producers ∷ consumer_column f ∷ column 4 1 greatest_power ∷ []) 0
-- release: as commit
table_of (mark.Release f) =
    line (by_field f 0x52 0x72) (by_field f 0x4C 0x6C) (column 1 1 producers ∷ consumer_column f ∷ column 4 1 greatest_power ∷ []) 0
-- meter: consumer, Dreal
table_of (mark.Meter f) =
    line (by_field f 0x4D 0x6D) (by_field f 0x54 0x74) (consumer_column f ∷ column 4 0 greatest_power ∷ []) 0
-- close: P
table_of mark.Close = line 0x43 0x4C (column 2 1 greatest_price ∷ []) 0
-- mean (document 02, A4): consumer, mean
table_of (mark.Mean f) =
    line (by_field f 0x41 0x61) (by_field f 0x54 0x74) (consumer_column f ∷ column 4 0 greatest_power ∷ []) 0

-- the records that there are
abbrev pub marks : List Mark
marks =
    mark.Year
    ∷ mark.Enrol
    ∷ mark.Test
    ∷ mark.Availability
    ∷ mark.Declare Narrow
    ∷ mark.Fix
    ∷ mark.Commit Narrow
    ∷ mark.Release Narrow
    ∷ mark.Meter Narrow
    ∷ mark.Close
    ∷ mark.Mean Narrow
    ∷ mark.Declare Wide
    ∷ mark.Commit Wide
    ∷ mark.Release Wide
    ∷ mark.Meter Wide
    ∷ mark.Mean Wide
    ∷ []

-- the mark is one for consumers above 64
abbrev pub is_wide_field : ConsumerField → Bool
is_wide_field Narrow = false
is_wide_field Wide = true

abbrev pub is_wide : Mark → Bool
is_wide mark.Year = false
is_wide mark.Enrol = false
is_wide mark.Test = false
is_wide mark.Availability = false
is_wide (mark.Declare f) = is_wide_field f
is_wide mark.Fix = false
is_wide (mark.Commit f) = is_wide_field f
is_wide (mark.Release f) = is_wide_field f
is_wide (mark.Meter f) = is_wide_field f
is_wide mark.Close = false
is_wide (mark.Mean f) = is_wide_field f

-- the widths of columns
abbrev pub widths_of : List Column → List ℕ
widths_of columns = map (λ (f : Column). f.width) columns

-- a record's form: its mark, the bytes of mark and fields, and the widths of the fields
unfoldable pub form_of : Mark → Form
form_of m =
    record {
      mark = (table_of m).mark;
      size = 2 + sum (widths_of (table_of m).columns);
      widths = widths_of (table_of m).columns;
    }

-- the record that a mark names: the first with that mark
unfoldable pub mark_at : ℕ → Option Mark
mark_at x = find (λ m. eqb (table_of m).mark x) marks

-- places without a field
abbrev pub zeros : ℕ → List ℕ
zeros n = replicate n 0

-- a call's record, and the values of its fields
abbrev pub parts : Mark → List ℕ → Parts
parts m vs = record { mark = m; values = vs }

-- the field that a consumer's record has
abbrev pub consumer_field : ℕ → ConsumerField
consumer_field consumer = pick (leb consumer byte_consumers) Narrow Wide

-- the mark follows from the call's own fields
unfoldable pub parts_of : Call → Parts
parts_of (call.Year h) = parts mark.Year (h.nhrm ∷ h.nhmd ∷ h.ndhmd ∷ zeros 6)
parts_of (call.Unit unit (unit-call.Enrol e)) =
    parts mark.Enrol (unit ∷ e.producer ∷ e.kind ∷ e.flags ∷ e.pic ∷ e.ppr ∷ e.e1 ∷ e.e2 ∷ e.cap ∷ [])
parts_of (call.Unit unit (unit-call.Test component t)) =
    parts mark.Test (unit ∷ component ∷ t.ending ∷ t.tc ∷ t.count ∷ zeros 4)
parts_of (call.Unit unit (unit-call.Availability component m)) =
    parts mark.Availability (unit ∷ component ∷ m.hd ∷ m.hmp ∷ m.hif ∷ m.hed ∷ zeros 3)
parts_of (call.Consumer consumer (consumer-call.Declare d a)) = parts (mark.Declare (consumer_field consumer)) (consumer ∷ d ∷ a ∷ zeros 6)
parts_of (call.Fix dmp) = parts mark.Fix (dmp ∷ zeros 8)
parts_of (call.Contract producer consumer (contract-call.Commit q)) =
    parts (mark.Commit (consumer_field consumer)) (producer ∷ consumer ∷ q ∷ zeros 6)
parts_of (call.Contract producer consumer (contract-call.Release q)) =
    parts (mark.Release (consumer_field consumer)) (producer ∷ consumer ∷ q ∷ zeros 6)
parts_of (call.Consumer consumer (consumer-call.Meter dreal)) = parts (mark.Meter (consumer_field consumer)) (consumer ∷ dreal ∷ zeros 7)
parts_of (call.Close p) = parts mark.Close (p ∷ zeros 8)
parts_of (call.Consumer consumer (consumer-call.Mean mean)) = parts (mark.Mean (consumer_field consumer)) (consumer ∷ mean ∷ zeros 7)

-- the consumer that a field names: where the number is out of the field's range 0, which is in no record's range
abbrev pub consumer_named : ConsumerField → ℕ → ℕ
consumer_named f number = pick (between (consumer_column f).least (consumer_column f).greatest number) number 0

-- the call of a record with these values; with values out of the record's range, a call out of range
unfoldable pub call_of : Mark → List ℕ → Call
call_of mark.Year v = call.Year (record { nhrm = get_or v 0 0; nhmd = get_or v 1 0; ndhmd = get_or v 2 0 })
call_of mark.Enrol v =
    call.Unit (get_or v 0 0)
    (unit-call.Enrol
    (record {
      producer = get_or v 1 0;
      kind = get_or v 2 0;
      flags = get_or v 3 0;
      pic = get_or v 4 0;
      ppr = get_or v 5 0;
      e1 = get_or v 6 0;
      e2 = get_or v 7 0;
      cap = get_or v 8 0;
    }))
call_of mark.Test v =
    call.Unit (get_or v 0 0) (unit-call.Test (get_or v 1 0) (record { ending = get_or v 2 0; tc = get_or v 3 0; count = get_or v 4 0 }))
call_of mark.Availability v =
    call.Unit (get_or v 0 0) (unit-call.Availability (get_or v 1 0)
    (record { hd = get_or v 2 0; hmp = get_or v 3 0; hif = get_or v 4 0; hed = get_or v 5 0 }))
call_of (mark.Declare f) v = call.Consumer (consumer_named f (get_or v 0 0)) (consumer-call.Declare (get_or v 1 0) (get_or v 2 0))
call_of mark.Fix v = call.Fix (get_or v 0 0)
call_of (mark.Commit f) v = call.Contract (get_or v 0 0) (consumer_named f (get_or v 1 0)) (contract-call.Commit (get_or v 2 0))
call_of (mark.Release f) v = call.Contract (get_or v 0 0) (consumer_named f (get_or v 1 0)) (contract-call.Release (get_or v 2 0))
call_of (mark.Meter f) v = call.Consumer (consumer_named f (get_or v 0 0)) (consumer-call.Meter (get_or v 1 0))
call_of mark.Close v = call.Close (get_or v 0 0)
call_of (mark.Mean f) v = call.Consumer (consumer_named f (get_or v 0 0)) (consumer-call.Mean (get_or v 1 0))

-- the place of the count of readings among the fields
abbrev pub count_place : ℕ
count_place = 4

-- the bytes of a call's readings: so many as its record says for each of the count; only a test has some
unfoldable pub readings_size : Call → ℕ
readings_size c = (table_of (parts_of c).mark).reading * get_or (parts_of c).values count_place 0

-- the bytes of a call's mark and fields
abbrev pub fields_size : Call → ℕ
fields_size c = (form_of (parts_of c).mark).size

-- the bytes of a call's record
abbrev pub record_size : Call → ℕ
record_size c = fields_size c + readings_size c

-- the calls by name, as the column Call of the table has them: one name may have records of several marks
pub data CallName : Type 0 where
  Year : CallName
  Unit : CallName
  Test : CallName
  Availability : CallName
  Declare : CallName
  Fix : CallName
  Commit : CallName
  Release : CallName
  Meter : CallName
  Close : CallName
  Mean : CallName

-- the name of a call
abbrev pub name_of : Call → CallName
name_of (call.Year h) = Year
name_of (call.Unit unit (unit-call.Enrol e)) = Unit
name_of (call.Unit unit (unit-call.Test component t)) = Test
name_of (call.Unit unit (unit-call.Availability component m)) = Availability
name_of (call.Consumer consumer (consumer-call.Declare d a)) = Declare
name_of (call.Fix dmp) = Fix
name_of (call.Contract producer consumer (contract-call.Commit q)) = Commit
name_of (call.Contract producer consumer (contract-call.Release q)) = Release
name_of (call.Consumer consumer (consumer-call.Meter dreal)) = Meter
name_of (call.Close p) = Close
name_of (call.Consumer consumer (consumer-call.Mean mean)) = Mean

-- a number for each name, by which names are told apart
abbrev pub name_number : CallName → ℕ
name_number Year = 0
name_number Unit = 1
name_number Test = 2
name_number Availability = 3
name_number Declare = 4
name_number Fix = 5
name_number Commit = 6
name_number Release = 7
name_number Meter = 8
name_number Close = 9
name_number Mean = 10

-- the call has the name
abbrev pub is_named : CallName → Call → Bool
is_named n c = eqb (name_number (name_of c)) (name_number n)
