-- A call in words, as a line of a text journal has it: its name, its fields, the readings of a test, each behind a blank.
use Rattle.std.specs.Prelude.{List, [], ◌∷◌, ◌++◌, ℕ, ◌/◌, min, eqb, length, codes}
use Rattle.std.specs.List.{flat_map, zip}
use Rattle.basis.specs.Choice.{pick}
use Rattle.quantities.specs.Limits.{greatest_count}
use Rattle.power.specs.Ranges.{readings_of}
use Rattle.table.specs.declared.calls.Call.{Call}
use Rattle.table.specs.Records.{CallName, name_of, form_of, parts_of}
use Rattle.table.specs.Records.{Year, Unit, Test, Availability, Declare, Fix, Commit, Release, Meter, Close, Mean}
use Rattle.text.specs.Text.{decimal}

-- the column Call of the table of records
abbrev pub name_text : CallName → List ℕ
name_text Year = codes "year"
name_text Unit = codes "unit"
name_text Test = codes "test"
name_text Availability = codes "availability"
name_text Declare = codes "declare"
name_text Fix = codes "fix"
name_text Commit = codes "commit"
name_text Release = codes "release"
name_text Meter = codes "meter"
name_text Close = codes "close"
name_text Mean = codes "mean"

unfoldable pub call_name : Call → List ℕ
call_name c = name_text (name_of c)

-- a number behind a blank
unfoldable pub value_text : ℕ → List ℕ
value_text value = 32 ∷ decimal value

-- a field; nothing where its width is 0, since there is no such field
abbrev pub field_text : ℕ → ℕ → List ℕ
field_text width value = pick (eqb width 0) [] (value_text value)

-- the fields of a record with these widths and values
unfoldable pub fields_text : List ℕ → List ℕ → List ℕ
fields_text widths values = flat_map (λ f. field_text f.0 f.1) (zip widths values)

-- "then count readings of 4": at most as many as a test in range has
abbrev pub shown_readings : ℕ → ℕ
shown_readings size = min greatest_count (size / 4)

unfoldable pub readings_text : List ℕ → List ℕ
readings_text readings = flat_map value_text (readings_of (shown_readings (length readings)) readings)

-- the call with the readings of its record
unfoldable pub call_text : Call → List ℕ → List ℕ
call_text c readings =
    call_name c ++ (fields_text (form_of (parts_of c).mark).widths (parts_of c).values ++ readings_text readings)
