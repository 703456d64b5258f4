-- Writing: the number of the call, then number 15, and only the record's bytes ("Journal records", "Numbered replies").
use Rattle.std.specs.Prelude.{List, ◌++◌, ℕ, eqb, ltb, length, take}
use Rattle.basis.specs.Choice.{pick}
use Rattle.basis.specs.Numbers.{bytes_of, written}
use Rattle.table.specs.Records.{parts_of, readings_size, record_size, form_of}
use Rattle.table.specs.Fields.{encode}
use Rattle.table.specs.Ranges.{call_number}
use Rattle.table.specs.declared.calls.Call.{Call}

-- the readings that a call's record carries: of those lent, as many bytes as the call says
abbrev pub carried : Call → List ℕ → List ℕ
carried c readings = take (readings_size c) readings

-- a record: the mark, the fields, the readings
unfoldable pub record_of : Call → List ℕ → List ℕ
record_of c readings =
    bytes_of 2 (form_of (parts_of c).mark).mark
    ++ (encode (form_of (parts_of c).mark).widths (parts_of c).values ++ carried c readings)

-- the number of writing to a buffer of n bytes
unfoldable pub write_number : Call → List ℕ → ℕ → ℕ
write_number c readings n =
    pick (eqb (call_number c readings) 0) (pick (ltb n (record_size c)) 15 0) (call_number c readings)

-- the buffer afterwards
unfoldable pub written_by : Call → List ℕ → List ℕ → List ℕ
written_by c readings out =
    pick (eqb (write_number c readings (length out)) 0) (written out 0 (record_of c readings)) out
