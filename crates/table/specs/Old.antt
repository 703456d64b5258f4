-- The table as it was for 64 consumers, before document 02's A7, and what its calls are now.
use Rattle.std.specs.Prelude.{◌≡◌, Bool, not, List, ℕ, eqb, get_or, Option}
use Rattle.std.specs.List.{find, filter}
use Rattle.basis.specs.Choice.{pick}
use Rattle.table.specs.Records.{marks, is_wide, table_of, parts_of, call_of, consumer_named}
use Rattle.table.specs.Fields.{within_all}
use Rattle.table.specs.Ranges.{rest_in_range, call_number}
use Rattle.table.specs.declared.forms.ConsumerField.TheVariants.{Narrow}
use Rattle.table.specs.declared.forms.Mark.{Mark}
use Rattle.table.specs.declared.forms.Mark.TheVariants as mark
use Rattle.table.specs.declared.calls.Call.{Call}
use Rattle.table.specs.declared.calls.Call.TheVariants.{Year, Fix, Close, Unit, Consumer, Contract}

-- the records that there were
abbrev pub old_marks : List Mark
old_marks = filter (λ m. not (is_wide m)) marks

unfoldable pub old_mark_at : ℕ → Option Mark
old_mark_at x = find (λ m. eqb (table_of m).mark x) old_marks

-- the record that a call had, whatever its consumer
abbrev pub old_mark : Mark → Mark
old_mark mark.Year = mark.Year
old_mark mark.Enrol = mark.Enrol
old_mark mark.Test = mark.Test
old_mark mark.Availability = mark.Availability
old_mark (mark.Declare f) = mark.Declare Narrow
old_mark mark.Fix = mark.Fix
old_mark (mark.Commit f) = mark.Commit Narrow
old_mark (mark.Release f) = mark.Release Narrow
old_mark (mark.Meter f) = mark.Meter Narrow
old_mark mark.Close = mark.Close
old_mark (mark.Mean f) = mark.Mean Narrow

-- the call of a record with these values: its consumer was the number in the field, in range or not
abbrev pub as_numbered : List ℕ → Call → Call
as_numbered v (Year h) = Year h
as_numbered v (Fix dmp) = Fix dmp
as_numbered v (Close p) = Close p
as_numbered v (Unit unit act) = Unit unit act
as_numbered v (Consumer consumer act) = Consumer (get_or v 0 0) act
as_numbered v (Contract producer consumer act) = Contract producer (get_or v 1 0) act

abbrev pub old_call_of : Mark → List ℕ → Call
old_call_of m v = as_numbered v (call_of m v)

-- 3 where a field, or what is lent with a test, was out of its range, else 0
abbrev pub old_fields_in_range : Call → Bool
old_fields_in_range c = within_all (table_of (old_mark (parts_of c).mark)).columns (parts_of c).values

unfoldable pub old_call_number : Call → List ℕ → ℕ
old_call_number c readings = pick (old_fields_in_range c) (pick (rest_in_range c readings) 0 3) 3

-- what such a call is now: a consumer out of the range of one byte is 0, who is in no record's range
abbrev pub renewed : Call → Call
renewed (Year h) = Year h
renewed (Fix dmp) = Fix dmp
renewed (Close p) = Close p
renewed (Unit unit act) = Unit unit act
renewed (Consumer consumer act) = Consumer (consumer_named Narrow consumer) act
renewed (Contract producer consumer act) = Contract producer (consumer_named Narrow consumer) act

-- such a call meets 3 as it did, and in range it is the call that it was
pub record MeetsAsBefore (c : Call) (readings : List ℕ) : Type 0 where
  pub number : call_number (renewed c) readings ≡ old_call_number c readings
  pub same : old_call_number c readings ≡ 0 → renewed c ≡ c
