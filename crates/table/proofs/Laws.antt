-- What holds of each record of the table and of each call, and what a call in range shows of a field.
use mathlib.Core.Path.{◌≡◌}
use mathlib.Core.Bool.{Bool, true}
use mathlib.Core.List.{List}
use Prim.Native.Nat.{ℕ, ◌+◌, ◌*◌, ◌≤◌, ◌<◌}
use native.Mathlib.Omega.{arith}
use borrow.Author.Tests.{eqb-true}
use lib.Dec.{leb, ltb, eqb}
use lib.ListN.{length, get_or}
use Rattle.std.specs.Prelude.{Some}
use Rattle.basis.specs.Choice.{pick, between}
use Rattle.basis.specs.Sums.{sum, all_at_most}
use Rattle.basis.proofs.Choice.{peel_not, both_true, handed_on}
use Rattle.quantities.specs.Limits.{greatest_reading, greatest_ending, least_time, greatest_time, greatest_count}
use Rattle.power.specs.Ranges.{readings_of, test_in_range}
use Rattle.table.specs.Fields.{decode}
use Rattle.table.specs.Records.{most_fields, widest, no_column, table_of, form_of, mark_at, parts_of, call_of, readings_size}
use Rattle.table.specs.Ranges.{fields_in_range, fields_number, rest_in_range, call_number}
use Rattle.table.specs.declared.calls.Call.{Call}
use Rattle.table.specs.declared.forms.Mark.{Mark}
use Rattle.table.proofs.Codec.{fit_all, within_at}

-- what holds of each line of the table
pub record Lawful (m : Mark) : Type 0 where
  -- the mark has two bytes and finds the line
  pub pair : ltb (form_of m).mark 65536 ≡ true
  pub found : mark_at (form_of m).mark ≡ Some m
  -- the size is that of mark and fields
  pub size : (form_of m).size ≡ 2 + sum (form_of m).widths
  pub short : ltb (form_of m).size 256 ≡ true
  -- the line has a place for each field that a record can have
  pub widths_count : length (form_of m).widths ≡ most_fields
  pub columns_count : length (table_of m).columns ≡ most_fields
  -- no field is wider than the widest, and each value in range fits its field
  pub narrow : all_at_most widest (form_of m).widths ≡ true
  pub fits : fit_all (table_of m).columns ≡ true
  -- the call of what is read, in range, has this record and these values; while each call has one record, those out of range do so too
  pub marked : (v : List ℕ) → fields_in_range (call_of m v) ≡ true → (parts_of (call_of m v)).mark ≡ m
  pub values : (s : List ℕ) → fields_in_range (call_of m (decode (form_of m).widths s)) ≡ true → (parts_of (call_of m (decode (form_of m).widths s))).values ≡ decode (form_of m).widths s

-- all of it is found by computing
pub lawful_by : {m : Mark} → ltb (form_of m).mark 65536 ≡ true →
    mark_at (form_of m).mark ≡ Some m → (form_of m).size ≡ 2 + sum (form_of m).widths → ltb (form_of m).size 256 ≡ true →
    length (form_of m).widths ≡ most_fields → length (table_of m).columns ≡ most_fields →
    all_at_most widest (form_of m).widths ≡ true → fit_all (table_of m).columns ≡ true →
    ((v : List ℕ) → fields_in_range (call_of m v) ≡ true → (parts_of (call_of m v)).mark ≡ m) →
    ((s : List ℕ) → fields_in_range (call_of m (decode (form_of m).widths s)) ≡ true →
    (parts_of (call_of m (decode (form_of m).widths s))).values ≡ decode (form_of m).widths s) →
    Lawful m
lawful_by a b c d w l f g j k =
    record {
      pair = a;
      found = b;
      size = c;
      short = d;
      widths_count = w;
      columns_count = l;
      narrow = f;
      fits = g;
      marked = j;
      values = k;
    }

-- a call in range is made of its parts (while each call has one record, every call is), of as many values as its record has fields; its
-- readings are lent with it
pub record OfParts (c : Call) : Type 0 where
  pub again : fields_in_range c ≡ true → call_of (parts_of c).mark (parts_of c).values ≡ c
  pub count : length (parts_of c).values ≡ length (form_of (parts_of c).mark).widths
  pub lent : (rs : List ℕ) → rest_in_range c rs ≡ true → readings_size c ≤ length rs

-- a call in range passed both tests
pub in_range : (c : Call) (rs : List ℕ) → call_number c rs ≡ 0 → (fields_in_range c ≡ true) × (rest_in_range c rs ≡ true)
unfolding fields_number call_number
in_range c rs e =
    let h = handed_on (fields_number c) (pick (rest_in_range c rs) 0 3) e in
    ((peel_not (fields_in_range c) 2 0 h.0).0, (peel_not (rest_in_range c rs) 2 0 h.1).0)

-- the lent length of a test in range is that of its count
pub test-length : (ending tc count : ℕ) (rs : List ℕ) → test_in_range ending tc count rs ≡ true → length rs ≡ 4 * count
test-length ending tc count rs e =
    let d : Bool = all_at_most greatest_reading (readings_of count rs) in
    let a = both_true (leb ending greatest_ending) _ e in
    let b = both_true (between least_time greatest_time tc) _ a.1 in
    let c = both_true (leb count greatest_count) _ b.1 in
    eqb-true (length rs) (4 * count) (both_true (eqb (length rs) (4 * count)) d c.1).0

-- field i of a call in range stands from its least to its greatest value in the call's record
pub field_in_range : (c : Call) → Lawful (parts_of c).mark → OfParts c → (rs : List ℕ) → call_number c rs ≡ 0 → (i : ℕ) → i < most_fields →
    ((get_or (table_of (parts_of c).mark).columns i no_column).least ≤ get_or (parts_of c).values i 0) × (get_or (parts_of c).values i 0 ≤ (get_or (table_of (parts_of c).mark).columns i no_column).greatest)
field_in_range c l o rs e i h =
    within_at (table_of (parts_of c).mark).columns (parts_of c).values no_column (in_range c rs e).0 i (omega (arith, l.columns_count)) (omega (arith, l.widths_count, o.count))

-- a number from 1 on, in its range
pub record Numbered (greatest n : ℕ) : Type 0 where
  pub least : 1 ≤ n
  pub most : n ≤ greatest

pub numbered : {greatest n : ℕ} → (1 ≤ n) × (n ≤ greatest) → Numbered greatest n
numbered h = record { least = h.0; most = h.1 }
