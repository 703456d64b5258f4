-- A call is tested in columns of its own: a consumer is in range of its field exactly where it is one of the book's.
use mathlib.Core.Path.{◌≡◌, refl, sym, ap, ◌∙◌}
use mathlib.Core.Bool.{Bool, true, false}
use mathlib.Core.List.{List, ◌∷◌}
use Prim.Native.Nat.{ℕ}
use native.Mathlib.Omega.{arith}
use borrow.Author.Tests.{leb-true, leb-false, le-leb}
use lib.Dec.{leb}
use lib.ListN.{drop}
use Rattle.std.specs.Prelude.{◌&&◌}
use Rattle.basis.specs.Choice.{pick, between}
use Rattle.quantities.specs.Limits.{producers, consumers, byte_consumers}
use Rattle.table.specs.Records.{column, consumer_column, consumer_field, table_of, parts_of}
use Rattle.table.specs.Fields.{within_all}
use Rattle.table.specs.Ranges.{either_consumer, call_columns, fields_in_range}
use Rattle.table.specs.declared.columns.Column.{Column}
use Rattle.table.specs.declared.calls.Call.{Call}
use Rattle.table.specs.declared.calls.Call.TheVariants.{Year, Fix, Close, Unit, Consumer, Contract}
use Rattle.table.specs.declared.units.UnitCall.TheVariants.{Enrol, Test, Availability}
use Rattle.table.specs.declared.consumers.ConsumerCall.TheVariants.{Declare, Meter, Mean}
use Rattle.table.specs.declared.contracts.ContractCall.TheVariants.{Commit, Release}
use Rattle.table.specs.declared.forms.ConsumerField.TheVariants.{Narrow, Wide}
use Rattle.table.specs.declared.forms.Mark.TheVariants as mark

-- a consumer is in the range of the field that its record has exactly where it is one of all
either : (n : ℕ) → between 1 consumers n ≡ between (consumer_column (consumer_field n)).least (consumer_column (consumer_field n)).greatest n
either n = go (leb n byte_consumers) refl
  where
    go : (t : Bool) → leb n byte_consumers ≡ t → between 1 consumers n ≡ between (consumer_column (pick t Narrow Wide)).least (consumer_column (pick t Narrow Wide)).greatest n
    go true h = let k = leb-true n byte_consumers h in ap (λ t. leb 1 n && t) (le-leb n consumers (omega (arith, k)) ∙ sym h)
    go false h =
        let k = leb-false n byte_consumers h in
        ap (λ t. t && leb n consumers) (le-leb 1 n (omega (arith, k)) ∙ sym (le-leb (consumer_column Wide).least n (omega (arith, k))))

-- at the first place, or behind a producer
first : (n : ℕ) (cs : List Column) (vs : List ℕ) → within_all (either_consumer ∷ cs) (n ∷ vs) ≡ within_all (consumer_column (consumer_field n) ∷ cs) (n ∷ vs)
first n cs vs = ap (λ t. t && within_all cs vs) (either n)

second : (b : Column) (v n : ℕ) (cs : List Column) (vs : List ℕ) → within_all (b ∷ either_consumer ∷ cs) (v ∷ n ∷ vs) ≡ within_all (b ∷ consumer_column (consumer_field n) ∷ cs) (v ∷ n ∷ vs)
second b v n cs vs = ap (λ t. between b.least b.greatest v && t) (first n cs vs)

pub tested : (c : Call) → within_all (call_columns (parts_of c).mark) (parts_of c).values ≡ fields_in_range c
unfolding call_columns table_of parts_of
tested (Year h) = refl
tested (Fix dmp) = refl
tested (Close p) = refl
tested (Unit unit (Enrol e)) = refl
tested (Unit unit (Test component t)) = refl
tested (Unit unit (Availability component m)) = refl
tested (Consumer consumer (Declare d a)) = first consumer (drop 1 (table_of (mark.Declare Narrow)).columns) (drop 1 (parts_of (Consumer consumer (Declare d a))).values)
tested (Consumer consumer (Meter dreal)) = first consumer (drop 1 (table_of (mark.Meter Narrow)).columns) (drop 1 (parts_of (Consumer consumer (Meter dreal))).values)
tested (Consumer consumer (Mean mean)) = first consumer (drop 1 (table_of (mark.Mean Narrow)).columns) (drop 1 (parts_of (Consumer consumer (Mean mean))).values)
tested (Contract producer consumer (Commit q)) = second (column 1 1 producers) producer consumer (drop 2 (table_of (mark.Commit Narrow)).columns) (drop 2 (parts_of (Contract producer consumer (Commit q))).values)
tested (Contract producer consumer (Release q)) = second (column 1 1 producers) producer consumer (drop 2 (table_of (mark.Release Narrow)).columns) (drop 2 (parts_of (Contract producer consumer (Release q))).values)
