-- A call of the old table meets 3 as it did, and a mark that was there is still found.
use mathlib.Core.Path.{◌≡◌, refl, sym, ap, ◌∙◌}
use mathlib.Core.Bool.{Bool, true, false, false≢true, cond, not}
use mathlib.Core.List.{List, [], ◌∷◌}
use Prim.Native.Nat.{ℕ}
use native.Mathlib.Omega.{arith}
use borrow.Author.Tests.{le-leb}
use lib.Dec.{eqb}
use lib.ListN.{drop}
use Rattle.std.specs.Prelude.{None, Some, ◌&&◌}
use Rattle.std.specs.List.{find, filter}
use Rattle.basis.specs.Choice.{pick, between}
use Rattle.basis.proofs.Choice.{peel_not, between_true}
use Rattle.quantities.specs.Limits.{producers, byte_consumers}
use Rattle.table.specs.Records.{column, no_column, zeros, consumer_column, consumer_field, consumer_named, is_wide, marks, mark_at, table_of, parts_of}
use Rattle.table.specs.Fields.{within_all}
use Rattle.table.specs.Ranges.{fields_in_range, fields_number, rest_in_range, call_number}
use Rattle.table.specs.Old.{old_mark_at, old_fields_in_range, old_call_number, renewed, MeetsAsBefore}
use Rattle.table.specs.declared.columns.Column.{Column}
use Rattle.table.specs.declared.calls.Call.{Call}
use Rattle.table.specs.declared.calls.Call.TheVariants.{Year, Fix, Close, Unit, Consumer, Contract}
use Rattle.table.specs.declared.units.UnitCall.TheVariants.{Enrol, Test, Availability}
use Rattle.table.specs.declared.consumers.ConsumerCall.TheVariants.{Declare, Meter, Mean}
use Rattle.table.specs.declared.contracts.ContractCall.TheVariants.{Commit, Release}
use Rattle.table.specs.declared.forms.ConsumerField.{ConsumerField}
use Rattle.table.specs.declared.forms.ConsumerField.TheVariants.{Narrow}
use Rattle.table.specs.declared.forms.Mark.{Mark}
use Rattle.table.specs.declared.forms.Mark.TheVariants as mark
use Rattle.table.proofs.Codec.{within_at}
use Rattle.table.proofs.ConsumerFields.{Holds}

-- what is found is found among those that are kept, if it is kept; what is not found is not found among them
module _ {A : Type 0} (test keep : A → Bool) where
  found_kept : (xs : List A) (x : A) → find test xs ≡ Some x → keep x ≡ true → find test (filter keep xs) ≡ Some x
  found_kept [] x e k = e
  found_kept (y ∷ ys) x e k = go (test y) refl (keep y) refl e (λ f. found_kept ys x f k)
    where
      go : (t : Bool) → test y ≡ t → (p : Bool) → keep y ≡ p → cond t (Some y) (find test ys) ≡ Some x → (find test ys ≡ Some x → find test (filter keep ys) ≡ Some x) → find test (cond p (y ∷ filter keep ys) (filter keep ys)) ≡ Some x
      go true h true q f later = rw h f
      go true h false q f later = let z : y ≡ x = cc f in absurd (false≢true (sym q ∙ ap keep z ∙ k))
      go false h true q f later = rw h (later f)
      go false h false q f later = later f

  none_kept : (xs : List A) → find test xs ≡ None → find test (filter keep xs) ≡ None
  none_kept [] e = e
  none_kept (y ∷ ys) e = go (test y) refl (keep y) e (none_kept ys)
    where
      go : (t : Bool) → test y ≡ t → (p : Bool) → cond t (Some y) (find test ys) ≡ None → (find test ys ≡ None → find test (filter keep ys) ≡ None) → find test (cond p (y ∷ filter keep ys) (filter keep ys)) ≡ None
      go true h p f later = let z : ◌≡◌ {A = ℕ} 0 1 = cc in absurd (omega arith)
      go false h true f later = rw h (later f)
      go false h false f later = later f

-- a mark that is none for consumers above 64 was there, and no mark was there that is none now
pub old_found : (x : ℕ) (m : Mark) → mark_at x ≡ Some m → is_wide m ≡ false → old_mark_at x ≡ Some m
unfolding old_mark_at mark_at
old_found x m e h = found_kept (λ k. eqb (table_of k).mark x) (λ k. not (is_wide k)) marks m e (ap not h)

pub old_unfound : (x : ℕ) → mark_at x ≡ None → old_mark_at x ≡ None
unfolding old_mark_at mark_at
old_unfound x e = none_kept (λ k. eqb (table_of k).mark x) (λ k. not (is_wide k)) marks e

-- the consumer of a call now has the field of one byte, and is in its range exactly where the number was
pub narrow_named : (n : ℕ) → (consumer_field (consumer_named Narrow n) ≡ Narrow) × (between 1 byte_consumers (consumer_named Narrow n) ≡ between 1 byte_consumers n)
narrow_named n = go (between 1 byte_consumers n) refl
  where
    go : (t : Bool) → between 1 byte_consumers n ≡ t → (consumer_field (pick t n 0) ≡ Narrow) × (between 1 byte_consumers (pick t n 0) ≡ between 1 byte_consumers n)
    go true h = (rw (le-leb n byte_consumers (between_true 1 byte_consumers n h).1) refl, refl)
    go false h = (refl, sym h)

pub narrow_same : (n : ℕ) → Holds Narrow n → consumer_named Narrow n ≡ n
narrow_same n h = rw (le-leb 1 n h.0, le-leb n byte_consumers h.1) refl

-- a value in range as another one is changes no range, at the first place or the second
first_same : (c : Column) (cs : List Column) (x y : ℕ) (vs : List ℕ) → between c.least c.greatest x ≡ between c.least c.greatest y → within_all (c ∷ cs) (x ∷ vs) ≡ within_all (c ∷ cs) (y ∷ vs)
first_same c cs x y vs e = ap (λ t. t && within_all cs vs) e

second_same : (b c : Column) (cs : List Column) (v x y : ℕ) (vs : List ℕ) → between c.least c.greatest x ≡ between c.least c.greatest y → within_all (b ∷ c ∷ cs) (v ∷ x ∷ vs) ≡ within_all (b ∷ c ∷ cs) (v ∷ y ∷ vs)
second_same b c cs v x y vs e = ap (λ t. between b.least b.greatest v && t) (first_same c cs x y vs e)

-- the ranges of a record whose consumer stands first, or behind a producer
module _ (g : ConsumerField → Mark) (n : ℕ) (vs : List ℕ) where
  consumer_ranges : (cs : List Column) → ((f : ConsumerField) → (table_of (g f)).columns ≡ consumer_column f ∷ cs) → within_all (table_of (g (consumer_field (consumer_named Narrow n)))).columns (consumer_named Narrow n ∷ vs) ≡ within_all (table_of (g Narrow)).columns (n ∷ vs)
  consumer_ranges cs e =
      let k = narrow_named n in
      ap (λ f. within_all (table_of (g f)).columns (consumer_named Narrow n ∷ vs)) k.0
      ∙ ap (λ l. within_all l (consumer_named Narrow n ∷ vs)) (e Narrow)
      ∙ first_same (consumer_column Narrow) cs (consumer_named Narrow n) n vs k.1
      ∙ ap (λ l. within_all l (n ∷ vs)) (sym (e Narrow))

  contract_ranges : (producer : ℕ) (b : Column) (cs : List Column) → ((f : ConsumerField) → (table_of (g f)).columns ≡ b ∷ consumer_column f ∷ cs) → within_all (table_of (g (consumer_field (consumer_named Narrow n)))).columns (producer ∷ consumer_named Narrow n ∷ vs) ≡ within_all (table_of (g Narrow)).columns (producer ∷ n ∷ vs)
  contract_ranges producer b cs e =
      let k = narrow_named n in
      ap (λ f. within_all (table_of (g f)).columns (producer ∷ consumer_named Narrow n ∷ vs)) k.0
      ∙ ap (λ l. within_all l (producer ∷ consumer_named Narrow n ∷ vs)) (e Narrow)
      ∙ second_same b (consumer_column Narrow) cs producer (consumer_named Narrow n) n vs k.1
      ∙ ap (λ l. within_all l (producer ∷ n ∷ vs)) (sym (e Narrow))

ranges_renewed : (c : Call) → fields_in_range (renewed c) ≡ old_fields_in_range c
unfolding table_of parts_of
ranges_renewed (Year h) = refl
ranges_renewed (Fix dmp) = refl
ranges_renewed (Close p) = refl
ranges_renewed (Unit unit (Enrol e)) = refl
ranges_renewed (Unit unit (Test component t)) = refl
ranges_renewed (Unit unit (Availability component m)) = refl
ranges_renewed (Consumer consumer (Declare d a)) = consumer_ranges mark.Declare consumer (d ∷ a ∷ zeros 6) (drop 1 (table_of (mark.Declare Narrow)).columns) (λ f. refl)
ranges_renewed (Consumer consumer (Meter dreal)) = consumer_ranges mark.Meter consumer (dreal ∷ zeros 7) (drop 1 (table_of (mark.Meter Narrow)).columns) (λ f. refl)
ranges_renewed (Consumer consumer (Mean mean)) = consumer_ranges mark.Mean consumer (mean ∷ zeros 7) (drop 1 (table_of (mark.Mean Narrow)).columns) (λ f. refl)
ranges_renewed (Contract producer consumer (Commit q)) = contract_ranges mark.Commit consumer (q ∷ zeros 6) producer (column 1 1 producers) (drop 2 (table_of (mark.Commit Narrow)).columns) (λ f. refl)
ranges_renewed (Contract producer consumer (Release q)) = contract_ranges mark.Release consumer (q ∷ zeros 6) producer (column 1 1 producers) (drop 2 (table_of (mark.Release Narrow)).columns) (λ f. refl)

rest_renewed : (c : Call) (rs : List ℕ) → rest_in_range (renewed c) rs ≡ rest_in_range c rs
unfolding rest_in_range
rest_renewed (Year h) rs = refl
rest_renewed (Fix dmp) rs = refl
rest_renewed (Close p) rs = refl
rest_renewed (Unit unit act) rs = refl
rest_renewed (Consumer consumer act) rs = refl
rest_renewed (Contract producer consumer act) rs = refl

-- a call's number, by its ranges
number_by : (c : Call) (rs : List ℕ) → call_number c rs ≡ pick (fields_in_range c) (pick (rest_in_range c rs) 0 3) 3
unfolding fields_number call_number
number_by c rs = go (fields_in_range c) (pick (rest_in_range c rs) 0 3)
  where
    go : (t : Bool) (rest : ℕ) → pick (eqb (pick t 0 3) 0) rest (pick t 0 3) ≡ pick t rest 3
    go true rest = refl
    go false rest = refl

-- in range a call is what it was
in_range_same : (c : Call) → old_fields_in_range c ≡ true → renewed c ≡ c
unfolding table_of parts_of
in_range_same (Year h) e = refl
in_range_same (Fix dmp) e = refl
in_range_same (Close p) e = refl
in_range_same (Unit unit act) e = refl
in_range_same (Consumer consumer (Declare d a)) e =
    ap (λ n. Consumer n (Declare d a)) (narrow_same consumer (within_at (table_of (mark.Declare Narrow)).columns (parts_of (Consumer consumer (Declare d a))).values no_column e 0 (omega arith) (omega arith)))
in_range_same (Consumer consumer (Meter dreal)) e =
    ap (λ n. Consumer n (Meter dreal)) (narrow_same consumer (within_at (table_of (mark.Meter Narrow)).columns (parts_of (Consumer consumer (Meter dreal))).values no_column e 0 (omega arith) (omega arith)))
in_range_same (Consumer consumer (Mean mean)) e =
    ap (λ n. Consumer n (Mean mean)) (narrow_same consumer (within_at (table_of (mark.Mean Narrow)).columns (parts_of (Consumer consumer (Mean mean))).values no_column e 0 (omega arith) (omega arith)))
in_range_same (Contract producer consumer (Commit q)) e =
    ap (λ n. Contract producer n (Commit q)) (narrow_same consumer (within_at (table_of (mark.Commit Narrow)).columns (parts_of (Contract producer consumer (Commit q))).values no_column e 1 (omega arith) (omega arith)))
in_range_same (Contract producer consumer (Release q)) e =
    ap (λ n. Contract producer n (Release q)) (narrow_same consumer (within_at (table_of (mark.Release Narrow)).columns (parts_of (Contract producer consumer (Release q))).values no_column e 1 (omega arith) (omega arith)))

pub meets_as_before : (c : Call) (rs : List ℕ) → MeetsAsBefore c rs
unfolding old_call_number
meets_as_before c rs =
    record {
      number =
          number_by (renewed c) rs
          ∙ ap (λ t. pick t (pick (rest_in_range (renewed c) rs) 0 3) 3) (ranges_renewed c)
          ∙ ap (λ t. pick (old_fields_in_range c) (pick t 0 3) 3) (rest_renewed c rs);
      same = λ e. in_range_same c (peel_not (old_fields_in_range c) 2 (pick (rest_in_range c rs) 0 3) e).0;
    }
