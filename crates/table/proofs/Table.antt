-- What each line of the table of records shows, and each call; what a fix and a close in range show of their field.
use mathlib.Core.Path.{◌≡◌, refl, sym, ap, ◌∙◌}
use mathlib.Core.Bool.{Bool, true, false, cond}
use mathlib.Core.List.{List, [], ◌∷◌}
use Prim.Native.Nat.{ℕ, ◌<◌, ◌≤◌}
use native.Mathlib.Omega.{arith}
use borrow.Author.Tests.{eqb-true, ltb-true}
use lib.Dec.{eqb}
use lib.ListN.{get_or}
use Rattle.std.specs.Prelude.{Some}
use Rattle.std.specs.List.{find}
use Rattle.basis.specs.Numbers.{number}
use Rattle.basis.specs.Sums.{sum}
use Rattle.basis.proofs.Sums.{all_at_most_lem}
use Rattle.quantities.specs.Limits.{greatest_power, greatest_price}
use Rattle.table.specs.Fields.{decode}
use Rattle.table.specs.Records.{widest, zeros, table_of, widths_of, marks, mark_at, form_of, parts_of, call_of, fields_size, readings_size}
use Rattle.table.specs.Ranges.{fields_in_range, rest_in_range, call_number}
use Rattle.table.specs.declared.calls.Call.{Call}
use Rattle.table.specs.declared.calls.Call.TheVariants.{Year, Fix, Close, Unit, Consumer, Contract}
use Rattle.table.specs.declared.units.UnitCall.TheVariants.{Enrol, Test, Availability}
use Rattle.table.specs.declared.consumers.ConsumerCall.TheVariants.{Declare, Meter, Mean}
use Rattle.table.specs.declared.contracts.ContractCall.TheVariants.{Commit, Release}
use Rattle.table.specs.declared.forms.ConsumerField.{ConsumerField}
use Rattle.table.specs.declared.forms.ConsumerField.TheVariants.{Narrow, Wide}
use Rattle.table.specs.declared.forms.Form.{Form}
use Rattle.table.specs.declared.forms.Mark.{Mark}
use Rattle.table.specs.declared.forms.Mark.TheVariants as mark
use Rattle.table.proofs.ConsumerFields.{named_same, in_field, consumer_back}
use Rattle.table.proofs.Laws.{Lawful, lawful_by, OfParts, test-length, field_in_range, Numbered, numbered}

-- of each record of a consumer: a call in range has the mark and the values that it was made of
module _ (f : ConsumerField) (v : List ℕ) where
  declare_back : fields_in_range (call_of (mark.Declare f) v) ≡ true → ((parts_of (call_of (mark.Declare f) v)).mark ≡ mark.Declare f) × ((parts_of (call_of (mark.Declare f) v)).values ≡ get_or v 0 0 ∷ get_or v 1 0 ∷ get_or v 2 0 ∷ zeros 6)
  unfolding table_of parts_of call_of
  declare_back = consumer_back mark.Declare (λ x. x ∷ get_or v 1 0 ∷ get_or v 2 0 ∷ zeros 6) 0 (call_of (mark.Declare f) v) f (get_or v 0 0) refl (refl, refl) (omega arith) (omega arith)

  commit_back : fields_in_range (call_of (mark.Commit f) v) ≡ true → ((parts_of (call_of (mark.Commit f) v)).mark ≡ mark.Commit f) × ((parts_of (call_of (mark.Commit f) v)).values ≡ get_or v 0 0 ∷ get_or v 1 0 ∷ get_or v 2 0 ∷ zeros 6)
  unfolding table_of parts_of call_of
  commit_back = consumer_back mark.Commit (λ x. get_or v 0 0 ∷ x ∷ get_or v 2 0 ∷ zeros 6) 1 (call_of (mark.Commit f) v) f (get_or v 1 0) refl (refl, refl) (omega arith) (omega arith)

  release_back : fields_in_range (call_of (mark.Release f) v) ≡ true → ((parts_of (call_of (mark.Release f) v)).mark ≡ mark.Release f) × ((parts_of (call_of (mark.Release f) v)).values ≡ get_or v 0 0 ∷ get_or v 1 0 ∷ get_or v 2 0 ∷ zeros 6)
  unfolding table_of parts_of call_of
  release_back = consumer_back mark.Release (λ x. get_or v 0 0 ∷ x ∷ get_or v 2 0 ∷ zeros 6) 1 (call_of (mark.Release f) v) f (get_or v 1 0) refl (refl, refl) (omega arith) (omega arith)

  meter_back : fields_in_range (call_of (mark.Meter f) v) ≡ true → ((parts_of (call_of (mark.Meter f) v)).mark ≡ mark.Meter f) × ((parts_of (call_of (mark.Meter f) v)).values ≡ get_or v 0 0 ∷ get_or v 1 0 ∷ zeros 7)
  unfolding table_of parts_of call_of
  meter_back = consumer_back mark.Meter (λ x. x ∷ get_or v 1 0 ∷ zeros 7) 0 (call_of (mark.Meter f) v) f (get_or v 0 0) refl (refl, refl) (omega arith) (omega arith)

  mean_back : fields_in_range (call_of (mark.Mean f) v) ≡ true → ((parts_of (call_of (mark.Mean f) v)).mark ≡ mark.Mean f) × ((parts_of (call_of (mark.Mean f) v)).values ≡ get_or v 0 0 ∷ get_or v 1 0 ∷ zeros 7)
  unfolding table_of parts_of call_of
  mean_back = consumer_back mark.Mean (λ x. x ∷ get_or v 1 0 ∷ zeros 7) 0 (call_of (mark.Mean f) v) f (get_or v 0 0) refl (refl, refl) (omega arith) (omega arith)

pub lawful : (m : Mark) → Lawful m
unfolding table_of mark_at form_of parts_of call_of decode number
lawful mark.Year = lawful_by refl refl refl refl refl refl refl refl (λ v e. refl) (λ s e. refl)
lawful mark.Enrol = lawful_by refl refl refl refl refl refl refl refl (λ v e. refl) (λ s e. refl)
lawful mark.Test = lawful_by refl refl refl refl refl refl refl refl (λ v e. refl) (λ s e. refl)
lawful mark.Availability = lawful_by refl refl refl refl refl refl refl refl (λ v e. refl) (λ s e. refl)
lawful (mark.Declare Narrow) = lawful_by refl refl refl refl refl refl refl refl (λ v e. (declare_back Narrow v e).0) (λ s e. (declare_back Narrow (decode (form_of (mark.Declare Narrow)).widths s) e).1)
lawful (mark.Declare Wide) = lawful_by refl refl refl refl refl refl refl refl (λ v e. (declare_back Wide v e).0) (λ s e. (declare_back Wide (decode (form_of (mark.Declare Wide)).widths s) e).1)
lawful mark.Fix = lawful_by refl refl refl refl refl refl refl refl (λ v e. refl) (λ s e. refl)
lawful (mark.Commit Narrow) = lawful_by refl refl refl refl refl refl refl refl (λ v e. (commit_back Narrow v e).0) (λ s e. (commit_back Narrow (decode (form_of (mark.Commit Narrow)).widths s) e).1)
lawful (mark.Commit Wide) = lawful_by refl refl refl refl refl refl refl refl (λ v e. (commit_back Wide v e).0) (λ s e. (commit_back Wide (decode (form_of (mark.Commit Wide)).widths s) e).1)
lawful (mark.Release Narrow) = lawful_by refl refl refl refl refl refl refl refl (λ v e. (release_back Narrow v e).0) (λ s e. (release_back Narrow (decode (form_of (mark.Release Narrow)).widths s) e).1)
lawful (mark.Release Wide) = lawful_by refl refl refl refl refl refl refl refl (λ v e. (release_back Wide v e).0) (λ s e. (release_back Wide (decode (form_of (mark.Release Wide)).widths s) e).1)
lawful (mark.Meter Narrow) = lawful_by refl refl refl refl refl refl refl refl (λ v e. (meter_back Narrow v e).0) (λ s e. (meter_back Narrow (decode (form_of (mark.Meter Narrow)).widths s) e).1)
lawful (mark.Meter Wide) = lawful_by refl refl refl refl refl refl refl refl (λ v e. (meter_back Wide v e).0) (λ s e. (meter_back Wide (decode (form_of (mark.Meter Wide)).widths s) e).1)
lawful mark.Close = lawful_by refl refl refl refl refl refl refl refl (λ v e. refl) (λ s e. refl)
lawful (mark.Mean Narrow) = lawful_by refl refl refl refl refl refl refl refl (λ v e. (mean_back Narrow v e).0) (λ s e. (mean_back Narrow (decode (form_of (mark.Mean Narrow)).widths s) e).1)
lawful (mark.Mean Wide) = lawful_by refl refl refl refl refl refl refl refl (λ v e. (mean_back Wide v e).0) (λ s e. (mean_back Wide (decode (form_of (mark.Mean Wide)).widths s) e).1)

-- what is found passes the test
find_passes : {A : Type 0} (test : A → Bool) (xs : List A) (x : A) → find test xs ≡ Some x → test x ≡ true
find_passes test [] x e = cc
find_passes test (y ∷ ys) x e = go (test y) refl (find_passes test ys x) e
  where
    go : (t : Bool) → test y ≡ t → (find test ys ≡ Some x → test x ≡ true) → cond t (Some y) (find test ys) ≡ Some x → test x ≡ true
    go true h later k = let q : y ≡ x = cc in ap test (sym q) ∙ h
    go false h later k = later k

-- the mark of a record that is found
pub mark_found : (x : ℕ) (m : Mark) → mark_at x ≡ Some m → (form_of m).mark ≡ x
unfolding mark_at form_of
mark_found x m e = eqb-true (table_of m).mark x (find_passes (λ k. eqb (table_of k).mark x) marks m e)

-- the fields of a record have few bytes
pub widths_small : (m : Mark) → sum (widths_of (table_of m).columns) < 254
unfolding form_of
widths_small m = omega (arith, ltb-true (form_of m).size 256 (lawful m).short)

pub fields_small : (c : Call) → fields_size c < 256
fields_small c = ltb-true (fields_size c) 256 (lawful (parts_of c).mark).short

-- and none is wider than the widest
pub narrow_widths : (m : Mark) {f : Form} → f ≡ form_of m → (i : ℕ) → get_or f.widths i 0 ≤ widest
narrow_widths m e i = rw e (all_at_most_lem widest (form_of m).widths (lawful m).narrow i)

pub of_parts : (c : Call) → OfParts c
unfolding table_of form_of parts_of call_of readings_size rest_in_range
of_parts (Year h) = record { again = λ e. refl; count = refl; lent = λ rs e. omega arith }
of_parts (Fix dmp) = record { again = λ e. refl; count = refl; lent = λ rs e. omega arith }
of_parts (Close p) = record { again = λ e. refl; count = refl; lent = λ rs e. omega arith }
of_parts (Unit unit (Enrol e)) = record { again = λ h. refl; count = refl; lent = λ rs h. omega arith }
of_parts (Unit unit (Test component t)) =
    record { again = λ e. refl; count = refl; lent = λ rs e. omega (arith, test-length t.ending t.tc t.count rs e) }
of_parts (Unit unit (Availability component m)) = record { again = λ e. refl; count = refl; lent = λ rs e. omega arith }
of_parts (Consumer consumer (Declare d a)) =
    record {
      again = λ e. ap (λ x. Consumer x (Declare d a)) (named_same consumer (in_field mark.Declare (λ x. x ∷ d ∷ a ∷ zeros 6) 0 (Consumer consumer (Declare d a)) consumer refl (refl, refl) (omega arith) (omega arith) e));
      count = refl;
      lent = λ rs e. omega arith;
    }
of_parts (Consumer consumer (Meter dreal)) =
    record {
      again = λ e. ap (λ x. Consumer x (Meter dreal)) (named_same consumer (in_field mark.Meter (λ x. x ∷ dreal ∷ zeros 7) 0 (Consumer consumer (Meter dreal)) consumer refl (refl, refl) (omega arith) (omega arith) e));
      count = refl;
      lent = λ rs e. omega arith;
    }
of_parts (Consumer consumer (Mean mean)) =
    record {
      again = λ e. ap (λ x. Consumer x (Mean mean)) (named_same consumer (in_field mark.Mean (λ x. x ∷ mean ∷ zeros 7) 0 (Consumer consumer (Mean mean)) consumer refl (refl, refl) (omega arith) (omega arith) e));
      count = refl;
      lent = λ rs e. omega arith;
    }
of_parts (Contract producer consumer (Commit q)) =
    record {
      again = λ e. ap (λ x. Contract producer x (Commit q)) (named_same consumer (in_field mark.Commit (λ x. producer ∷ x ∷ q ∷ zeros 6) 1 (Contract producer consumer (Commit q)) consumer refl (refl, refl) (omega arith) (omega arith) e));
      count = refl;
      lent = λ rs e. omega arith;
    }
of_parts (Contract producer consumer (Release q)) =
    record {
      again = λ e. ap (λ x. Contract producer x (Release q)) (named_same consumer (in_field mark.Release (λ x. producer ∷ x ∷ q ∷ zeros 6) 1 (Contract producer consumer (Release q)) consumer refl (refl, refl) (omega arith) (omega arith) e));
      count = refl;
      lent = λ rs e. omega arith;
    }

-- what a fix and a close in range show of their field
pub fix-ranged : (dmp : ℕ) (rs : List ℕ) → call_number (Fix dmp) rs ≡ 0 → Numbered greatest_power dmp
unfolding table_of parts_of
fix-ranged dmp rs e = numbered (field_in_range (Fix dmp) (lawful mark.Fix) (of_parts (Fix dmp)) rs e 0 (omega arith))

pub close-ranged : (p : ℕ) (rs : List ℕ) → call_number (Close p) rs ≡ 0 → Numbered greatest_price p
unfolding table_of parts_of
close-ranged p rs e = numbered (field_in_range (Close p) (lawful mark.Close) (of_parts (Close p)) rs e 0 (omega arith))
