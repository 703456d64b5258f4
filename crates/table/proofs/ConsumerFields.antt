-- The two fields of a consumer: the number in a field is the consumer that it names, once that one is in range.
use mathlib.Core.Path.{◌≡◌, refl, ap, ◌∙◌}
use mathlib.Core.Bool.{Bool, true, false}
use mathlib.Core.List.{List}
use Prim.Native.Nat.{ℕ, ◌≤◌, ◌<◌}
use native.Mathlib.Omega.{arith}
use borrow.Author.Tests.{le-leb, lt-leb}
use lib.Dec.{leb}
use lib.ListN.{length, get_or}
use Rattle.basis.specs.Choice.{pick, between}
use Rattle.basis.proofs.Choice.{between_true}
use Rattle.quantities.specs.Limits.{consumers, byte_consumers}
use Rattle.table.specs.Records.{no_column, consumer_column, consumer_field, consumer_named, table_of, parts_of, parts}
use Rattle.table.specs.Ranges.{fields_in_range}
use Rattle.table.specs.declared.calls.Call.{Call}
use Rattle.table.specs.declared.forms.ConsumerField.{ConsumerField}
use Rattle.table.specs.declared.forms.ConsumerField.TheVariants.{Narrow, Wide}
use Rattle.table.specs.declared.forms.Mark.{Mark}
use Rattle.table.specs.declared.parts.Parts.{Parts}
use Rattle.table.proofs.Codec.{within_at}
use Rattle.table.proofs.Laws.{Numbered}

-- the number is in the field's range
abbrev pub Holds : ConsumerField → ℕ → Type 0
Holds f n = ((consumer_column f).least ≤ n) × (n ≤ (consumer_column f).greatest)

-- a number in a field's range has that field
field_same : (f : ConsumerField) (n : ℕ) → Holds f n → consumer_field n ≡ f
field_same Narrow n h = rw (le-leb n byte_consumers h.1) refl
field_same Wide n h = rw (lt-leb n byte_consumers (omega (arith, h.0))) refl

-- so a field's number is the consumer that it names, once that one is in the range of the field that its record has
pub named_back : (f : ConsumerField) (n : ℕ) → Holds (consumer_field (consumer_named f n)) (consumer_named f n) → (consumer_field (consumer_named f n) ≡ f) × (consumer_named f n ≡ n)
named_back f n e = go (between (consumer_column f).least (consumer_column f).greatest n) refl e
  where
    go : (t : Bool) → between (consumer_column f).least (consumer_column f).greatest n ≡ t → Holds (consumer_field (pick t n 0)) (pick t n 0) → (consumer_field (pick t n 0) ≡ f) × (pick t n 0 ≡ n)
    go true q h = (field_same f n (between_true (consumer_column f).least (consumer_column f).greatest n q), refl)
    go false q h = absurd (omega (arith, h.0))

-- and a consumer in the range of its field is the one that this field names
pub named_same : (n : ℕ) → Holds (consumer_field n) n → consumer_named (consumer_field n) n ≡ n
named_same n h =
    rw (le-leb (consumer_column (consumer_field n)).least n h.0, le-leb n (consumer_column (consumer_field n)).greatest h.1) refl

-- a consumer in the range of its field is in the range of all
pub field_numbered : {n : ℕ} → Holds (consumer_field n) n → Numbered consumers n
field_numbered {n} e = go (leb n byte_consumers) e
  where
    go : (t : Bool) → Holds (pick t Narrow Wide) n → Numbered consumers n
    go true h = record { least = h.0; most = omega (arith, h.1) }
    go false h = record { least = omega (arith, h.0); most = h.1 }

-- what a call in range shows of the consumer at a place of its values
module _ (g : ConsumerField → Mark) (vals : ℕ → List ℕ) (i : ℕ) where
  -- the place is that of a consumer's field
  abbrev pub AtPlace : ℕ → Type 0
  AtPlace x = (get_or (table_of (g (consumer_field x))).columns i no_column ≡ consumer_column (consumer_field x)) × (get_or (vals x) i 0 ≡ x)

  pub in_field : (c : Call) (x : ℕ) → parts_of c ≡ parts (g (consumer_field x)) (vals x) → AtPlace x → i < length (table_of (g (consumer_field x))).columns → i < length (vals x) → fields_in_range c ≡ true → Holds (consumer_field x) x
  in_field c x e p k l h =
      let w = within_at (table_of (g (consumer_field x))).columns (vals x) no_column (rw e at h) i k l in
      rw (p.0, p.1) at w

  -- the record of a call that a field's number made is that of the field, with that number
  pub consumer_back : (c : Call) (f : ConsumerField) (n : ℕ) → parts_of c ≡ parts (g (consumer_field (consumer_named f n))) (vals (consumer_named f n)) → AtPlace (consumer_named f n) → i < length (table_of (g (consumer_field (consumer_named f n)))).columns → i < length (vals (consumer_named f n)) → fields_in_range c ≡ true → ((parts_of c).mark ≡ g f) × ((parts_of c).values ≡ vals n)
  consumer_back c f n e p k l h =
      let b = named_back f n (in_field c (consumer_named f n) e p k l h) in
      (ap (λ (q : Parts). q.mark) e ∙ ap g b.0, ap (λ (q : Parts). q.values) e ∙ ap vals b.1)
