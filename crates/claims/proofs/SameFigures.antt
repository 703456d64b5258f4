-- The figures of a history that a further call leaves as they were.
use Rattle.std.specs.Prelude.{Option, Some}
use Rattle.state.specs.declared.kept.Entry.{Entry}
use mathlib.Core.Path.{◌≡◌, refl, ap, ◌∙◌}
use mathlib.Core.Bool.{Bool, true, false}
use mathlib.Core.List.{List, ◌∷◌}
use Prim.Native.Nat.{ℕ, suc, ◌+◌}
use native.Mathlib.Nat.{zero-add}
use lib.Dec.{eqb}
use Rattle.basis.specs.Choice.{pick}
use Rattle.basis.proofs.Tables.{tab_same}
use Rattle.quantities.specs.Limits.{units, consumers}
use Rattle.power.specs.declared.component.Component.{Component}
use Rattle.table.specs.Records.{CallName}
use Rattle.table.specs.Records as name
use Rattle.state.specs.declared.kept.Unit.{Unit}
use Rattle.state.specs.declared.kept.Declaration.{Declaration}
use Rattle.state.specs.declared.kept.Consumer.{Consumer}
use Rattle.book.specs.Lists.{Event}
use Rattle.claims.specs.History.{is_a, field, about, about_pair, last_that, field_in, happened, begun_in, fixed_in, closed_in, hours_in, dmp_in, declared_in, metered_in, mean_in, sum_over, entry_by, entry_in, component_in}
use Rattle.claims.specs.Figures.{unit_in, units_in, declarations_in, demand_in, declaration_by, reading_by, consumer_in, consumers_in}

pub unit_is : {a b : Option Entry} {s t g k x y : Component} → a ≡ b → s ≡ t → g ≡ k → x ≡ y → ◌≡◌ {A = Unit} (record { enrolment = a; components = record { set = s; generator = g; storage = x } }) (record { enrolment = b; components = record { set = t; generator = k; storage = y } })
unit_is p q r s = λ i. record { enrolment = p i; components = record { set = q i; generator = r i; storage = s i } }

pub consumer_is : {a b : Declaration} {r s m n : Option ℕ} → a ≡ b → r ≡ s → m ≡ n → ◌≡◌ {A = Consumer} (record { declaration = a; reading = r; mean = m }) (record { declaration = b; reading = s; mean = n })
consumer_is p q r = λ i. record { declaration = p i; reading = q i; mean = r i }

module _ (e : Event) (h : List Event) where
  pub last_as_before : (kind : Event → Bool) → kind e ≡ false → last_that kind (e ∷ h) ≡ last_that kind h
  unfolding last_that
  last_as_before kind q = ap (λ t. pick t (Some e) (last_that kind h)) q

  pub last_this : (kind : Event → Bool) → kind e ≡ true → last_that kind (e ∷ h) ≡ Some e
  unfolding last_that
  last_this kind q = ap (λ t. pick t (Some e) (last_that kind h)) q

  pub about-other : (n : CallName) (x : ℕ) → is_a n e ≡ false → about n x e ≡ false
  about-other n x q = ap (λ t. pick t (eqb (field 0 e) x) false) q

  pub about_this : (n : CallName) (x : ℕ) → is_a n e ≡ true → about n x e ≡ eqb (field 0 e) x
  about_this n x q = ap (λ t. pick t (eqb (field 0 e) x) false) q

  pub pair_other : (n : CallName) (x y : ℕ) → is_a n e ≡ false → about_pair n x y e ≡ false
  pair_other n x y q = ap (λ t. pick t (eqb (field 1 e) y) false) (about-other n x q)

  pub pair_this : (n : CallName) (x y : ℕ) → is_a n e ≡ true → about_pair n x y e ≡ pick (eqb (field 0 e) x) (eqb (field 1 e) y) false
  pair_this n x y q = ap (λ t. pick t (eqb (field 1 e) y) false) (about_this n x q)

  -- the last call of a name about a number
  pub about_as_before : (n : CallName) (x : ℕ) → is_a n e ≡ false → last_that (about n x) (e ∷ h) ≡ last_that (about n x) h
  about_as_before n x q = last_as_before (about n x) (about-other n x q)

  pub about-last : (n : CallName) (x : ℕ) → is_a n e ≡ true → eqb (field 0 e) x ≡ true → last_that (about n x) (e ∷ h) ≡ Some e
  about-last n x q r = last_this (about n x) (about_this n x q ∙ r)

  -- and where the call is of that name, about another number
  pub about_another : (n : CallName) (x : ℕ) → eqb (field 0 e) x ≡ false → last_that (about n x) (e ∷ h) ≡ last_that (about n x) h
  about_another n x q = last_as_before (about n x) (ap (λ t. pick (is_a n e) t false) q ∙ no (is_a n e))
    where
      no : (t : Bool) → pick t false false ≡ false
      no true = refl
      no false = refl

  pub sum_as_before : (n : CallName) (p c : ℕ) → is_a n e ≡ false → sum_over n p c (e ∷ h) ≡ sum_over n p c h
  unfolding sum_over
  sum_as_before n p c q =
      ap (λ t. pick t (field 2 e) 0 + sum_over n p c h) (pair_other n p c q) ∙ zero-add (sum_over n p c h)

  pub hours_as_before : is_a name.Year e ≡ false → hours_in (e ∷ h) ≡ hours_in h
  hours_as_before q =
      ap (λ y. record { nhrm = field_in 0 y; nhmd = field_in 1 y; ndhmd = field_in 2 y }) (last_as_before (is_a name.Year) q)

  pub begun_as_before : is_a name.Year e ≡ false → begun_in (e ∷ h) ≡ begun_in h
  begun_as_before q = ap happened (last_as_before (is_a name.Year) q)

  pub fixed_as_before : is_a name.Fix e ≡ false → fixed_in (e ∷ h) ≡ fixed_in h
  fixed_as_before q = ap happened (last_as_before (is_a name.Fix) q)

  pub closed_as_before : is_a name.Close e ≡ false → closed_in (e ∷ h) ≡ closed_in h
  closed_as_before q = ap happened (last_as_before (is_a name.Close) q)

  pub dmp_as_before : is_a name.Fix e ≡ false → dmp_in (e ∷ h) ≡ dmp_in h
  dmp_as_before q = ap (field_in 0) (last_as_before (is_a name.Fix) q)

  pub entry_as_before : is_a name.Unit e ≡ false → (u : ℕ) → entry_in (e ∷ h) u ≡ entry_in h u
  entry_as_before q u = ap entry_by (about_as_before name.Unit u q)

  pub component_as_before : is_a name.Test e ≡ false → is_a name.Availability e ≡ false → (u k : ℕ) → component_in (e ∷ h) u k ≡ component_in h u k
  unfolding component_in
  component_as_before q r u k = simp (pair_other name.Test u k q, pair_other name.Availability u k r)

  -- a test or an availability of another unit
  pub component_another : (u k : ℕ) → eqb (field 0 e) u ≡ false → component_in (e ∷ h) u k ≡ component_in h u k
  unfolding component_in
  component_another u k q = simp (none name.Test, none name.Availability)
    where
      none : (n : CallName) → about_pair n u k e ≡ false
      none n = ap (λ t. pick (pick (is_a n e) t false) (eqb (field 1 e) k) false) q ∙ no (is_a n e)
        where
          no : (t : Bool) → pick (pick t false false) (eqb (field 1 e) k) false ≡ false
          no true = refl
          no false = refl

  pub units_as_before : is_a name.Unit e ≡ false → is_a name.Test e ≡ false → is_a name.Availability e ≡ false → units_in (e ∷ h) ≡ units_in h
  unfolding units_in
  units_as_before a b c =
      tab_same (λ i. unit_in (e ∷ h) (suc i)) (λ i. unit_in h (suc i)) units
      (λ k p. unit_is (entry_as_before a (suc k)) (component_as_before b c (suc k) 0) (component_as_before b c (suc k) 1) (component_as_before b c (suc k) 2))

  pub declarations_as_before : is_a name.Declare e ≡ false → declarations_in (e ∷ h) ≡ declarations_in h
  unfolding declarations_in
  declarations_as_before q =
      tab_same (λ i. field_in 1 (declared_in (e ∷ h) (suc i))) (λ i. field_in 1 (declared_in h (suc i))) consumers
      (λ k p. ap (field_in 1) (about_as_before name.Declare (suc k) q))

  pub demand_as_before : is_a name.Declare e ≡ false → is_a name.Fix e ≡ false → (c : ℕ) → demand_in (e ∷ h) c ≡ demand_in h c
  unfolding demand_in
  demand_as_before a b c = rw (fixed_as_before b, dmp_as_before b, declarations_as_before a)

  consumer_same : (c : ℕ) → demand_in (e ∷ h) c ≡ demand_in h c → declared_in (e ∷ h) c ≡ declared_in h c → metered_in (e ∷ h) c ≡ metered_in h c → mean_in (e ∷ h) c ≡ mean_in h c → consumer_in (e ∷ h) c ≡ consumer_in h c
  consumer_same c df d m v =
      consumer_is (ap (λ n. declaration_by n (declared_in (e ∷ h) c)) df ∙ ap (declaration_by (demand_in h c)) d) (ap reading_by m) (ap reading_by v)

  pub consumer_as_before : is_a name.Declare e ≡ false → is_a name.Fix e ≡ false → is_a name.Meter e ≡ false → is_a name.Mean e ≡ false → (c : ℕ) → consumer_in (e ∷ h) c ≡ consumer_in h c
  consumer_as_before a b m v c =
      consumer_same c (demand_as_before a b c) (about_as_before name.Declare c a) (about_as_before name.Meter c m) (about_as_before name.Mean c v)

  -- a declaration, a reading or a mean of another consumer
  pub consumer_another : (c : ℕ) → eqb (field 0 e) c ≡ false → demand_in (e ∷ h) c ≡ demand_in h c → consumer_in (e ∷ h) c ≡ consumer_in h c
  consumer_another c q df = consumer_same c df (about_another name.Declare c q) (about_another name.Meter c q) (about_another name.Mean c q)

  pub consumers_as_before : is_a name.Declare e ≡ false → is_a name.Fix e ≡ false → is_a name.Meter e ≡ false → is_a name.Mean e ≡ false → consumers_in (e ∷ h) ≡ consumers_in h
  unfolding consumers_in
  consumers_as_before a b m v =
      tab_same (λ i. consumer_in (e ∷ h) (suc i)) (λ i. consumer_in h (suc i)) consumers (λ k p. consumer_as_before a b m v (suc k))
