-- What stands at a unit and at a consumer of the book, and what a store there makes of the others.
use Rattle.std.specs.Prelude.{Option, None, Some}
use mathlib.Core.Path.{◌≡◌, refl, ap, ◌∙◌}
use mathlib.Core.List.{List, ◌∷◌}
use Prim.Native.Nat.{ℕ, suc, ◌-◌}
use native.Mathlib.Omega.{arith}
use lib.ListN.{get_or, set}
use Rattle.basis.specs.Choice.{pick}
use Rattle.basis.specs.Tables.{tab}
use Rattle.basis.proofs.Tables.{get_or-tab}
use Rattle.quantities.specs.Limits.{units, consumers}
use Rattle.table.proofs.Laws.{Numbered}
use Rattle.state.specs.declared.kept.Unit.{Unit}
use Rattle.state.specs.declared.kept.Consumer.{Consumer}
use Rattle.state.specs.declared.kept.Book.{Book}
use Rattle.state.specs.State.{fresh_unit, fresh_consumer, unit_at, consumer_at}
use Rattle.decision.specs.Consumers.{known}
use Rattle.book.specs.Lists.{Event}
use Rattle.claims.specs.History.{happened, declared_in}
use Rattle.claims.specs.Figures.{unit_in, units_in, demand_in, declaration_by, consumer_in, consumers_in}
use Rattle.claims.specs.Refusals.{declared_to}
use Rattle.claims.proofs.Tables.{tab-set}
use Rattle.claims.proofs.Kept.{Kept}

-- a table by numbers from 1 on
module _ {A : Type 0} (f : ℕ → A) (n : ℕ) (x : ℕ) (p : Numbered n x) where
  pub numbered_at : (d : A) → get_or (tab (λ i. f (suc i)) n) (x - 1) d ≡ f x
  numbered_at d =
      let e : suc (x - 1) ≡ x = omega (arith, p.least) in
      get_or-tab (λ i. f (suc i)) n (x - 1) d (omega (arith, p.least, p.most)) ∙ ap f e

  pub numbered-stored : (g : ℕ → A) (v : A) → g x ≡ v → ((w : ℕ) → (w ≡ x → ⊥) → g w ≡ f w) → set (tab (λ i. f (suc i)) n) (x - 1) v ≡ tab (λ i. g (suc i)) n
  numbered-stored g v this others =
      let e : suc (x - 1) ≡ x = omega (arith, p.least) in
      tab-set (λ i. f (suc i)) (λ i. g (suc i)) n (x - 1) v (omega (arith, p.least, p.most)) (ap g e ∙ this)
      (λ j o. others (suc j) (λ r. o (omega arith)))

-- consumer not declared: number 10
known_in : (df rest : ℕ) (l : Option Event) → known (declaration_by df l) rest ≡ pick (happened l) rest 10
known_in df rest None = refl
known_in df rest (Some e) = refl

module _ (h : List Event) (b : Book) (k : Kept h b) where
  pub unit_at_lem : (u : ℕ) → Numbered units u → unit_at b.units u ≡ unit_in h u
  unfolding units_in
  unit_at_lem u p = ap (λ us. get_or us (u - 1) fresh_unit) k.plants.units_kept ∙ numbered_at (unit_in h) units u p fresh_unit

  pub unit-stored : (e : Event) (u : ℕ) (v : Unit) → Numbered units u → unit_in (e ∷ h) u ≡ v → ((w : ℕ) → (w ≡ u → ⊥) → unit_in (e ∷ h) w ≡ unit_in h w) → set b.units (u - 1) v ≡ units_in (e ∷ h)
  unfolding units_in
  unit-stored e u v p this others =
      ap (λ us. set us (u - 1) v) k.plants.units_kept ∙ numbered-stored (unit_in h) units u p (unit_in (e ∷ h)) v this others

  pub consumer_at_lem : (c : ℕ) → Numbered consumers c → consumer_at b.consumers c ≡ consumer_in h c
  unfolding consumers_in
  consumer_at_lem c p =
      ap (λ xs. get_or xs (c - 1) fresh_consumer) k.consumers.consumers_kept ∙ numbered_at (consumer_in h) consumers c p fresh_consumer

  pub consumer_stored : (e : Event) (c : ℕ) (v : Consumer) → Numbered consumers c → consumer_in (e ∷ h) c ≡ v → ((w : ℕ) → (w ≡ c → ⊥) → consumer_in (e ∷ h) w ≡ consumer_in h w) → set b.consumers (c - 1) v ≡ consumers_in (e ∷ h)
  unfolding consumers_in
  consumer_stored e c v p this others =
      ap (λ xs. set xs (c - 1) v) k.consumers.consumers_kept ∙ numbered-stored (consumer_in h) consumers c p (consumer_in (e ∷ h)) v this others

  pub known_at : (c : ℕ) {mine theirs : ℕ} → Numbered consumers c → mine ≡ theirs → known (consumer_at b.consumers c).declaration mine ≡ declared_to h c theirs
  known_at c {mine} nc e =
      ap (λ (x : Consumer). known x.declaration mine) (consumer_at_lem c nc)
      ∙ known_in (demand_in h c) mine (declared_in h c)
      ∙ ap (λ n. pick (happened (declared_in h c)) n 10) e
