-- The consumers that a history tells of: their declarations as weights, and their firm demands as shares.
use Rattle.std.specs.Prelude.{Option, None, Some}
use mathlib.Core.Path.{◌≡◌, refl, sym, ap, ◌∙◌}
use mathlib.Core.Bool.{true}
use mathlib.Core.List.{List, map}
use Prim.Native.Nat.{ℕ, suc, ◌-◌, ◌≤◌, ◌<◌}
use native.Mathlib.Omega.{arith}
use lib.ListN.{length, get_or}
use Rattle.basis.specs.Tables.{tab}
use Rattle.basis.proofs.Sums.{at_most_sum}
use Rattle.basis.proofs.Tables.{length-tab, get_or-tab, tab_same, tab_of}
use Rattle.share.specs.Division.{division_number, shares}
use Rattle.share.proofs.Accepted.{accepted}
use Rattle.share.proofs.Laws.{length-shares, sum-shares, share_of_zero}
use Rattle.quantities.specs.Limits.{consumers}
use Rattle.state.specs.declared.kept.Consumer.{Consumer}
use Rattle.book.specs.Lists.{Event}
use Rattle.fix.specs.Fix.{declared_by, weights_of}
use Rattle.claims.specs.History.{field_in, fixed_in, dmp_in, declared_in}
use Rattle.claims.specs.Figures.{declarations_in, total_declared_in, demand_in, declaration_by, consumer_in, consumers_in}
use Rattle.state.specs.State.{firm_demand_by}
use Rattle.claims.proofs.Tables.{map-tab}

weight_of : (df : ℕ) (l : Option Event) → declared_by (declaration_by df l) ≡ field_in 1 l
weight_of df None = refl
weight_of df (Some e) = refl

-- the weights of the consumers are their declarations
pub weights_in : (h : List Event) → weights_of (consumers_in h) ≡ declarations_in h
unfolding weights_of consumers_in declarations_in
weights_in h =
    map-tab (λ (x : Consumer). declared_by x.declaration) (λ i. consumer_in h (suc i)) consumers
    ∙ tab_same (λ i. declared_by (consumer_in h (suc i)).declaration) (λ i. field_in 1 (declared_in h (suc i))) consumers (λ k p. weight_of (demand_in h (suc k)) (declared_in h (suc k)))

pub declaration_at : (h : List Event) (i : ℕ) → i < consumers → get_or (declarations_in h) i 0 ≡ field_in 1 (declared_in h (suc i))
unfolding declarations_in
declaration_at h i p = get_or-tab (λ j. field_in 1 (declared_in h (suc j))) consumers i 0 p

pub length_declarations : (h : List Event) → length (declarations_in h) ≡ consumers
unfolding declarations_in
length_declarations h = length-tab (λ j. field_in 1 (declared_in h (suc j))) consumers

-- once the year is fixed
module _ (h : List Event) (fixed : fixed_in h ≡ true) (shared : division_number (dmp_in h) (declarations_in h) consumers ≡ 0) where
  pub total_positive : 0 < total_declared_in h
  total_positive = (accepted (dmp_in h) (declarations_in h) consumers shared).positive

  pub demand_at : (i : ℕ) → demand_in h (suc i) ≡ get_or (shares (dmp_in h) (declarations_in h)) i 0
  unfolding demand_in
  demand_at i = let e : suc i - 1 ≡ i = omega arith in rw (fixed, e)

  pub demand_at_most : (i : ℕ) → demand_in h (suc i) ≤ dmp_in h
  demand_at_most i =
      omega (arith, demand_at i, at_most_sum (shares (dmp_in h) (declarations_in h)) i, sum-shares (dmp_in h) (declarations_in h) total_positive)

  -- the firm demand in a declaration, where the undeclared have 0
  of_declaration : (i : ℕ) → i < consumers → (l : Option Event) → declared_in h (suc i) ≡ l → firm_demand_by (declaration_by (demand_in h (suc i)) l) ≡ get_or (shares (dmp_in h) (declarations_in h)) i 0
  of_declaration i p None q =
      sym (share_of_zero (dmp_in h) (declarations_in h) total_positive i (declaration_at h i p ∙ ap (field_in 1) q))
  of_declaration i p (Some e) q = demand_at i

  pub demand_in_lem : (i : ℕ) → i < consumers → firm_demand_by (consumer_in h (suc i)).declaration ≡ get_or (shares (dmp_in h) (declarations_in h)) i 0
  demand_in_lem i p = of_declaration i p (declared_in h (suc i)) refl

  pub demands_in : map (λ (x : Consumer). firm_demand_by x.declaration) (consumers_in h) ≡ shares (dmp_in h) (declarations_in h)
  unfolding consumers_in
  demands_in =
      map-tab (λ (x : Consumer). firm_demand_by x.declaration) (λ i. consumer_in h (suc i)) consumers
      ∙ tab_same (λ i. firm_demand_by (consumer_in h (suc i)).declaration) (λ i. get_or (shares (dmp_in h) (declarations_in h)) i 0) consumers (λ i p. demand_in_lem i p)
      ∙ ap (λ n. tab (λ i. get_or (shares (dmp_in h) (declarations_in h)) i 0) n) (sym (length-shares (dmp_in h) (declarations_in h) ∙ length_declarations h))
      ∙ tab_of (shares (dmp_in h) (declarations_in h)) 0
