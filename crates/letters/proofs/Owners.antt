-- Whose units they are.
use Rattle.std.proofs.Common.{◌≡◌, Bool, true, false, ℕ, List, [], ◌∷◌, ◌||◌, eqb, length, get_or, map, refl, sym, ap, ◌∙◌, arith}
use Rattle.std.specs.List.{list_any}
use Rattle.std.proofs.lemmas.List.{get_or-map, length-map}
use Rattle.basis.specs.Choice.{pick}
use Rattle.basis.specs.Tables.{tab}
use Rattle.basis.proofs.Tables.{tab_of, tab_same}
use Rattle.quantities.specs.Limits.{units}
use Rattle.state.specs.declared.kept.Unit.{Unit}
use Rattle.state.specs.State.{fresh_unit}
use Rattle.fix.specs.Fix.{producer_by}
use Rattle.letters.specs.Letters.{owner_at, owners_of, owns}

abbrev owner : Unit → ℕ
owner u = producer_by u.enrolment

either : (b c : Bool) → pick b true c ≡ (b || c)
either true c = refl
either false c = refl

owns_map : (us : List Unit) (p : ℕ) → owns (map owner us) p ≡ list_any (λ u. eqb (owner u) p) us
unfolding owns
owns_map [] p = refl
owns_map (u ∷ us) p =
    either (eqb (owner u) p) (owns (map owner us) p) ∙ ap (λ b. eqb (owner u) p || b) (owns_map us p)

owners_map : (us : List Unit) → length us ≡ units → owners_of us ≡ map owner us
unfolding owners_of
owners_map us h =
    tab_same (owner_at us) (λ k. get_or (map owner us) k 0) units (λ k below. sym (get_or-map owner us k fresh_unit 0 (omega arith)))
    ∙ ap (λ n. tab (λ k. get_or (map owner us) k 0) n) (sym (length-map us owner ∙ h))
    ∙ tab_of (map owner us) 0

-- a producer has a unit where one of the units is its own
pub owns_some : (us : List Unit) (p : ℕ) → length us ≡ units → owns (owners_of us) p ≡ list_any (λ u. eqb (owner u) p) us
owns_some us p h = ap (λ (l : List ℕ). owns l p) (owners_map us h) ∙ owns_map us p
