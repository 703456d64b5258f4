-- What is decided of a call of a unit from what stands at its place, stored there, is the call's reply.
use mathlib.Core.Path.{◌≡◌, refl, ap, ◌∙◌}
use mathlib.Core.List.{List}
use Prim.Native.Nat.{ℕ, ◌-◌}
use lib.ListN.{get_or, set}
use Rattle.basis.proofs.Choice.{handed_on}
use Rattle.quantities.specs.Limits.{units}
use Rattle.quantities.specs.Refusals.{Decided, Refused, Stored}
use Rattle.table.specs.Ranges.{call_number}
use Rattle.table.specs.declared.calls.Call.TheVariants as call
use Rattle.table.specs.declared.units.UnitCall.{UnitCall}
use Rattle.table.proofs.UnitLaws.{unit-numbered}
use Rattle.state.specs.declared.kept.Stage.TheVariants.{Gathering}
use Rattle.state.specs.declared.kept.Unit.{Unit}
use Rattle.state.specs.declared.kept.Book.{Book}
use Rattle.state.specs.State.{Reply, fresh_unit, with_units, ranged, staged, reply_with}
use Rattle.state.specs.Places.{place_of}
use Rattle.gathering.specs.Units.{unit_rest, unit_after, unit_number, after_unit, unit_of, unit_answer_of}
use Rattle.state.proofs.Placed.{own_place}
use Rattle.state.proofs.Replies.{by_number, replies_agree, ranges_alone}

-- an answer is stored
abbrev pub settled_unit : Book → ℕ → Decided Unit → Reply
settled_unit b place (Refused number) = reply_with number b
settled_unit b place (Stored u) = reply_with 0 (with_units b (set b.units place u))

module _ (b : Book) (unit : ℕ) (act : UnitCall) (rs : List ℕ) (place : ℕ) (e : place ≡ place_of units unit) where
  unit_here : call_number (call.Unit unit act) rs ≡ 0 → place ≡ unit - 1
  unit_here z = e ∙ own_place (unit-numbered unit act rs z)

  pub unit_settled : settled_unit b place (unit_answer_of unit act b.stage (get_or b.units place fresh_unit) rs) ≡ unit_of b unit act rs
  unfolding unit_answer_of unit_of unit_number after_unit
  unit_settled =
      let at : ℕ → Unit = λ p. get_or b.units p fresh_unit in
      let left : ℕ → ℕ = λ p. staged Gathering b.stage (unit_rest act (at p) rs) in
      let new : ℕ → Book = λ p. with_units b (set b.units p (unit_after act (at p) rs)) in
      let n : ℕ = ranged (call.Unit unit act) rs (left place) in
      by_number (settled_unit b place) (Stored (unit_after act (at place) rs)) Refused b (new place) n refl (λ m. refl)
      ∙ replies_agree n (ranged (call.Unit unit act) rs (left (unit - 1))) b (new place) (new (unit - 1))
      (ranges_alone (call.Unit unit act) rs (left place) (left (unit - 1)) (λ z. ap left (unit_here z)))
      (λ z. ap new (unit_here (handed_on (call_number (call.Unit unit act) rs) (left place) z).0))
