-- Which parts of the book, and of what is told of it, a call touches.
use mathlib.Core.Path.{◌≡◌, refl, sym, ap, ◌∙◌}
use mathlib.Core.Bool.{Bool, true, false, false≢true}
use mathlib.Core.List.{List, [], ◌∷◌}
use Prim.Native.Nat.{ℕ}
use borrow.Author.Tests.{eqb-true}
use lib.Dec.{eqb}
use lib.ListN.{get_or}
use Rattle.basis.specs.Choice.{pick}
use Rattle.table.specs.Records.{CallName, name_of, name_number}
use Rattle.book.specs.Lists.{Event}
use Rattle.claims.specs.History.{is_a}

pub data Part : Type 0 where
  -- stage, hours and DMP
  the_timing : Part
  -- units with their components
  the_plants : Part
  -- declarations with their firm demands, readings and means
  the_consumers : Part
  -- balances, and the limits of producers
  the_contracts : Part
  -- what the fix finds: offers, efficient offers, limits
  the_firm_year : Part
  -- what the fix works from: hours, units, declarations and DMP
  the_grounds : Part
  -- the figures of the close
  the_money : Part

abbrev pub part_number : Part → ℕ
part_number the_timing = 0
part_number the_plants = 1
part_number the_consumers = 2
part_number the_contracts = 3
part_number the_firm_year = 4
part_number the_grounds = 5
part_number the_money = 6

-- the table: a line for each call, in the order of the calls' numbers
abbrev pub parts_touched : List (List Part)
parts_touched =
    -- year
    (the_timing ∷ the_grounds ∷ [])
    -- unit
    ∷ (the_plants ∷ the_grounds ∷ [])
    -- test
    ∷ (the_plants ∷ the_grounds ∷ [])
    -- availability
    ∷ (the_plants ∷ the_grounds ∷ [])
    -- declare
    ∷ (the_consumers ∷ the_grounds ∷ [])
    -- fix
    ∷ (the_timing ∷ the_consumers ∷ the_contracts ∷ the_firm_year ∷ the_grounds ∷ [])
    -- commit
    ∷ (the_contracts ∷ [])
    -- release
    ∷ (the_contracts ∷ [])
    -- meter
    ∷ (the_consumers ∷ [])
    -- close
    ∷ (the_timing ∷ the_money ∷ [])
    -- mean
    ∷ (the_consumers ∷ [])
    ∷ []

abbrev pub among : Part → List Part → Bool
among p [] = false
among p (q ∷ qs) = pick (eqb (part_number p) (part_number q)) true (among p qs)

-- the call of this name touches the part
abbrev pub touches : Part → CallName → Bool
touches p n = among p (get_or parts_touched (name_number n) [])

abbrev pub Untouched : Part → Event → Type 0
Untouched p e = touches p (name_of e.call) ≡ false

-- a call that does not touch a part is none of those that do
pub untouched_by : (p : Part) (e : Event) → Untouched p e → (n : CallName) → touches p n ≡ true → is_a n e ≡ false
untouched_by p e u n t = go (is_a n e) refl
  where
    go : (s : Bool) → is_a n e ≡ s → s ≡ false
    go false q = refl
    go true q =
        absurd (false≢true (sym u ∙ ap (λ i. among p (get_or parts_touched i [])) (eqb-true (name_number (name_of e.call)) (name_number n) q) ∙ t))
