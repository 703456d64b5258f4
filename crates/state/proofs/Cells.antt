-- Cells and rows of balances: each pair of a producer and a consumer has one cell, in its producer's row.
use mathlib.Core.Path.{◌≡◌, refl, sym, ap, ◌∙◌}
use mathlib.Core.Bool.{Bool, true, false}
use mathlib.Core.List.{List}
use Prim.Native.Nat.{ℕ, suc, ◌+◌, ◌-◌, ◌*◌, ◌≤◌, ◌<◌}
use native.Mathlib.Nat.{mul-le-mul_right, suc-mul}
use native.Mathlib.Omega.{arith}
use borrow.Author.Tests.{leb-true, leb-false}
use lib.Dec.{leb}
use lib.ListN.{length, get_or, set, take, drop, length-take, length-drop}
use lib.Seq.{drop-set-lt, drop-set-add, take-set-lt, take-set-le, get_or-take, get_or-drop}
use Rattle.basis.specs.Sums.{sum}
use Rattle.basis.proofs.Sums.{sum-set}
use Rattle.quantities.specs.Limits.{producers, consumers}
use Rattle.state.specs.State.{cells, cell_of, row_of}

-- rows of n cells: the row before another ends where that begins
pub row_before : (n a b : ℕ) → a < b → a * n + n ≤ b * n
row_before n a b h = omega (arith, mul-le-mul_right {m = suc a} {n = b} n h, suc-mul a n)

-- one pair, one cell
pub same_cell : (p c q d : ℕ) → 1 ≤ p → 1 ≤ c → c ≤ consumers → 1 ≤ q → 1 ≤ d → d ≤ consumers → cell_of p c ≡ cell_of q d → (p ≡ q) × (c ≡ d)
same_cell p c q d hp hc kc hq hd kd e = (omega arith, omega arith)

pub cell_within : (p c : ℕ) → 1 ≤ p → p ≤ producers → 1 ≤ c → c ≤ consumers → cell_of p c < cells
cell_within p c a b d e = omega arith

module _ (l : List ℕ) (whole : length l ≡ cells) (p c v : ℕ) (lp : 1 ≤ p) (up : p ≤ producers) (lc : 1 ≤ c) (uc : c ≤ consumers) where
  -- the row in which the cell stands
  pub row_set : row_of (set l (cell_of p c) v) p ≡ set (row_of l p) (c - 1) v
  row_set =
      ap (take consumers) (drop-set-add ((p - 1) * consumers) l (c - 1) v)
      ∙ take-set-lt consumers (drop ((p - 1) * consumers) l) (c - 1) v (omega arith)

  pub length_row : length (row_of l p) ≡ consumers
  length_row =
      length-take consumers (drop ((p - 1) * consumers) l)
      ∙ omega (arith, length-drop ((p - 1) * consumers) l, row_before consumers (p - 1) producers (omega arith))

  pub cell_in_row : get_or (row_of l p) (c - 1) 0 ≡ get_or l (cell_of p c) 0
  cell_in_row =
      get_or-take consumers (drop ((p - 1) * consumers) l) (c - 1) 0 (omega arith) ∙ get_or-drop ((p - 1) * consumers) l (c - 1) 0

  pub sum_row_set : sum (row_of (set l (cell_of p c) v) p) + get_or l (cell_of p c) 0 ≡ sum (row_of l p) + v
  sum_row_set =
      ap (λ r. sum r + get_or l (cell_of p c) 0) row_set
      ∙ ap (λ x. sum (set (row_of l p) (c - 1) v) + x) (sym cell_in_row)
      ∙ sum-set (row_of l p) (c - 1) v (omega (arith, length_row))

  -- another row
  pub row_other : (q : ℕ) → 1 ≤ q → (q ≡ p → ⊥) → row_of (set l (cell_of p c) v) q ≡ row_of l q
  row_other q hq o = go (leb q p) refl
    where
      go : (t : Bool) → leb q p ≡ t → row_of (set l (cell_of p c) v) q ≡ row_of l q
      go true e =
          let below = leb-true q p e in
          let r = row_before consumers (q - 1) (p - 1) (omega arith) in
          let far : cell_of p c ≡ (q - 1) * consumers + (cell_of p c - (q - 1) * consumers) = omega arith in
          ap (λ i. take consumers (drop ((q - 1) * consumers) (set l i v))) far
          ∙ ap (take consumers) (drop-set-add ((q - 1) * consumers) l (cell_of p c - (q - 1) * consumers) v)
          ∙ take-set-le consumers (drop ((q - 1) * consumers) l) (cell_of p c - (q - 1) * consumers) v (omega arith)
      go false e =
          let above = leb-false q p e in
          let r = row_before consumers (p - 1) (q - 1) (omega arith) in
          ap (take consumers) (drop-set-lt ((q - 1) * consumers) l (cell_of p c) v (omega arith))
