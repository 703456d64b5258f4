-- The pages one after the other, and how many lines each carries.
use mathlib.Core.Path.{◌≡◌, refl, ap, ◌∙◌}
use mathlib.Core.List.{List, ◌++◌, append-nil}
use Prim.Native.Nat.{ℕ, zero, suc, ◌+◌, ◌-◌, ◌*◌, ◌≤◌}
use native.Mathlib.Omega.{arith}
use lib.ListN.{length, take, drop, length-drop}
use lib.Seq.{take_all, length-take-le, drop-drop}
use Rattle.text.specs.Text.{amount_of, decimal, digits, joined, joined_from}
use Rattle.text.specs.Columns.{column}
use Rattle.page.specs.Page.{line_with, heading_with, flat, page, page_lines, page_count, pages_from, pages_of}
use Rattle.page.specs.Promises.{lines_on, AlwaysPaged, CaseJ}

module _ (lines : List (List ℕ)) where
  abbrev page_at : ℕ → List ℕ
  page_at k = page (k + 1) (lines_on lines k)

  pages_from_lem : (m k : ℕ) → pages_from m (k + 1) (drop (page_lines * k) lines) ≡ joined_from page_at k m
  unfolding pages_from joined_from
  pages_from_lem zero k = refl
  pages_from_lem (suc m) k =
      let n : suc (k + 1) ≡ suc k + 1 = omega arith in
      let e : page_lines * k + page_lines ≡ page_lines * suc k = omega arith in
      ap (λ (l : List ℕ). page_at k ++ l)
      (ap (λ j. pages_from m j (drop page_lines (drop (page_lines * k) lines))) n
      ∙ ap (pages_from m (suc k + 1)) (drop-drop page_lines (page_lines * k) lines ∙ ap (λ j. drop j lines) e)
      ∙ pages_from_lem m (suc k))

  all_pages : pages_of lines ≡ joined page_at (page_count (length lines))
  unfolding pages_of
  all_pages = pages_from_lem (page_count (length lines)) 0

  on_page : (k : ℕ) → page_lines * k + page_lines ≤ length lines → length (lines_on lines k) ≡ page_lines
  on_page k h = length-take-le page_lines (drop (page_lines * k) lines) (omega (arith, length-drop (page_lines * k) lines))

  on_last : (k : ℕ) → length lines ≤ page_lines * k + page_lines → length (lines_on lines k) ≡ length lines - page_lines * k
  on_last k h =
      ap length (take_all page_lines (drop (page_lines * k) lines) (omega (arith, length-drop (page_lines * k) lines))) ∙ length-drop (page_lines * k) lines

  two_pages : length lines ≡ 51 → pages_of lines ≡ page 1 (take 50 lines) ++ page 2 (drop 50 lines)
  unfolding joined_from
  two_pages e =
      all_pages
      ∙ ap (λ n. joined page_at (page_count n)) e
      ∙ ap (λ (l : List ℕ). page 1 (take 50 lines) ++ l) (append-nil (page 2 (take 50 (drop 50 lines))))
      ∙ ap (λ (l : List (List ℕ)). page 1 (take 50 lines) ++ page 2 l) (take_all 50 (drop 50 lines) (omega (arith, length-drop 50 lines, e)))

pub always_paged : AlwaysPaged
always_paged lines =
    record {
      pages = all_pages lines;
      full = λ k h. on_page lines k (omega arith);
      last = λ k h. (omega (arith, on_last lines k (omega (arith, h)), h), omega (arith, on_last lines k (omega (arith, h)), h));
      fifty_one = λ e. (two_pages lines e, length-take-le 50 lines (omega (arith, e)), length-drop 50 lines ∙ ap (λ n. n - 50) e);
    }

pub case_j : CaseJ
unfolding pages_of pages_from page flat heading_with line_with column amount_of decimal digits
case_j = refl
