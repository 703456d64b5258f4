-- What is promised of the pages, beyond their own definition.
use Rattle.std.specs.Prelude.{◌≡◌, List, [], ◌∷◌, ◌++◌, ℕ, suc, ◌+◌, ◌*◌, ◌≤◌, ◌<◌, length, take, drop, codes}
use Rattle.text.specs.Text.{joined}
use Rattle.page.specs.Page.{line_of, page, page_lines, page_count, pages_of}

-- the lines of a page, pages counted from 0
abbrev pub lines_on : List (List ℕ) → ℕ → List (List ℕ)
lines_on lines k = take page_lines (drop (page_lines * k) lines)

pub record Paged (lines : List (List ℕ)) : Type 0 where
  -- "Pages count from 1", one after the other
  pub pages : pages_of lines ≡ joined (λ k. page (k + 1) (lines_on lines k)) (page_count (length lines))
  -- "all but the last carry 50 consumers, the last 1 to 50"
  pub full : (k : ℕ) → suc k < page_count (length lines) → length (lines_on lines k) ≡ page_lines
  pub last : (k : ℕ) → suc k ≡ page_count (length lines) → (1 ≤ length (lines_on lines k)) × (length (lines_on lines k) ≤ page_lines)
  -- 51 consumers make two pages, of 50 and 1
  pub fifty_one : length lines ≡ 51 → (pages_of lines ≡ page 1 (take 50 lines) ++ page 2 (drop 50 lines)) × (length (take 50 lines) ≡ 50) × (length (drop 50 lines) ≡ 1)

abbrev pub AlwaysPaged : Type 0
AlwaysPaged = (lines : List (List ℕ)) → Paged lines

-- the printed close of document 01's case J
abbrev pub CaseJ : Type 0
CaseJ =
    pages_of (line_of 1 3334 3000 0 7123560 ∷ line_of 2 3333 4000 7123560 0 ∷ line_of 3 3333 3333 0 0 ∷ [])
    ≡ codes "PAGE    1                           \n"
    ++ (codes "  1    3334      334         7123560\n"
    ++ (codes "  2    3333     -667        -7123560\n"
    ++ codes "  3    3333        0               0\n"))
