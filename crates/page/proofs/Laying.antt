-- The pages, line by line: each line behind its heading where a page begins.
use mathlib.Core.Path.{◌≡◌, refl, sym, ap, ◌∙◌}
use mathlib.Core.Bool.{Bool, true, false}
use mathlib.Core.List.{List, [], ◌∷◌, ◌++◌, map, append_assoc, append-nil}
use Prim.Native.Nat.{ℕ, zero, suc, ◌+◌, ◌*◌, ◌/◌, ◌%◌, ◌≤◌}
use native.Mathlib.Nat.{add-zero, zero-add}
use native.Mathlib.Numerals.{add-one}
use native.Mathlib.Omega.{arith}
use borrow.Author.Tests.{leb-true, leb-false}
use lib.Dec.{leb}
use lib.ListN.{length, take, drop, length-append, length-drop, length-take, take-append-drop, drop_of_length-le}
use lib.Seq.{length-take-le}
use Rattle.page.specs.Page.{heading, heading_behind, flat, page, page_lines, page_count, pages_from, pages_of, line_length, bytes_for}
use Rattle.page.proofs.Lengths.{begins, goes_on, one_more}

-- lines from a place in the text on, so many lines standing before them
unfoldable laid : ℕ → List (List ℕ) → List ℕ
laid j [] = []
laid j (line ∷ lines) = (heading_behind j ++ line) ++ laid (suc j) lines

laid_append : (j : ℕ) (a b : List (List ℕ)) → laid j (a ++ b) ≡ laid j a ++ laid (j + length a) b
unfolding laid
laid_append j [] b = ap (λ n. laid n b) (sym (add-zero j))
laid_append j (x ∷ a) b =
    let e : suc j + length a ≡ j + suc (length a) = omega arith in
    ap (λ (l : List ℕ). (heading_behind j ++ x) ++ l) (laid_append (suc j) a b ∙ ap (λ n. laid (suc j) a ++ laid n b) e)
    ∙ sym (append_assoc (heading_behind j ++ x) (laid (suc j) a) (laid (j + suc (length a)) b))

-- lines within a page
laid_inside : (q r : ℕ) (lines : List (List ℕ)) → 1 ≤ r → r + length lines ≤ page_lines → laid (page_lines * q + r) lines ≡ flat lines
unfolding laid flat
laid_inside q r [] h k = refl
laid_inside q r (x ∷ lines) h k =
    let e : suc (page_lines * q + r) ≡ page_lines * q + suc r = omega arith in
    ap (λ (l : List ℕ). (l ++ x) ++ laid (suc (page_lines * q + r)) lines) (goes_on (page_lines * q + r) (λ z. absurd (omega (arith, z))))
    ∙ ap (λ (l : List ℕ). x ++ l) (ap (λ n. laid n lines) e ∙ laid_inside q (suc r) lines (omega arith) (omega arith))

-- a page with its heading
laid_page : (q : ℕ) (x : List ℕ) (lines : List (List ℕ)) → suc (length lines) ≤ page_lines → laid (page_lines * q) (x ∷ lines) ≡ page (q + 1) (x ∷ lines)
unfolding laid flat page
laid_page q x lines k =
    let z : (page_lines * q) % page_lines ≡ 0 = omega arith in
    let n : (page_lines * q) / page_lines ≡ q = omega arith in
    let e : suc (page_lines * q) ≡ page_lines * q + 1 = omega arith in
    ap (λ (l : List ℕ). (l ++ x) ++ laid (suc (page_lines * q)) lines) (begins (page_lines * q) z ∙ ap (λ m. heading (m + 1)) n)
    ∙ ap (λ (l : List ℕ). (heading (q + 1) ++ x) ++ l) (ap (λ m. laid m lines) e ∙ laid_inside q 1 lines (omega arith) (omega arith))
    ∙ append_assoc (heading (q + 1)) x (flat lines)

-- behind a page stands the next one, or nothing
laid_behind : (q : ℕ) (lines : List (List ℕ)) → laid (page_lines * q + length (take page_lines lines)) (drop page_lines lines) ≡ laid (page_lines * (q + 1)) (drop page_lines lines)
unfolding laid
laid_behind q lines = go (leb page_lines (length lines)) refl
  where
    go : (t : Bool) → leb page_lines (length lines) ≡ t → laid (page_lines * q + length (take page_lines lines)) (drop page_lines lines) ≡ laid (page_lines * (q + 1)) (drop page_lines lines)
    go true e =
        let n : page_lines * q + length (take page_lines lines) ≡ page_lines * (q + 1) = omega (arith, length-take-le page_lines lines (leb-true page_lines (length lines) e)) in
        ap (λ m. laid m (drop page_lines lines)) n
    go false e =
        rw (drop_of_length-le lines {i = page_lines} (omega (arith, leb-false page_lines (length lines) e))) refl

pages_laid : (m q : ℕ) (lines : List (List ℕ)) → m ≡ page_count (length lines) → pages_from m (q + 1) lines ≡ laid (page_lines * q) lines
unfolding pages_from laid
pages_laid zero q [] e = refl
pages_laid zero q (x ∷ lines) e = absurd (omega (arith, e))
pages_laid (suc m) q [] e = absurd (omega (arith, e))
pages_laid (suc m) q (x ∷ lines) e =
    let all = x ∷ lines in
    let count : m ≡ page_count (length (drop page_lines all)) = omega (arith, e, length-drop page_lines all) in
    ap (λ n. page (q + 1) (take page_lines all) ++ pages_from m n (drop page_lines all)) (sym (add-one (q + 1)))
    ∙ ap (λ (l : List ℕ). page (q + 1) (take page_lines all) ++ l) (pages_laid m (q + 1) (drop page_lines all) count ∙ sym (laid_behind q all))
    ∙ ap (λ (l : List ℕ). l ++ laid (page_lines * q + length (take page_lines all)) (drop page_lines all)) (sym (laid_page q x (take 49 lines) (omega (arith, length-take 49 lines))))
    ∙ sym (laid_append (page_lines * q) (take page_lines all) (drop page_lines all))
    ∙ ap (laid (page_lines * q)) (take-append-drop page_lines all)

as_laid : (lines : List (List ℕ)) → pages_of lines ≡ laid 0 lines
unfolding pages_of
as_laid lines = pages_laid (page_count (length lines)) 0 lines refl

-- no line, no page
pub no_pages : pages_of [] ≡ []
unfolding laid
no_pages = as_laid []

-- one line more
pub pages_more : (lines : List (List ℕ)) (line : List ℕ) → pages_of (lines ++ (line ∷ [])) ≡ pages_of lines ++ (heading_behind (length lines) ++ line)
unfolding laid
pages_more lines line =
    as_laid (lines ++ (line ∷ []))
    ∙ laid_append 0 lines (line ∷ [])
    ∙ ap (λ (l : List ℕ). l ++ laid (0 + length lines) (line ∷ [])) (sym (as_laid lines))
    ∙ ap (λ n. pages_of lines ++ laid n (line ∷ [])) (zero-add (length lines))
    ∙ ap (λ (l : List ℕ). pages_of lines ++ l) (append-nil (heading_behind (length lines) ++ line))

-- the bytes of lines that are all as long
module _ (f : ℕ → List ℕ) (long : (c : ℕ) → length (f c) ≡ line_length) where
  laid_length : (j : ℕ) (numbers : List ℕ) → length (laid j (map f numbers)) + bytes_for j ≡ bytes_for (j + length numbers)
  unfolding laid
  laid_length j [] = omega arith
  laid_length j (c ∷ numbers) =
      omega (arith, length-append (heading_behind j ++ f c) (laid (suc j) (map f numbers)), length-append (heading_behind j) (f c), long c, laid_length (suc j) numbers, one_more j)

  pub pages-length : (numbers : List ℕ) → length (pages_of (map f numbers)) ≡ bytes_for (length numbers)
  pages-length numbers = omega (arith, ap length (as_laid (map f numbers)), laid_length 0 numbers)
