-- Every line has 36 columns and a line feed, and how many bytes lines and headings take.
use Rattle.std.proofs.Common.{◌≡◌, ℕ, ◌+◌, ◌/◌, ◌%◌, ◌≤◌, [], length, arith}
use Rattle.std.proofs.lemmas.Grind.{common_steps}
use borrow.Author.Tests.{eq-eqb, ne_eqb}
use Rattle.text.proofs.Alignment.{length-column}
use Rattle.page.specs.Page.{line_with, line_of, heading_with, heading, heading_behind, page_lines, line_length, bytes_for}

pub length-line : (number df dfa charge credit : ℕ) → length (line_of number df dfa charge credit) ≡ line_length
unfolding line_with
length-line number df dfa charge credit = grind (arith, common_steps, length-column)

pub length-heading : (number : ℕ) → length (heading number) ≡ line_length
unfolding heading_with
length-heading number = grind (arith, common_steps, length-column)

-- a page begins behind so many lines, or none does
pub begins : (lines : ℕ) → lines % page_lines ≡ 0 → heading_behind lines ≡ heading (lines / page_lines + 1)
unfolding heading_behind
begins lines e = rw (eq-eqb (lines % page_lines) 0 e)

pub goes_on : (lines : ℕ) → (lines % page_lines ≡ 0 → ⊥) → heading_behind lines ≡ []
unfolding heading_behind
goes_on lines e = rw (ne_eqb (lines % page_lines) 0 e)

-- one line more, with its heading where a page begins
pub one_more : (lines : ℕ) → bytes_for lines + (length (heading_behind lines) + line_length) ≡ bytes_for (lines + 1)
unfolding heading_behind
one_more lines = grind (arith, common_steps, length-heading)

-- fewer lines take fewer bytes
pub bytes-within : (a b : ℕ) → a ≤ b → bytes_for a ≤ bytes_for b
bytes-within a b h = omega arith
