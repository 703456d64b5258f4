-- A line and a heading whose figures fit their columns show them whole.
use mathlib.Core.Path.{◌≡◌, refl}
use Prim.Native.Nat.{ℕ, ◌≤◌}
use lib.ListN.{length}
use Rattle.text.specs.Text.{less, plain, amount_of}
use Rattle.text.specs.Columns.{whole}
use Rattle.text.proofs.Alignment.{column-whole}
use Rattle.page.specs.Page.{line_with, line_of, heading_with, heading}

pub line-whole : (number df dfa charge credit : ℕ) → length (amount_of (plain number)) ≤ 3 → length (amount_of (plain df)) ≤ 7 → length (amount_of (less df dfa)) ≤ 8 → length (amount_of (less credit charge)) ≤ 15 → line_of number df dfa charge credit ≡ line_with whole number df dfa charge credit
unfolding line_with
line-whole number df dfa charge credit a b c d =
    rw (column-whole 3 (amount_of (plain number)) a, column-whole 7 (amount_of (plain df)) b, column-whole 8 (amount_of (less df dfa)) c, column-whole 15 (amount_of (less credit charge)) d) refl

pub heading_whole : (number : ℕ) → length (amount_of (plain number)) ≤ 4 → heading number ≡ heading_with whole number
unfolding heading_with
heading_whole number h = rw (column-whole 4 (amount_of (plain number)) h) refl
