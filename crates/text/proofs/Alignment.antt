-- Columns: their width, texts that fit, and how long an amount is.
use Rattle.std.proofs.Common.{◌≡◌, ℕ, suc, List, ◌+◌, ◌^◌, ◌<◌, ◌-◌, ◌≤◌, ◌++◌, length, take, drop, min, inl, inr, ap, ◌∙◌, arith}
use lib.ListN.{length-replicate}
use lib.Seq.{drop-append-add}
use Rattle.std.proofs.lemmas.Bool.{cases_lt}
use Rattle.std.proofs.lemmas.Grind.{common_steps}
use Rattle.std.proofs.lemmas.List.{drop-replicate, take-replicate}
use Rattle.text.specs.Text.{less, plain, amount_of}
use Rattle.text.specs.Columns.{blanks, column, whole}
use Rattle.text.proofs.Digits.{decimal-short, amount_below, amount_above}

-- a column is as wide as it is
pub length-column : (width : ℕ) (text : List ℕ) → length (column width text) ≡ width
unfolding column
length-column width text = grind (arith, common_steps)

-- the blanks that are left, and the last characters of the text, as many as there is room for
pub column_parts : (width : ℕ) (text : List ℕ) (kept : ℕ) → kept ≡ min (length text) width → column width text ≡ take (width - kept) (blanks width) ++ drop (length text - kept) text
unfolding column
column_parts width text kept e = elim (cases_lt width (length text)) [
  | inl long ↦ (
      let none : width - kept ≡ 0 = omega arith in
      let places : length text ≡ length (blanks width) + (length text - kept) = omega (arith, length-replicate {A = ℕ} width 32) in
      rw none (ap (λ n. drop n (blanks width ++ text)) places ∙ drop-append-add (blanks width) text (length text - kept))
      )
  | inr short ↦ grind (arith, common_steps, drop-replicate, take-replicate)
]

-- a text that fits stands whole behind blanks
pub column-whole : (width : ℕ) (text : List ℕ) → length text ≤ width → column width text ≡ whole width text
unfolding column
column-whole width text h = grind (arith, common_steps, drop-replicate)

-- an amount whose parts have at most n digits has at most n characters and a sign, and without a sign n
pub amount_short : (n plus minus : ℕ) → plus < 10 ^ suc n → minus < 10 ^ suc n → length (amount_of (less plus minus)) ≤ suc (suc n)
amount_short n plus minus h k = elim (cases_lt plus minus) [
  | inl below ↦ rw (amount_below (less plus minus) below) (omega (arith, decimal-short n (minus - plus) (omega arith)))
  | inr above ↦ rw (amount_above (less plus minus) above) (omega (arith, decimal-short n (plus - minus) (omega arith)))
]

pub plain-short : (n x : ℕ) → x < 10 ^ suc n → length (amount_of (plain x)) ≤ suc n
plain-short n x h = rw (amount_above (plain x) (omega arith)) (decimal-short n (x - 0) (omega arith))
