-- The printed close of an input, from what printing answers, and when nothing is said of it.
use mathlib.Core.Path.{◌≡◌, refl, sym, ap, ◌∙◌}
use mathlib.Core.Bool.{Bool, true, false}
use mathlib.Core.List.{List, [], ◌++◌}
use Prim.Native.Nat.{ℕ, ◌+◌, ◌≤◌, ◌<◌}
use native.Mathlib.Omega.{arith}
use borrow.Author.Tests.{lt-ltb, le-ltb, eqb-true, eq-eqb, ltb-true, ltb-false}
use lib.Dec.{eqb, ltb}
use lib.ListN.{length, take, drop}
use Rattle.std.specs.Prelude.{codes, Result, Ok, Err}
use Rattle.std.specs.Result.{result_unwrap_or}
use Rattle.std.proofs.Math.Seq.{take-append_seam}
use Rattle.basis.specs.Choice.{pick}
use Rattle.basis.specs.Numbers.{written}
use Rattle.quantities.specs.declared.refusals.Refusal.{Refusal}
use Rattle.quantities.specs.Refusals.{met, Filled, filled}
use Rattle.state.specs.declared.kept.Book.{Book}
use Rattle.state.specs.State.{stage_number}
use Rattle.page.specs.Page.{text_of, print_number, printed_by, printed_of, printed_in, printed_most, Prints}
use Rattle.journal.specs.Run.{run_of}
use Rattle.listing.specs.Listing.{most_input}
use Rattle.words.specs.Numbers.{said}
use Rattle.desk.specs.Findings.{findings_of, nothing_read, findings_for}
use Rattle.desk.specs.Printing.{open_number, page_of, unclosed, page_for, page_findings_for}
use Rattle.desk.specs.Promises.{SilentPageExactly}
use Rattle.desk.proofs.Silence.{begun, both_empty, found}

-- what is told of an answer
number_filled : (printed : Result ℕ Refusal) → met printed ≡ (filled printed).number
number_filled (Ok size) = refl
number_filled (Err refusal) = refl

size_filled : (printed : Result ℕ Refusal) → result_unwrap_or printed 0 ≡ (filled printed).size
size_filled (Ok size) = refl
size_filled (Err refusal) = refl

-- a printed close in a buffer that is never too short
module _ (b : Book) {old new : List ℕ} (printed : Result ℕ Refusal) (room : printed_most ≤ length old) (p : Prints b old (filled printed) new) where
  -- it is refused by the stage alone
  number_is : print_number b (length old) ≡ open_number b
  unfolding print_number
  number_is = rw (le-ltb (length old) (length (text_of b)) (omega (arith, p.short, room))) refl

  answer_is : filled printed ≡ printed_by (open_number b) (text_of b)
  unfolding printed_of
  answer_is = p.answer ∙ ap (λ n. printed_by n (text_of b)) number_is

  pub number_open : met printed ≡ open_number b
  number_open = number_filled printed ∙ ap (λ (x : Filled). x.number) answer_is

  size_is : result_unwrap_or printed 0 ≡ pick (eqb (open_number b) 0) (length (text_of b)) 0
  size_is = size_filled printed ∙ ap (λ (x : Filled). x.size) answer_is

  pub size_fits : result_unwrap_or printed 0 ≤ printed_most
  size_fits = rw size_is (go (eqb (open_number b) 0))
    where
      go : (t : Bool) → pick t (length (text_of b)) 0 ≤ printed_most
      go true = p.short
      go false = omega arith

  -- the printed close, or nothing
  pub front_is : take (result_unwrap_or printed 0) new ≡ page_of b
  unfolding page_of printed_in
  front_is = rw size_is (go (eqb (open_number b) 0) (p.bytes_left ∙ ap (λ n. pick (eqb n 0) (written old 0 (text_of b)) old) number_is))
    where
      go : (t : Bool) → new ≡ pick t (written old 0 (text_of b)) old → take (pick t (length (text_of b)) 0) new ≡ pick t (text_of b) []
      go true e = ap (take (length (text_of b))) e ∙ take-append_seam (text_of b) (drop (0 + length (text_of b)) old)
      go false e = refl

-- the findings of an input that was taken
pub findings_run : (input : List ℕ) → length input ≤ most_input → findings_for input ≡ findings_of (run_of input)
unfolding findings_for
findings_run input h = rw (le-ltb most_input (length input) h)

module _ (input : List ℕ) where
  pub page_run : length input ≤ most_input → page_for input ≡ page_of (run_of input).book
  unfolding page_for
  page_run h = rw (le-ltb most_input (length input) h)

  pub page-findings_long : most_input < length input → page_findings_for input ≡ nothing_read
  unfolding page_findings_for
  page-findings_long h = rw (lt-ltb most_input (length input) h)

  pub page-findings_run : length input ≤ most_input → page_findings_for input ≡ findings_of (run_of input) ++ unclosed (open_number (run_of input).book)
  unfolding page_findings_for
  page-findings_run h = rw (le-ltb most_input (length input) h)

  -- why there is no page, only where the book is not closed
  no_reason : (number : ℕ) → unclosed number ≡ [] → number ≡ 0
  unfolding unclosed
  no_reason number = go (eqb number 0) refl
    where
      go : (t : Bool) → eqb number 0 ≡ t → pick t [] (codes "yearbook: no page, the year is not closed: " ++ said number) ≡ [] → number ≡ 0
      go true e h = eqb-true number 0 e
      go false e h = begun h

  open_closed : (stage : ℕ) → ◌≡◌ {A = ℕ} (pick (eqb stage 3) 0 4) 0 → stage ≡ 3
  open_closed stage = go (eqb stage 3) refl
    where
      go : (t : Bool) → eqb stage 3 ≡ t → ◌≡◌ {A = ℕ} (pick t 0 4) 0 → stage ≡ 3
      go true e h = eqb-true stage 3 e
      go false e h = absurd (omega (arith, h))

  -- an input that was taken, and the two parts of what is said
  page-parts : page_findings_for input ≡ [] → (length input ≤ most_input) × (findings_of (run_of input) ≡ []) × (unclosed (open_number (run_of input).book) ≡ [])
  page-parts h = go (ltb most_input (length input)) refl
    where
      go : (t : Bool) → ltb most_input (length input) ≡ t → (length input ≤ most_input) × (findings_of (run_of input) ≡ []) × (unclosed (open_number (run_of input).book) ≡ [])
      go true e = begun (sym (page-findings_long (ltb-true most_input (length input) e)) ∙ h)
      go false e =
          let l = ltb-false most_input (length input) e in
          let both = both_empty (findings_of (run_of input)) (unclosed (open_number (run_of input).book)) (sym (page-findings_run l) ∙ h) in
          (l, both.0, both.1)

  nothing_said : findings_for input ≡ [] → stage_number (run_of input).book.stage ≡ 3 → page_findings_for input ≡ []
  unfolding unclosed
  nothing_said h s =
      let f = found input h in
      page-findings_run f.0 ∙ rw (f.1, eq-eqb (stage_number (run_of input).book.stage) 3 s) refl

pub silent-page_exactly : SilentPageExactly
silent-page_exactly input =
    record {
      as_before = λ h. findings_run input (page-parts input h).0 ∙ (page-parts input h).1;
      closed = λ h. open_closed input (stage_number (run_of input).book.stage) (no_reason input (open_number (run_of input).book) (page-parts input h).2);
      silent = nothing_said input;
    }
