-- The line of what stands at a place of a journal, and what follows it.
use mathlib.Core.Path.{◌≡◌, refl, sym, ap, ◌∙◌}
use mathlib.Core.Bool.{Bool, true, false}
use mathlib.Core.List.{List, [], ◌++◌}
use Prim.Native.Nat.{ℕ, suc, ◌-◌, ◌<◌}
use native.Mathlib.Omega.{arith}
use borrow.Author.Tests.{eq-eqb, ne_eqb}
use Rattle.std.specs.Prelude.{None, Some, Result, Ok, Err}
use Rattle.std.specs.Result.{result_unwrap_or}
use Rattle.basis.specs.Choice.{pick}
use Rattle.quantities.specs.declared.refusals.Refusal.{Refusal}
use Rattle.quantities.specs.Refusals.{met}
use Rattle.table.specs.declared.calls.Call.{Call}
use Rattle.record.specs.declared.reading.Read.{Read}
use Rattle.record.specs.declared.reading.Read.TheVariants.{End, Cut, Unknown, Record}
use Rattle.record.specs.Reading.{read_at, stop_number, part_of}
use Rattle.state.specs.declared.kept.Book.{Book}
use Rattle.state.specs.State.{Reply, replied}
use Rattle.book.specs.Step.{step_of}
use Rattle.desk.specs.declared.replies.Rest.{Rest}
use Rattle.desk.specs.Replies.{reply_line, end_line, line_at, book_behind, place_behind, is_last, lines_from, rest_of, next_line, Tells}

-- no record stands there: the line tells the stop, and is the last
pub record Ending (s : List ℕ) (b : Book) (at stop : ℕ) : Type 0 where
  pub line : line_at s b at ≡ end_line at stop
  pub book : book_behind s b at ≡ b
  pub place : place_behind s at ≡ at
  pub last : is_last s at ≡ true

pub ending : (s : List ℕ) (b : Book) (at : ℕ) (x : Read) → read_at s at ≡ x → ((c : Call) (from next : ℕ) → x ≡ Record c from next → ⊥) → Ending s b at (stop_number x)
unfolding line_at book_behind place_behind is_last
ending s b at End e h =
    record { line = rw (e, line_at); book = rw (e, book_behind); place = rw (e, place_behind); last = rw (e, is_last) }
ending s b at Cut e h =
    record { line = rw (e, line_at); book = rw (e, book_behind); place = rw (e, place_behind); last = rw (e, is_last) }
ending s b at Unknown e h =
    record { line = rw (e, line_at); book = rw (e, book_behind); place = rw (e, place_behind); last = rw (e, is_last) }
ending s b at (Record c from next) e h = absurd (h c from next refl)

-- a record stands there: the line tells the reply to its call, and another follows
module _ (s : List ℕ) (b : Book) (at : ℕ) {c : Call} {from next : ℕ} (e : read_at s at ≡ Record c from next) where
  pub line-record : line_at s b at ≡ reply_line at c (part_of s from next) (step_of b c (part_of s from next)).number
  unfolding line_at
  line-record = rw (e, line_at)

  pub book_record : book_behind s b at ≡ (step_of b c (part_of s from next)).book
  unfolding book_behind
  book_record = rw (e, book_behind)

  pub place_record : place_behind s at ≡ next
  unfolding place_behind
  place_record = rw (e, place_behind)

  pub more_record : is_last s at ≡ false
  unfolding is_last
  more_record = rw (e, is_last)

-- nothing is left
pub tells_nothing : (s : List ℕ) (rest : Rest) → rest.left ≡ 0 → Tells s rest None rest
unfolding next_line lines_from
tells_nothing s rest z =
    record {
      line = rw (eq-eqb rest.left 0 z) refl;
      whole = rw (eq-eqb rest.left 0 z) refl;
      none = λ h. refl;
      fewer = λ h. absurd (omega (arith, z, h));
    }

-- what is behind a line, by whether it is the last
abbrev behind : List ℕ → Rest → Bool → List ℕ
behind s rest last =
    pick last [] (lines_from (rest.left - 1) s (book_behind s rest.book rest.place) (place_behind s rest.place))

whole : (s : List ℕ) (rest : Rest) → (rest.left ≡ 0 → ⊥) → rest_of s rest ≡ next_line s rest ++ behind s rest (is_last s rest.place)
unfolding next_line lines_from
whole s rest some =
    let k : rest.left ≡ suc (rest.left - 1) = omega arith in
    ap (λ n. lines_from n s rest.book rest.place) k
    ∙ sym (ap (λ (t : Bool). pick t [] (line_at s rest.book rest.place) ++ behind s rest (is_last s rest.place)) (ne_eqb rest.left 0 some))

next : (s : List ℕ) (rest : Rest) → (rest.left ≡ 0 → ⊥) → next_line s rest ≡ line_at s rest.book rest.place
unfolding next_line
next s rest some = rw (ne_eqb rest.left 0 some) refl

-- a line is told
tells_line : (s : List ℕ) (rest more : Rest) {line : List ℕ} → (rest.left ≡ 0 → ⊥) → line ≡ line_at s rest.book rest.place → behind s rest (is_last s rest.place) ≡ rest_of s more → more.left < rest.left → Tells s rest (Some line) more
tells_line s rest more some told e l =
    record {
      line = told ∙ sym (next s rest some);
      whole = whole s rest some ∙ ap (λ (t : List ℕ). next_line s rest ++ t) e;
      none = λ z. absurd (some z);
      fewer = λ h. l;
    }

-- the last line
pub tells_ending : (s : List ℕ) (rest : Rest) {stop : ℕ} {line : List ℕ} → (rest.left ≡ 0 → ⊥) → Ending s rest.book rest.place stop → line ≡ end_line rest.place stop → Tells s rest (Some line) (record { left = 0; place = rest.place; book = rest.book })
unfolding lines_from
tells_ending s rest some h told =
    tells_line s rest (record { left = 0; place = rest.place; book = rest.book }) some (told ∙ sym h.line) (ap (behind s rest) h.last) (omega arith)

-- the book after an answer
book_after : (b : Book) (answer : Result Book Refusal) → result_unwrap_or answer b ≡ (replied b answer).book
book_after b (Ok new) = refl
book_after b (Err refusal) = refl

number_of : (b : Book) (answer : Result Book Refusal) → met answer ≡ (replied b answer).number
number_of b (Ok new) = refl
number_of b (Err refusal) = refl

-- the line of a record
pub tells_record : (s : List ℕ) (rest : Rest) {c : Call} {from next : ℕ} {part line : List ℕ} {new : Book} (answer : Result Book Refusal) → (rest.left ≡ 0 → ⊥) → read_at s rest.place ≡ Record c from next → part ≡ part_of s from next → replied rest.book answer ≡ step_of rest.book c part → line ≡ reply_line rest.place c part (met answer) → new ≡ result_unwrap_or answer rest.book → Tells s rest (Some line) (record { left = rest.left - 1; place = next; book = new })
tells_record s rest {c} {from} {next} {part} {new = new} answer some e k r told kept =
    let b = rest.book in
    let at = rest.place in
    let reply = ap (λ (l : List ℕ). step_of b c l) k in
    let answered = r ∙ reply in
    tells_line s rest (record { left = rest.left - 1; place = next; book = new }) some
    (told
    ∙ ap (reply_line at c part) (number_of b answer ∙ ap (λ (x : Reply). x.number) answered)
    ∙ ap (λ (l : List ℕ). reply_line at c l (step_of b c (part_of s from next)).number) k
    ∙ sym (line-record s b at e))
    (ap (behind s rest) (more_record s b at e)
    ∙ ap (λ (x : Book). lines_from (rest.left - 1) s x (place_behind s at)) (book_record s b at e ∙ sym (kept ∙ book_after b answer ∙ ap (λ (x : Reply). x.book) answered))
    ∙ ap (λ n. lines_from (rest.left - 1) s new n) (place_record s b at e))
    (omega arith)
