-- What printing answers.
use Rattle.std.proofs.Common.{◌≡◌, ◌≤◌, ℕ, List, length, refl, sym, ap, ◌∙◌, arith}
use borrow.Author.Tests.{le-ltb}
use Rattle.basis.specs.Numbers.{written}
use Rattle.quantities.specs.Limits.{consumers}
use Rattle.quantities.specs.Refusals.{filled_with}
use Rattle.state.specs.declared.kept.Book.{Book}
use Rattle.state.specs.declared.kept.Stage.TheVariants.{Closed}
use Rattle.state.specs.State.{staged}
use Rattle.page.specs.Page.{declared_consumers, lines_of, pages_of, text_of, bytes_for, printed_most, print_number, printed_of, printed_in, Prints}
use Rattle.page.proofs.Lengths.{bytes-within}
use Rattle.page.proofs.Growing.{count_all, declared-within, length_to, text_all}

-- the bytes of the text follow from the count of lines
pub length-text : (b : Book) → length (text_of b) ≡ bytes_for (length (declared_consumers b.consumers))
unfolding text_of
length-text b =
    ap length (sym (text_all b.consumers b.closing))
    ∙ length_to b.consumers b.closing consumers
    ∙ ap bytes_for (sym (count_all b.consumers))

pub text-short : (b : Book) → length (text_of b) ≤ printed_most
text-short b =
    omega (arith, length-text b, bytes-within (length (declared_consumers b.consumers)) consumers (declared-within b.consumers))

pub ruleset text_laws = (length-text, text-short)

-- a closed book, and room for its text
taken : (b : Book) (room : ℕ) → 0 ≡ staged Closed b.stage 0 → length (text_of b) ≤ room → print_number b room ≡ 0
unfolding print_number
taken b room stage h = rw (le-ltb room (length (text_of b)) h) (sym stage)

text_parts : (b : Book) → text_of b ≡ pages_of (lines_of b.consumers b.closing.adjusted b.closing.charges b.closing.credits)
unfolding text_of
text_parts b = refl

-- the text stands at the front
pub prints_put : (b : Book) (old : List ℕ) {size : ℕ} {new : List ℕ} → 0 ≡ staged Closed b.stage 0 → size ≡ bytes_for (length (declared_consumers b.consumers)) → size ≤ length old → new ≡ written old 0 (pages_of (lines_of b.consumers b.closing.adjusted b.closing.charges b.closing.credits)) → Prints b old (filled_with 0 size) new
unfolding printed_of printed_in
prints_put b old stage counted room put =
    let long = counted ∙ sym (length-text b) in
    let none = taken b (length old) stage (omega (arith, long, room)) in
    record {
      answer = rw none (ap (filled_with 0) long);
      bytes_left = rw none (put ∙ ap (written old 0) (sym (text_parts b)));
      short = text-short b;
    }
