-- What the functions for C of Level Year answer and leave in the lent buffers.
use Rattle.std.specs.Prelude.{◌≡◌, List, [], ◌∷◌, ℕ, ◌≤◌, ◌<◌, ◌^◌, eqb, ltb, length, get_or, Option}
use Rattle.basis.specs.Choice.{pick}
use Rattle.basis.specs.Numbers.{all_bytes_of, written}
use Rattle.journal.specs.declared.outcome.Refused.{Refused}
use Rattle.journal.specs.declared.outcome.Run.{Run}
use Rattle.journal.specs.Run.{named_places, named_numbers, run_of}
use Rattle.listing.specs.Listing.{listing_of, listing_most, listed_of, listed_in}
use Rattle.yearbook_c.specs.declared.figures.Named.{Named}
use Rattle.page.specs.Page.{text_of, print_number, printed_in, printed_most}

-- the listing of a journal's run; its bytes are told only where the text was put
pub record ListsJournal (journal old : List ℕ) (before r : ℕ) (new : List ℕ) (told : ℕ) : Type 0 where
  pub answer : r ≡ (listed_of (listing_of (run_of journal)) (length old)).number
  pub bytes : new ≡ listed_in (listing_of (run_of journal)) old
  pub size : told ≡ pick (eqb r 0) (length (listing_of (run_of journal))) before
  pub short : length (listing_of (run_of journal)) ≤ listing_most

-- the printed close of a journal's run; its bytes are told only where the text was put
pub record PrintsJournal (journal old : List ℕ) (before r : ℕ) (new : List ℕ) (told : ℕ) : Type 0 where
  pub answer : r ≡ print_number (run_of journal).book (length old)
  pub bytes : new ≡ printed_in (run_of journal).book old
  pub size : told ≡ pick (eqb r 0) (length (text_of (run_of journal).book)) before
  pub short : length (text_of (run_of journal).book) ≤ printed_most

-- how many refused records are named, none or the first one; its place and the number that it met, 0 where none is named
abbrev pub named_of : Option Refused → Named
named_of f =
    record { count = length (named_places f); place = get_or (named_places f) 0 0; number = get_or (named_numbers f) 0 0 }

-- the eight figures of a run: records read, accepted, refused; the stop's number and place; the first refused record
abbrev pub figures_of : Run → List ℕ
figures_of r =
    r.read
    ∷ r.accepted
    ∷ r.refused
    ∷ r.stop
    ∷ r.place
    ∷ (named_of r.first).count
    ∷ (named_of r.first).place
    ∷ (named_of r.first).number
    ∷ []

-- the bytes that they take, eight each, low byte first
abbrev pub figures_size : ℕ
figures_size = 64

-- a buffer that is too short meets 15 and keeps all; another one keeps the bytes behind the figures; each figure has room in its eight
pub record TellsRun (journal old : List ℕ) (r : ℕ) (new : List ℕ) : Type 0 where
  pub answer : r ≡ pick (ltb (length old) figures_size) 15 0
  pub bytes : new ≡ pick (ltb (length old) figures_size) old (written old 0 (all_bytes_of 8 (figures_of (run_of journal))))
  pub whole : r ≡ 0 → (k : ℕ) → get_or (figures_of (run_of journal)) k 0 < 2 ^ 64
