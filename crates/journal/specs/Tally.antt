-- The counts and the place of a run, kept apart from its book.
use Rattle.std.specs.Prelude.{ℕ, ◌+◌, eqb, None}
use Rattle.basis.specs.Choice.{pick}
use Rattle.state.specs.declared.kept.Book.{Book}
use Rattle.journal.specs.declared.outcome.Run.{Run}
use Rattle.journal.specs.declared.outcome.Tally.{Tally}
use Rattle.journal.specs.Run.{refused_at}

abbrev pub no_tally : Tally
no_tally = record { read = 0; accepted = 0; refused = 0; place = 0; first = None }

-- with the record at the place answered by a number
abbrev pub tallied : Tally → ℕ → ℕ → Tally
tallied t number next =
    let accepted = eqb number 0 in
    record {
      read = t.read + 1;
      accepted = pick accepted (t.accepted + 1) t.accepted;
      refused = pick accepted t.refused (t.refused + 1);
      place = next;
      first = pick accepted t.first (refused_at t.first t.place number);
    }

-- the run of a tally and a book
abbrev pub run_with : Tally → Book → ℕ → Run
run_with t b stop =
    record {
      book = b;
      read = t.read;
      accepted = t.accepted;
      refused = t.refused;
      stop = stop;
      place = t.place;
      first = t.first;
    }
