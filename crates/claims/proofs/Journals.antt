-- Every journal, from the laws of the run, demand 3 and the printed close.
use Rattle.std.specs.Prelude.{Option, None, Some}
use mathlib.Core.Path.{◌≡◌, refl, subst}
use mathlib.Core.List.{List, []}
use Prim.Native.Nat.{ℕ}
use native.Mathlib.Omega.{arith}
use Rattle.state.specs.declared.kept.Book.{Book}
use Rattle.state.specs.State.{fresh_book}
use Rattle.book.specs.Lists.{accepted_by}
use Rattle.journal.specs.declared.outcome.Refused.{Refused}
use Rattle.journal.specs.Run.{named_places, run_of}
use Rattle.journal.specs.Calls.{calls_of}
use Rattle.journal.proofs.Calls.{run_book}
use Rattle.journal.proofs.Counts.{read-counts}
use Rattle.journal.proofs.Refusals.{naming}
use Rattle.journal.proofs.Earliest.{replies_counted, earliest-refused}
use Rattle.journal.proofs.Turns.{run_beginning}
use Rattle.claims.specs.Demand.{Demand3}
use Rattle.claims.specs.Printed.{PrintedClose}
use Rattle.claims.specs.Journals.{EveryJournal}
use Rattle.claims.proofs.Theorem.{demand3}
use Rattle.claims.proofs.Printed.{always_printed}

-- nothing is named
no_place_named : (f : Option Refused) → named_places f ≡ [] → f ≡ None
no_place_named None e = refl
no_place_named (Some first) e = let n : ◌≡◌ {A = ℕ} 0 1 = cc in absurd (omega arith)

pub every_journal : (journal : List ℕ) → EveryJournal journal
every_journal journal =
    record {
      demand = subst (λ (b : Book). Demand3 (accepted_by fresh_book [] (calls_of journal)) b) (run_book journal) (demand3 (calls_of journal));
      printed = subst (λ (b : Book). PrintedClose (accepted_by fresh_book [] (calls_of journal)) b) (run_book journal) (always_printed (calls_of journal));
      counts = read-counts journal;
      counted = replies_counted journal;
      first = earliest-refused journal;
      none_named = λ e. (naming journal).none (no_place_named (run_of journal).first e);
      beginning = run_beginning journal;
    }
