-- The four figures of an outage log, as the availability call takes them.
use Rattle.std.specs.Prelude.{◌≡◌, List, [], ◌∷◌, ℕ, ◌-◌, min, max, eqb, ltb, length}
use Rattle.std.specs.List.{sum_by}
use Rattle.basis.specs.Choice.{pick}
use Rattle.basis.specs.Numbers.{all_bytes_of, written}
use Rattle.power.specs.declared.component.Minutes.{Minutes}
use Rattle.quantities.specs.Refusals.{Decided, decided_by}
use Rattle.plant.specs.Availability.{minutes}
use Rattle.outages.specs.declared.log.Window.{Window}
use Rattle.outages.specs.declared.log.Entry.{Entry}
use Rattle.outages.specs.Log.{planned, forced, window_of, hed_of, entries_of, log_number}

-- "An entry counts only with its minutes within the window, none if it lies outside."
abbrev pub minutes_within : Window → Entry → ℕ
minutes_within w e = min w.end e.end - max w.start e.start

-- "HMP and HIF are the sums by kind"
abbrev pub minutes_of_kind : Window → ℕ → List Entry → ℕ
minutes_of_kind w kind es = sum_by (λ e. pick (eqb e.kind kind) (minutes_within w e) 0) es

-- "HD is the rest of the window, and HED is given with the log"
abbrev pub figures_of : Window → ℕ → List Entry → Minutes
figures_of w hed es =
    let hmp = minutes_of_kind w planned es in
    let hif = minutes_of_kind w forced es in minutes (w.end - w.start - hmp - hif) hmp hif hed

unfoldable pub log_minutes : List ℕ → Minutes
log_minutes log = figures_of (window_of log) (hed_of log) (entries_of log)

-- "The log's answer is the four figures"
abbrev pub log_answer : List ℕ → Decided Minutes
log_answer log = decided_by (log_number log) (log_minutes log)

-- into a buffer: the log's number, then 15 where it has fewer than 16 bytes
unfoldable pub figures_number : List ℕ → ℕ → ℕ
figures_number log room = pick (eqb (log_number log) 0) (pick (ltb room 16) 15 0) (log_number log)

-- HD, HMP, HIF and HED of 4 bytes each over its front; a refusal writes no byte
unfoldable pub figures_bytes : List ℕ → List ℕ → List ℕ
figures_bytes log old =
    let m = log_minutes log in
    pick (eqb (figures_number log (length old)) 0) (written old 0 (all_bytes_of 4 (m.hd ∷ m.hmp ∷ m.hif ∷ m.hed ∷ []))) old

-- what the figures in a buffer answer and leave
pub record Figures (log old : List ℕ) (number : ℕ) (new : List ℕ) : Type 0 where
  pub answer : number ≡ figures_number log (length old)
  pub figures : new ≡ figures_bytes log old
