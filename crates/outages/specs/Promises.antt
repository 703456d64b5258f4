-- What is promised of every accepted log: its figures are right as minutes, counted one by one, and not only as arithmetic.
use Rattle.std.specs.Prelude.{◌≡◌, Bool, not, ◌&&◌, List, ℕ, ◌+◌, ◌-◌, leb, ltb, eqb}
use Rattle.std.specs.List.{list_any, range_with_len, count_by}
use Rattle.basis.specs.Choice.{pick}
use Rattle.plant.specs.Availability.{availability_number}
use Rattle.outages.specs.declared.log.Window.{Window}
use Rattle.outages.specs.declared.log.Entry.{Entry}
use Rattle.outages.specs.Log.{planned, forced, window_of, hed_of, entries_of, log_number}
use Rattle.outages.specs.Outages.{log_minutes}

-- how many minutes of the window pass a test: "start and end in minutes with the end not included"
abbrev pub count_minutes : Window → (ℕ → Bool) → ℕ
count_minutes w test = count_by test (range_with_len w.start (w.end - w.start))

-- the minute lies in the entry
abbrev pub lies_in : ℕ → Entry → Bool
lies_in minute e = leb e.start minute && ltb minute e.end

-- .. in an entry of this kind, and in any entry
abbrev pub lies_in_kind : List Entry → ℕ → ℕ → Bool
lies_in_kind es kind minute = list_any (λ e. eqb e.kind kind && lies_in minute e) es

abbrev pub lies_in_any : List Entry → ℕ → Bool
lies_in_any es minute = list_any (lies_in minute) es

-- what is promised of a log
pub record Counted (log : List ℕ) : Type 0 where
  -- HMP: the minutes of the window that lie in a planned entry
  pub planned_minutes : (log_minutes log).hmp ≡ count_minutes (window_of log) (lies_in_kind (entries_of log) planned)
  -- HIF: those that lie in a forced entry
  pub forced_minutes : (log_minutes log).hif ≡ count_minutes (window_of log) (lies_in_kind (entries_of log) forced)
  -- HD: those that lie in none
  pub available_minutes : (log_minutes log).hd ≡ count_minutes (window_of log) (λ minute. not (lies_in_any (entries_of log) minute))
  -- HED is the one that is given
  pub hed_given : (log_minutes log).hed ≡ hed_of log
  -- "For every accepted log the three add up to the window."
  pub add_up : (log_minutes log).hd + (log_minutes log).hmp + (log_minutes log).hif ≡ (window_of log).end - (window_of log).start
  -- "they go into the availability call as before, which may still meet 9": where HED is above HD + HMP, and nowhere else
  pub goes_in : availability_number (log_minutes log) ≡ pick (leb (hed_of log) ((log_minutes log).hd + (log_minutes log).hmp)) 0 9

-- all of this holds of every log that is accepted
abbrev pub OutagesCount : Type 0
OutagesCount = (log : List ℕ) → log_number log ≡ 0 → Counted log
