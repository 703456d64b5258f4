-- The text that was there, and the texts so far.
use Rattle.std.proofs.Common.{◌≡◌, ℕ, List, ◌++◌, ◌+◌, ◌<◌, ◌*◌, ◌≤◌, length}
use Rattle.text.specs.Text.{line_most, joined}
use Rattle.text.proofs.Text.push_join.Given as goal

abbrev pub invariant-loop-i : goal.invariant-loop-i
invariant-loop-i g l =
    record {
      text : (f : ℕ → List ℕ) → ((i : ℕ) (t : List ℕ) → i < l.count → goal.F-post g l.text i t → t ≡ f i) → l.self ≡ l.initial.self ++ joined f l.i;
      room : length l.self ≤ length l.initial.self + l.i * line_most;
    }
