-- A rule of a table, shown at each of its entries by one test that is computed over all of them.
use mathlib.Core.Path.{◌≡◌, ap, sym, ◌∙◌}
use mathlib.Core.Bool.{Bool, true}
use mathlib.Core.List.{List}
use Prim.Native.Nat.{ℕ, ◌+◌, ◌<◌}
use lib.ListN.{length, get_or}
use Rattle.std.specs.List.{enumerate_from}
use Rattle.std.proofs.lemmas.List.FromFn.{length-enumerate_from, get_or-enumerate_from}
use Rattle.std.proofs.lemmas.List.Sums.{AllPass-from_list_all}
use Rattle.basis.specs.Tables.{every_from}

-- such a test holds of each entry
pub every_at : (test : ℕ → ℕ → Bool) (l : List ℕ) (first : ℕ) → every_from test first l ≡ true → (k : ℕ) → k < length l → test (first + k) (get_or l k 0) ≡ true
every_at test l first e k h =
    let passes : ℕ × ℕ → Bool = λ (entry : ℕ × ℕ). test entry.0 entry.1 in
    ap passes (sym (get_or-enumerate_from first l k (0, 0) h))
    ∙ AllPass-from_list_all passes (enumerate_from first l) e k (0, 0) (rw (length-enumerate_from first l) h)
