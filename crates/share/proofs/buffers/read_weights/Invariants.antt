-- `share::buffers::read_weights` meets its contract. The invariant: the weights are right as far as i.
-- Assumes nothing.
use Rattle.std.proofs.Common.{◌≡◌, ℕ, ◌*◌, ◌<◌, get_or}
use Rattle.basis.specs.Numbers.{number_at}
use Rattle.share.proofs.buffers.read_weights.Given as goal

abbrev pub invariant-loop-i : goal.invariant-loop-i
invariant-loop-i l = (k : ℕ) → k < l.i → get_or l.weights k 0 ≡ number_at 4 l.buffer (4 * k)
