-- `share::buffers::share_divide` meets its contract: a length that is out of range is refused, and else the buffer is divided.
-- Assumes nothing.
use mathlib.Core.Logic.{⊎_elim}
use Rattle.share.proofs.Encoded.{odd_refused, many_refused}
use Rattle.share.proofs.buffers.share_divide.Goals as goal

pub returns-then-weights-ne0 : goal.returns-then-weights-ne0
returns-then-weights-ne0 c =
    let a = c.args in
    ⊎_elim (odd_refused a.total a.weights.now a.amounts.now) (λ h. many_refused a.total a.weights.now a.amounts.now h.0 h.1) c.then-weights-ne0.either
