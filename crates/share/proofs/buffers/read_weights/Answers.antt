use Rattle.std.proofs.Common.{◌*◌, length, arith}
use Rattle.basis.specs.Numbers.{number_at}
use Rattle.basis.proofs.Tables.{tab_from_places}
use Rattle.share.proofs.buffers.read_weights.Goals as goal

pub returns : goal.returns
returns c =
    let l = c.loop-i in
    tab_from_places (λ k. number_at 4 c.args.buffer.now (4 * k)) l.weights (length c.args.weights.now) 0 (omega arith) (λ k h. l.invariant k (omega arith))
