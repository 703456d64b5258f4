use Rattle.std.proofs.Common.{◌∙◌, ◌*◌, ap, arith, List, ℕ, take, get_or}
use Rattle.basis.specs.Numbers.{bytes_of, all_bytes_of, written}
use Rattle.basis.proofs.Numbers.{all_bytes_none, next_written}
use Rattle.basis.proofs.put_numbers.Goals as goal

pub loop-i-init : goal.loop-i-init
loop-i-init c = rw (all_bytes_none c.args.width)

pub loop-i-preserved : goal.loop-i-preserved
loop-i-preserved c =
    let w = c.args.width in
    let ns = c.args.numbers.now in
    let out = c.args.out.now in
    let i = c.loop-i.i in
    let front = all_bytes_of w (take i ns) in
    let next = bytes_of w (get_or ns i 0) in
    c.put_number.ensures
    ∙ ap (λ (l : List ℕ). written l (w * i) next) c.loop-i.invariant
    ∙ next_written out w ns i (omega arith) c.requires
