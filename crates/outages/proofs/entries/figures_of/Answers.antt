-- `outages::entries::figures_of` meets its contract: behind the last entry nothing is left, and nothing is missing.
-- Assumes nothing.
use Rattle.std.proofs.Common.{◌≡◌, sym, ap, ◌∙◌, ◌+◌, map, true, Some, [], drop, arith}
use Rattle.std.specs.List.{sum_by}
use Rattle.std.proofs.lemmas.List.{drop_all}
use Rattle.outages.specs.Log.{forced, entry_of, in_order}
use Rattle.outages.specs.Outages.{minutes_within, minutes_of_kind}
use Rattle.outages.proofs.Counting.{figures_found}
use Rattle.outages.proofs.entries.figures_of.Goals as goal

pub returns : goal.returns
returns c =
    let w = c.args.log.window in
    let l = c.loop-bytes in
    let es = map entry_of c.args.log.entries.now in
    let none : drop l.bytes-index c.args.log.entries.now ≡ [] = drop_all l.bytes-index c.args.log.entries.now (omega arith) in
    let ordered : in_order 0 es ≡ true = sym l.invariant.ordered ∙ ap (λ d. in_order l.free (map entry_of d)) none in
    let all = ap (λ d. l.outages + sum_by (λ e. minutes_within w e) (map entry_of d)) none in
    let some = ap (λ d. l.forced + minutes_of_kind w forced (map entry_of d)) none in
    rw ordered (ap Some (figures_found w c.args.log.hed l.outages l.forced es c.requires.ranged (omega (arith, all, l.invariant.all_left)) (omega (arith, some, l.invariant.forced_left))))
