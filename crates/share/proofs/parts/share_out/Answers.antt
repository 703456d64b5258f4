-- `share::parts::share_out` meets its contract: the steps are those of the definition.
-- Assumes nothing.
use mathlib.Core.Path.{◌∙◌}
use native.Mathlib.Omega.{arith}
use lib.ListN.{length}
use Rattle.share.proofs.Accepted.{accepted, sum_fits, sum_small, ready, made}
use Rattle.share.proofs.parts.share_out.Goals as goal
use Rattle.share.proofs.parts.share_out.Goals.{Start}

pub sum_of-whole-requires : goal.sum_of-whole-requires
sum_of-whole-requires c =
    let a = accepted c.args.total c.args.weights.now (length c.args.amounts.now) c.requires.amounts_value in
    sum_fits c.args.weights.now a.weights a.most

pub whole_parts-left-requires : goal.whole_parts-left-requires
whole_parts-left-requires c =
    let a = accepted c.args.total c.args.weights.now (length c.args.amounts.now) c.requires.amounts_value in
    let e = c.sum_of-whole.ensures in
    record {
      total_le_greatest_total = (a.total, a.weights);
      whole_nonzero = (omega (arith, e, a.positive), e);
      whole_small = omega (arith, e, sum_small c.args.weights.now a.weights a.most);
      amounts_len = c.requires.amounts_len;
    }

pub give_left-requires : goal.give_left-requires
give_left-requires c =
    let a = accepted c.args.total c.args.weights.now (length c.args.amounts.now) c.requires.amounts_value in
    let w = c.whole_parts-left.ensures in
    let r = ready c.args.total c.args.weights.now (length c.args.amounts.now) a c.sum_of-whole.result c.sum_of-whole.ensures c.whole_parts-left.new.amounts c.whole_parts-left.new.rest w.amounts_after w.rest_after c.whole_parts-left.result w.value in
    record { amounts_len = r.0; left_bound = r.1 }

pub returns : goal.returns
returns c =
    let a = accepted c.args.total c.args.weights.now (length c.args.amounts.now) c.requires.amounts_value in
    let w = c.whole_parts-left.ensures in
    c.give_left.ensures ∙ made c.args.total c.args.weights.now (length c.args.amounts.now) a c.sum_of-whole.result c.sum_of-whole.ensures c.whole_parts-left.new.amounts c.whole_parts-left.new.rest w.amounts_after w.rest_after c.whole_parts-left.result w.value
