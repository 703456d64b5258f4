-- `text::Text::push_join` meets its contract: each turn puts the next text behind those so far. Assumes nothing.
use Rattle.std.proofs.Common.{arith}
use Rattle.text.proofs.Joining.{joined_start, joined_next}
use Rattle.text.proofs.Text.push_join.Goals as goal

pub loop-i-init : goal.loop-i-init
loop-i-init g c = record { text = λ f h. joined_start c.args.self.now f; room = omega arith }

pub loop-i-preserved : goal.loop-i-preserved
loop-i-preserved g c =
    record {
      text = λ f h. joined_next c.args.self.now f c.loop-i.i c.push_text.ensures.text (c.loop-i.invariant.text f h) (h c.loop-i.i c.text.result c.loop-i-test.true c.text.ensures);
      room = omega (arith, c.push_text.ensures.room, c.loop-i.invariant.room);
    }
