use Rattle.std.proofs.Common.{◌≡◌, ◌++◌, length, ap, sym, ◌∙◌, arith}
use Rattle.basis.specs.Numbers.{written}
use Rattle.quantities.specs.Limits.{consumers}
use Rattle.page.specs.Page.{heading_behind}
use Rattle.page.proofs.Growing.{line_at, text_to, text_all, standing_same, room_behind, standing_more}
use Rattle.page.proofs.pages.put_lines.Goals as goal

pub slice_bounds-copy_from_slice-end : goal.slice_bounds-copy_from_slice-end
slice_bounds-copy_from_slice-end c =
    let z = c.args.closing.now in
    let l = c.loop-i in
    let figures = sym c.figures.ensures ∙ c.in-Some.is in
    let text : c.placed-text.result ≡ heading_behind l.lines ++ line_at c.args.consumers.now z l.i c.in-Some.figures = cc in
    let room = room_behind c.args.consumers.now z l.invariant (omega arith) c.requires figures in
    omega (arith, room, ap length text)

pub loop-i-preserved : goal.loop-i-preserved
loop-i-preserved c =
    let z = c.args.closing.now in
    let l = c.loop-i in
    let text : c.copy_from_slice.new.self ≡ heading_behind l.lines ++ line_at c.args.consumers.now z l.i c.in-Some.figures = cc in
    standing_more c.args.consumers.now z l.invariant (omega arith) c.requires (sym c.figures.ensures ∙ c.in-Some.is) c.size_of-place.ensures (cc) text

pub loop-i-preserved-in_default : goal.loop-i-preserved-in_default
loop-i-preserved-in_default c =
    standing_same c.args.consumers.now c.args.closing.now c.loop-i.invariant (sym c.figures.ensures ∙ c.in_default.is)

pub returns : goal.returns
returns c =
    let n : c.loop-i.i ≡ consumers = omega arith in
    c.loop-i.invariant.text
    ∙ ap (λ i. written c.args.out.now 0 (text_to c.args.consumers.now c.args.closing.now i)) n
    ∙ ap (written c.args.out.now 0) (text_all c.args.consumers.now c.args.closing.now)
