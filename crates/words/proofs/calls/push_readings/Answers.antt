use Rattle.std.proofs.Common.{◌++◌, ap, sym, ◌∙◌}
use Rattle.std.specs.Int.{from_le_bytes, w32}
use Rattle.std.specs.List.{flat_map}
use Rattle.std.proofs.lemmas.Iterator.{YieldsList-from_slice, YieldsList-from_take}
use Rattle.std.proofs.lemmas.Iterator.Consumers.{YieldsList-end}
use Rattle.std.proofs.lemmas.List.Folds.{flat_map-map}
use Rattle.quantities.specs.Limits.{greatest_count}
use Rattle.words.specs.Calls.{value_text}
use Rattle.words.proofs.Readings.{chunks, readings_of_chunks}
use Rattle.words.proofs.calls.push_readings.Goals as goal

pub returns-clause-text : goal.returns-clause-text
returns-clause-text g c =
    let shown = YieldsList-from_take greatest_count (YieldsList-from_slice (chunks c.args.readings.now) cc) cc in
    let end = YieldsList-end shown c.loop-reading.yielded _ c.loop-reading.yielded_by _ c.next.new.self c.in-None.is c.next.ensures.steps in
    c.loop-reading.invariant.text
    ∙ ap (λ l. c.args.text.now ++ l) (
    sym (flat_map-map (λ b. value_text (from_le_bytes w32 b)) (λ r. r.now) c.loop-reading.yielded)
    ∙ ap (flat_map (λ b. value_text (from_le_bytes w32 b))) end.0
    ∙ readings_of_chunks c.args.readings.now
    )
