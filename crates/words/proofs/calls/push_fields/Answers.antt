use Rattle.std.proofs.Common.{ℕ, ◌++◌, ap, sym, ◌∙◌}
use Rattle.std.specs.List.{flat_map}
use Rattle.std.proofs.lemmas.Iterator.{YieldsList-from_slice, YieldsList-from_zip}
use Rattle.std.proofs.lemmas.Iterator.Consumers.{YieldsList-end}
use Rattle.std.proofs.lemmas.List.Folds.{flat_map-map}
use Rattle.words.specs.Calls.{field_text, fields_text}
use Rattle.words.proofs.calls.push_fields.Goals as goal

pub returns-clause-text : goal.returns-clause-text
unfolding fields_text
returns-clause-text g c =
    let pairs = YieldsList-from_zip (YieldsList-from_slice c.args.fields.form.widths cc) (YieldsList-from_slice c.args.fields.values cc) in
    let all = YieldsList-end pairs c.loop-width.yielded _ c.loop-width.yielded_by _ c.next.new.self c.in-None.is c.next.ensures.steps in
    c.loop-width.invariant.text
    ∙ ap (λ l. c.args.text.now ++ l) (
    sym (flat_map-map (λ (f : ℕ × ℕ). field_text f.0 f.1) (λ p. (p.0.now, p.1.now)) c.loop-width.yielded)
    ∙ ap (flat_map (λ (f : ℕ × ℕ). field_text f.0 f.1)) all.0
    )
