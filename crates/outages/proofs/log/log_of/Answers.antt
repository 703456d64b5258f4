-- `outages::log::log_of` meets its contract: the window and HED are numbers of the head, the entries the chunks behind it.
-- Assumes nothing.
use Rattle.std.proofs.Common.{◌≡◌, sym, ap, ◌∙◌, ◌-◌, ◌/◌, map, length, drop, arith}
use Rattle.std.specs.Simd.{first_chunks}
use Rattle.outages.specs.Log.{entry_of}
use Rattle.outages.proofs.Reading.{window_read, hed_read}
use Rattle.outages.proofs.log.log_of.Goals as goal

pub returns-clause-parts : goal.returns-clause-parts
returns-clause-parts c =
    let b = c.args.bytes.now in
    let h = c.in_ok-head.ensures.cases in
    let n : length c.in_ok-head.behind.now / 9 ≡ (length b - 12) / 9 = omega (arith, h.2) in
    let entries = c.as_chunks.ensures.front ∙ ap (λ l. first_chunks 9 (length c.in_ok-head.behind.now / 9) l) h.1 ∙ ap (λ k. first_chunks 9 k (drop 12 b)) n in
    (rw (c.from_le_bytes.ensures, c.from_le_bytes-2.ensures, h.0) (sym (window_read b)), rw (c.from_le_bytes-3.ensures, h.0) (sym (hed_read b)), ap (map entry_of) entries)
