use Rattle.std.proofs.Common.{append_assoc}
use Rattle.desk.specs.Findings.{refusals}
use Rattle.desk.proofs.findings.refusals.Goals as goal

pub returns-in-Some : goal.returns-in-Some
unfolding refusals
returns-in-Some c =
    rw (
      c.push_text-in-Some-2.ensures.text,
      c.push_str-in-Some-2.ensures,
      append_assoc c.push_text-in-Some.new.self,
      c.push_text-in-Some.ensures.text,
      append_assoc c.push_str-in-Some.new.self,
      c.push_str-in-Some.ensures,
      append_assoc c.push_text.new.self,
      c.push_text.ensures.text,
      append_assoc c.push_str.new.self,
      c.push_str.ensures,
      c.new-line.ensures,
    )
    (rw (c.in-Some.is, c.decimal.ensures, c.decimal-in-Some.ensures, c.at_place.ensures))
