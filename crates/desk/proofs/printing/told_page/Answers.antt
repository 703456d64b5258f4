use Rattle.std.proofs.Common.{List, ℕ, ◌≤◌, ◌++◌, take, sym, ap, ◌∙◌, arith, lit<}
use Rattle.journal.specs.declared.outcome.Run.{Run}
use Rattle.listing.specs.Listing.{listing_most}
use Rattle.desk.specs.Findings.{findings_of}
use Rattle.desk.specs.Printing.{open_number, page_of, unclosed}
use Rattle.desk.proofs.Printed.{number_open, size_fits, front_is, page_run, page-findings_run}
use Rattle.desk.proofs.printing.told_page.Goals as goal

pub front-requires : goal.front-requires
front-requires c =
    let size : c.unwrap_or.result ≤ listing_most = omega (arith, c.unwrap_or.ensures, size_fits c.run-run.result.book c.put_page-printed.result (omega arith) c.put_page-printed.ensures) in
    (lit< tt, (lit< tt, size))

pub returns-clause-output : goal.returns-clause-output
returns-clause-output c =
    c.front.ensures
    ∙ ap (λ n. take n c.put_page-printed.new.out) c.unwrap_or.ensures
    ∙ front_is c.run-run.result.book c.put_page-printed.result (omega arith) c.put_page-printed.ensures
    ∙ ap (λ (r : Run). page_of r.book) c.run-run.ensures
    ∙ sym (page_run c.args.input.now c.if-input-gt-MOST_INPUT.false)

pub returns-clause-findings : goal.returns-clause-findings
returns-clause-findings c =
    c.push_text-2.ensures.text
    ∙ ap (λ (l : List ℕ). l ++ c.unclosed.result) (c.push_text.ensures.text ∙ ap (λ (l : List ℕ). l ++ c.found.result) c.new-findings.ensures ∙ c.found.ensures)
    ∙ ap (λ (l : List ℕ). findings_of c.run-run.result ++ l) c.unclosed.ensures
    ∙ ap (λ n. findings_of c.run-run.result ++ unclosed n) (number_open c.run-run.result.book c.put_page-printed.result (omega arith) c.put_page-printed.ensures)
    ∙ ap (λ (r : Run). findings_of r ++ unclosed (open_number r.book)) c.run-run.ensures
    ∙ sym (page-findings_run c.args.input.now c.if-input-gt-MOST_INPUT.false)
