-- The answer by its definition, which has the values of the book.
use Rattle.std.proofs.Common.{rules}
use Rattle.questions.specs.Questions.{producer_totals_of}
use Rattle.questions.proofs.Values.{producer_told}
use Rattle.questions.proofs.producer_totals.Goals as goal

pub returns-in_err-place : goal.returns-in_err-place
unfolding producer_totals_of
returns-in_err-place c = producer_told _ _ (search rules)

pub returns : goal.returns
unfolding producer_totals_of
returns c = producer_told _ _ (search rules)
