-- The answer by its definition, which has the values of the book.
use Rattle.std.proofs.Common.{rules}
use Rattle.questions.specs.Questions.{adjustment_of}
use Rattle.questions.proofs.Values.{adjustment_told}
use Rattle.questions.proofs.adjustment_of.Goals as goal

pub returns-then-ne : goal.returns-then-ne
unfolding adjustment_of
returns-then-ne c = adjustment_told _ _ (search rules)

pub returns-in_err-place : goal.returns-in_err-place
unfolding adjustment_of
returns-in_err-place c = adjustment_told _ _ (search rules)

pub returns-in_err-figures : goal.returns-in_err-figures
unfolding adjustment_of
returns-in_err-figures c = adjustment_told _ _ (search rules)

pub returns : goal.returns
unfolding adjustment_of
returns c = adjustment_told _ _ (search rules)
