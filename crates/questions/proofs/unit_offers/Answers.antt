-- The answer by its definition, which has the values of the book.
use Rattle.std.proofs.Common.{rules}
use Rattle.questions.specs.Questions.{unit_offers_of}
use Rattle.questions.proofs.Values.{unit_told}
use Rattle.questions.proofs.unit_offers.Goals as goal

pub returns-in_err-place : goal.returns-in_err-place
unfolding unit_offers_of
returns-in_err-place c = unit_told _ _ (search rules)

pub returns-in_err-book : goal.returns-in_err-book
unfolding unit_offers_of
returns-in_err-book c = unit_told _ _ (search rules)

pub returns : goal.returns
unfolding unit_offers_of
returns c = unit_told _ _ (search rules)
