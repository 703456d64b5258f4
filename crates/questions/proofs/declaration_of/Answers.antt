-- The answer by its definition, which has the values of the book.
use Rattle.std.proofs.Common.{rules}
use Rattle.questions.specs.Questions.{declaration_of}
use Rattle.questions.proofs.Values.{declaration_told}
use Rattle.questions.proofs.declaration_of.Goals as goal

pub returns : goal.returns
unfolding declaration_of
returns c = declaration_told _ _ (search rules)
