use Rattle.claims.proofs.Journals.{every_journal}
use Rattle.claims.proofs.every_journal.Goals as goal

pub returns : goal.returns
returns c = every_journal
