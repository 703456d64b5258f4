use Rattle.claims.proofs.Before.{as_before}
use Rattle.claims.proofs.as_before.Goals as goal

pub returns : goal.returns
returns c = as_before
