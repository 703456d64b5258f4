use Rattle.claims.proofs.Before.{narrow_reads_alike}
use Rattle.claims.proofs.narrow_reads_alike.Goals as goal

pub returns : goal.returns
returns c = narrow_reads_alike
