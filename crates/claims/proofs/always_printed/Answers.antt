use Rattle.claims.proofs.Printed.{always_printed}
use Rattle.claims.proofs.always_printed.Goals as goal

pub returns : goal.returns
returns c = always_printed
