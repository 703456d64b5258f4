-- `record::promises::meets_as_before` meets its contract. Assumes nothing.
use Rattle.table.proofs.Old.{meets_as_before}
use Rattle.record.proofs.promises.meets_as_before.Goals as goal

pub returns : goal.returns
returns c = meets_as_before
