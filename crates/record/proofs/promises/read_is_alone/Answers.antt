use Rattle.record.proofs.RoundTrip.{read_is_alone}
use Rattle.record.proofs.promises.read_is_alone.Goals as goal

pub returns : goal.returns
returns c = read_is_alone
