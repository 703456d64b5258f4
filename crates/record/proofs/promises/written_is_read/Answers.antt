use Rattle.record.proofs.RoundTrip.{written_is_read}
use Rattle.record.proofs.promises.written_is_read.Goals as goal

pub returns : goal.returns
returns c = written_is_read
