use Rattle.page.proofs.Paging.{always_paged}
use Rattle.page.proofs.promises.always_paged.Goals as goal

pub returns : goal.returns
returns c = always_paged
