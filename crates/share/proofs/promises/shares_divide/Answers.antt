-- `share::promises::shares_divide` meets its contract: by the laws of the division.
-- Assumes nothing.
use Rattle.share.proofs.promises.shares_divide.Goals as goal

pub returns : goal.returns
returns c = Rattle.share.proofs.Laws.shares_divide
