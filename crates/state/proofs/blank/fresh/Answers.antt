-- `state::blank::fresh` meets its contract: each array is of as many equal elements. Assumes nothing.
use mathlib.Core.Path.{refl}
use Rattle.state.specs.State.{fresh_book}
use Rattle.state.proofs.blank.fresh.Goals as goal

pub returns : goal.returns
unfolding fresh_book
returns c = rw (c.before.fresh_unit.ensures, c.no_figures.ensures) refl
