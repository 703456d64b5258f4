use Rattle.std.proofs.Common.{arith}
use Rattle.std.proofs.lemmas.Grind.{common_steps}
use Rattle.text.specs.Text.{amount_of}
use Rattle.text.proofs.Alignment.{column_parts}
use Rattle.text.proofs.amounts.Amount.column.Goals as goal

pub returns : goal.returns
returns g c =
    let parts = column_parts g.row.WIDTH (amount_of c.args.self) c.min-kept.result (grind (arith, common_steps)) in
    grind (arith, common_steps, parts)
