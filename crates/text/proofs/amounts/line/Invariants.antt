-- The letter and the amounts so far.
use Rattle.std.proofs.Common.{◌≡◌, [], ◌∷◌, ◌++◌, ◌+◌, ◌*◌, ◌≤◌, length, take}
use Rattle.text.specs.Text.{spaced_most, spaced}
use Rattle.text.proofs.amounts.line.Given as goal

abbrev pub invariant-loop-amount : goal.invariant-loop-amount
invariant-loop-amount l =
    record { text : l.line ≡ (l.letter ∷ []) ++ spaced (take l.amount-index l.amounts); room : length l.line ≤ 1 + l.amount-index * spaced_most }
