-- Each call has a tenth of the number.
use Rattle.text.proofs.amounts.+put_decimal.Given as goal

abbrev pub decreases-put_decimal : goal.decreases-put_decimal
decreases-put_decimal l = l.x
