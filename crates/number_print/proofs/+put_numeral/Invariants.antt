-- Why `put_numeral`, which calls itself, ends.
use Rattle.number_print.proofs.+put_numeral.Given as goal

abbrev pub decreases-put_numeral : goal.decreases-put_numeral
decreases-put_numeral l = l.k
