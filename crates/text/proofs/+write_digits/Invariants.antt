-- `text::write_digits` meets its contract: n falls. Assumes nothing.
use Rattle.text.proofs.+write_digits.Given as goal

abbrev pub decreases-write_digits : goal.decreases-write_digits
decreases-write_digits l = l.n
