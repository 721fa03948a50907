-- `polynomial::evaluation::powers` meets its contract: the powers are set in a table of zeros. Assumes nothing.
use native.Mathlib.Omega.{arith}
use Rattle.polynomial.proofs.Powers.{zero-rows}
use Rattle.polynomial.proofs.evaluation.powers.Goals as goal

pub set_powers-requires : goal.set_powers-requires
set_powers-requires c = let (x, d) = c.requires in (x, d, zero-rows (omega (arith, c.args.modulus.reciprocal.least)))
