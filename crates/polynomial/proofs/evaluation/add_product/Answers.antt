-- `polynomial::evaluation::add_product` meets its contract: the sums before j have their product added, the others are as they
-- were. Assumes nothing.
use native.Mathlib.Omega.{arith}
use Rattle.field.proofs.Row.{passed_done}
use Rattle.polynomial.proofs.evaluation.add_product.Goals as goal

pub returns : goal.returns
returns c = passed_done (omega arith) c.loop-j.invariant
