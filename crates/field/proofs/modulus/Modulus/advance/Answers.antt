-- `field::modulus::Modulus::advance` meets its contract: the places below j hold a + c b and b w, the others are as they were.
-- Assumes nothing.
use native.Mathlib.Omega.{arith}
use Rattle.field.proofs.Row.{passed_done}
use Rattle.field.proofs.modulus.Modulus.advance.Goals as goal

pub returns : goal.returns
returns c = (passed_done (omega arith) c.loop-j.invariant.0, passed_done (omega arith) c.loop-j.invariant.1)
