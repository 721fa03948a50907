-- `welch_berlekamp::interpolation::lift` meets its contract: the pair that is used is 0 at the cell, or not. Assumes nothing.
use native.Mathlib.Omega.{arith}
use Rattle.welch_berlekamp.specs.Pairs.{freed}
use Rattle.welch_berlekamp.proofs.interpolation.lift.Goals as goal

pub returns : goal.returns
returns c = freed c.ratio-c.result c.ratio-c.ensures
    (record { d = c.advance.ensures.1; e = c.advance-2.ensures.1; degree = omega arith })
    (record { d = c.advance.ensures.0; e = c.advance-2.ensures.0; degree = omega arith })
