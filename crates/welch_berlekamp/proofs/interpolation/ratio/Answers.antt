-- `welch_berlekamp::interpolation::ratio` meets its contract: the product fits 16 bits, and frees a of its value.
-- Assumes nothing.
use native.Mathlib.Omega.{arith}
use Rattle.welch_berlekamp.proofs.State.{ratio_is}
use Rattle.welch_berlekamp.proofs.interpolation.ratio.Goals as goal

pub returns : goal.returns
returns c =
    ratio_is _ c.args.a _ (omega arith) (omega arith)
    (c.requires.0.each c.args.b c.requires.2 c.requires.3) (rw c.from.ensures at c.reduce.ensures.0) c.reduce.ensures.1
