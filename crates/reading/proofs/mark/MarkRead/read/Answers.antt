-- `Mark::read` meets its contract: by the law of the doubts' sum, and else by the decoder. Assumes nothing.
use native.Mathlib.Omega.{arith}
use Rattle.reading.proofs.Early.{doubts_refuse}
use Rattle.reading.proofs.mark.MarkRead.read.Goals as goal

pub returns-then-total-radius-clause-reads : goal.returns-then-total-radius-clause-reads
returns-then-total-radius-clause-reads c =
    doubts_refuse c.requires c.radius.ensures.is (omega (arith, c.total.ensures, c.if-total-radius.true))
