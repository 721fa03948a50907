-- `grid::remainder::measure` meets its contract: the rows before r are measured; a row costs at most 2,097,152.
-- Assumes nothing.
use native.Mathlib.Omega.{arith}
use Rattle.grid.proofs.Drawn.{remaining-more}
use Rattle.grid.proofs.remainder.measure.Goals as goal

pub loop-r-preserved : goal.loop-r-preserved
loop-r-preserved c =
    let args = c.args in
    let narrow = args.g.fit.columns in
    let (is, most) = c.word_cost-sum.ensures in
    let more = remaining-more args.g.full c.loop-r.r args.g.b args.doubts.now args.left.now narrow in
    (omega (arith, more, c.loop-r.invariant.0, is), omega (arith, most, narrow))
