-- `reading::mark::differing_cells` meets its contract: the rows before r are counted. Assumes nothing.
use native.Mathlib.Omega.{arith}
use Rattle.bounded.proofs.Part.{row_in}
use Rattle.reading.proofs.Cells.{differing_more}
use Rattle.reading.proofs.mark.differing_cells.Goals as goal

pub loop-r-preserved : goal.loop-r-preserved
loop-r-preserved c =
    let l = c.loop-r in
    let given = c.args in
    let inside = row_in l.r given.g.a given.g.b c.loop-r-test.true in
    let more = differing_more given.g.b l.r given.symbols.now given.left.now (omega (arith, c.requires, inside))
    c.differing_in_row-sum.ensures.0 in
    (omega (arith, more, l.invariant.0), omega (arith, c.differing_in_row-sum.ensures.1))
