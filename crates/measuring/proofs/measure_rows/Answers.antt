-- `measuring::measure_rows` meets its contract: the rows below r are measured. Assumes nothing.
use Prim.Native.Nat.{◌*◌}
use native.Mathlib.Omega.{arith}
use Rattle.bounded.proofs.Part.{row_in}
use Rattle.polynomial.proofs.Cells.{grid-row}
use Rattle.measuring.proofs.Rows.{measured_part, measured-more}
use Rattle.measuring.proofs.measure_rows.Goals as goal

pub loop-r-preserved : goal.loop-r-preserved
loop-r-preserved c =
    let l = c.loop-r in
    let g = c.args.g in
    let t = c.measure_row-tally.ensures in
    let h = row_in l.r _ g.b c.loop-r-test.true in (
      omega (arith, t.1, l.invariant.0),
      omega (arith, t.2, l.invariant.1),
      λ x y F C P. measured-more g.b l.r _ _ _ (l.invariant.2 x y F C P)
          (measured_part (l.r * g.b) c.args.symbols.now c.args.doubts.now (omega (arith, c.requires.2, h))
          (grid-row g.modulus.p g.d g.b l.r x y F g.fit.columns (c.row_values-values.ensures.1 x y F C P))
          t.0),
    )
