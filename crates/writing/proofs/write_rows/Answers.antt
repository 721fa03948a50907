-- `writing::write_rows` meets its contract: the rows below r are written. Assumes nothing.
use mathlib.Core.Path.{ap, ◌∙◌}
use native.Mathlib.Omega.{arith}
use native.Mathlib.Nat.{zero-mul}
use Rattle.bounded.specs.Bounded.{at, tab}
use Rattle.bounded.proofs.Tab.{tab-eq}
use Rattle.bounded.proofs.Part.{part_length, row_in, row_more}
use Rattle.polynomial.specs.Record.{grid_value}
use Rattle.polynomial.proofs.Cells.{grid-row}
use Rattle.writing.proofs.write_rows.Goals as goal

pub loop-r-init : goal.loop-r-init
unfolding tab
loop-r-init c x y F C P = rw zero-mul

pub loop-r-preserved : goal.loop-r-preserved
loop-r-preserved c x y F C P =
    let l = c.loop-r in
    let g = c.args.g in
    let within = row_in l.r g.a g.b c.loop-r-test.true in
    row_more g.b l.r (grid_value g.modulus.p g.d g.b (at x) (at y) F) c.args.mark.now l.mark _ (l.invariant x y F C P)
    (c.store.ensures
    ∙ ap (λ k. tab k (at c.row_values-values.result)) (part_length _ _ l.mark (omega (arith, c.requires.2, within)))
    ∙ tab-eq g.b (grid-row g.modulus.p g.d g.b l.r x y F g.fit.columns (c.row_values-values.ensures.1 x y F C P)))
