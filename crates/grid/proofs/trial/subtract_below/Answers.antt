-- `grid::trial::subtract_below` meets its contract: the columns from Y^j on are subtracted. Assumes nothing.
use mathlib.Core.Path.{◌≡◌}
use Prim.Native.Nat.{suc, ◌-◌}
use native.Mathlib.Omega.{arith}
use Rattle.polynomial.proofs.Powers.{powers-less}
use Rattle.grid.specs.Loops.{line}
use Rattle.grid.proofs.Drawn.{drawn_next, without_subtracted}
use Rattle.grid.proofs.trial.subtract_below.Goals as goal

pub loop-j-preserved : goal.loop-j-preserved
loop-j-preserved c =
    let l = c.loop-j in
    let g = c.args.g in
    let (_, xs, ys, _, _, _) = c.requires in
    let (rows, drawn) = l.invariant in
    let e : l.j ≡ suc (l.j - 1) = omega arith in
    let values = c.values-v.ensures.1 g.x (powers-less g.modulus.p g.x (omega arith) xs) in
    let W = c.subtract.ensures in
    let lessened = without_subtracted (l.j - 1) _ _ (line c.args.columns.now (l.j - 1)) rows values
    (ys.powers.done (l.j - 1) (omega arith)) W in
    (W.rows, λ s u D. drawn_next (omega arith) (rw e at (drawn s u D)) W.rows lessened)

pub returns : goal.returns
returns c =
    let l = c.loop-j in
    let e : l.j ≡ 0 = omega arith in
    λ s u D. rw e at (l.invariant.1 s u D)
