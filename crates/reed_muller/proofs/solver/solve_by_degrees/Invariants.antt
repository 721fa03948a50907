-- `reed_muller::solver::solve_by_degrees` meets its contract: the coefficients of Y^t and higher are found and subtracted.
-- Assumes nothing.
use Prim.Native.Nat.{◌≤◌}
use Rattle.grid.specs.Axes.{ColumnPowers}
use Rattle.reed_muller.specs.Steps.{Solving}
use Rattle.reed_muller.proofs.solver.solve_by_degrees.Given as goal

abbrev pub invariant-loop-t : goal.invariant-loop-t
invariant-loop-t l =
    Solving l.g l.t l.initial.left l.doubts l.left l.columns l.messages l.known × (l.t ≤ l.g.d → ColumnPowers l.g l.ys)
