-- `grid::trial::subtract_below` meets its contract: the columns from Y^j on are subtracted. Assumes nothing.
use mathlib.Core.List.{List}
use Prim.Native.Nat.{ℕ}
use Rattle.polynomial.specs.Powers.{Rows}
use Rattle.grid.specs.Drawn.{Drawn}
use Rattle.grid.proofs.trial.subtract_below.Given as goal

abbrev pub invariant-loop-j : goal.invariant-loop-j
invariant-loop-j l =
    Rows l.g.modulus.p l.left ×
    ((s u : List (List ℕ)) → Drawn l.g l.t s u l.initial.left l.columns → Drawn l.g l.j s u l.left l.columns)
