-- `writing::write_rows` meets its contract: the rows below r are written. Assumes nothing.
use mathlib.Core.Path.{◌≡◌}
use mathlib.Core.List.{List, ◌++◌}
use Prim.Native.Nat.{ℕ, ◌*◌}
use lib.ListN.{drop}
use Rattle.bounded.specs.Bounded.{at, tab}
use Rattle.polynomial.specs.Record.{grid_value}
use Rattle.polynomial.specs.Powers.{Powers, Columns}
use Rattle.writing.proofs.write_rows.Given as goal

abbrev pub invariant-loop-r : goal.invariant-loop-r
invariant-loop-r l =
    (x y F : List ℕ) → Columns l.g.modulus.p l.g.d x F l.columns → Powers l.g.modulus.p y l.g.d l.ys →
    l.mark ≡ tab (l.r * l.b) (grid_value l.g.modulus.p l.g.d l.b (at x) (at y) F) ++ drop (l.r * l.b) l.initial.mark
