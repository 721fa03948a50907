-- `grid::remainder::subtract` meets its contract: from the rows before r the multiple is subtracted, the others are as
-- they were. Assumes nothing.
use mathlib.Core.Path.{◌≡◌}
use mathlib.Core.List.{[]}
use Prim.Native.Nat.{◌+◌, ◌*◌, ◌-◌, ◌%◌}
use Rattle.bounded.specs.Bounded.{at}
use Rattle.field.specs.Loop.{Passed}
use Rattle.field.specs.Row.{row}
use Rattle.polynomial.specs.Powers.{Rows}
use Rattle.grid.specs.Loops.{line, cell_at}
use Rattle.grid.proofs.remainder.subtract.Given as goal

abbrev pub invariant-loop-r : goal.invariant-loop-r
invariant-loop-r l =
    Rows l.g.modulus.p l.left × Passed l.g.a [] (λ r k. k ≡ line l.initial.left r)
    (λ r k. k ≡ row λ c. (cell_at l.initial.left r c + (l.g.modulus.p - at l.v r) * at l.power c) % l.g.modulus.p) l.left l.r
