-- `grid::lines::carry` meets its contract: the places below r hold what is kept. Assumes nothing.
use mathlib.Core.Path.{◌≡◌}
use Rattle.std.specs.Prelude.{None}
use Rattle.bounded.specs.Bounded.{at}
use Rattle.field.specs.Loop.{Upto}
use Rattle.grid.specs.Answers.{kept}
use Rattle.grid.proofs.lines.carry.Given as goal

abbrev pub invariant-loop-r : goal.invariant-loop-r
invariant-loop-r l =
    Upto 16 None (λ j v. v ≡ kept (at l.leading j) (at l.found j) (at l.costs j) l.radius) l.out l.r
