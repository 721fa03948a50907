-- `grid::lines::answer` meets its contract: the rows before r are answered, of the others what was known is known.
-- Assumes nothing.
use mathlib.Core.List.{[]}
use Rattle.std.specs.Prelude.{get_or, None}
use Rattle.polynomial.specs.Powers.{Rows}
use Rattle.grid.specs.Loops.{line, Both}
use Rattle.grid.specs.Answers.{Known, Answered}
use Rattle.grid.proofs.lines.answer.Given as goal

abbrev pub invariant-loop-r : goal.invariant-loop-r
invariant-loop-r l =
    Rows l.axis.modulus.p l.messages ×
    Both l.fn.g.a [] (λ r w. Known l.axis (line l.left r) (line l.doubts r) w (get_or l.known r None))
    (λ r. Answered l.axis (line l.left r) (line l.doubts r)) l.messages l.costs l.r
