-- `reading::load::rows` meets its contract: the rows before r are loaded. Assumes nothing.
use mathlib.Core.Path.{◌≡◌}
use mathlib.Core.List.{[]}
use lib.ListN.{replicate}
use Rattle.std.specs.Fn.{FnReturnsAt}
use Rattle.field.specs.Loop.{Passed}
use Rattle.reading.specs.Loading.{line}
use Rattle.reading.proofs.load.rows.Given as goal

abbrev pub invariant-loop-r : goal.invariant-loop-r
invariant-loop-r g l =
    Passed 16 [] (λ _ x. x ≡ replicate 16 l.fn.zero) (λ r x. FnReturnsAt g.F.Fn l.load (line l.b r l.bytes) x) l.rows l.r
