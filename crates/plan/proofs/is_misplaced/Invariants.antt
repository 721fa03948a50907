-- `plan::is_misplaced` meets its contract: what is found is whether one of the first i bytes is wrong. Assumes nothing.
use mathlib.Core.Path.{◌≡◌}
use Rattle.bounded.specs.Bounded.{any}
use Rattle.plan.proofs.Reached.{wrong_pair}
use Rattle.plan.proofs.is_misplaced.Given as goal

abbrev pub invariant-loop-i : goal.invariant-loop-i
invariant-loop-i l = l.found ≡ any l.i (wrong_pair l.plan l.a l.n)
