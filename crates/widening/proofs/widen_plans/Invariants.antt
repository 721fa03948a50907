-- `widening::widen_plans` meets its contract: the first k plans are widened. Assumes nothing.
use mathlib.Core.Path.{◌≡◌}
use mathlib.Core.List.{◌++◌}
use Prim.Native.Nat.{◌*◌}
use lib.ListN.{drop}
use Rattle.bounded.specs.Bounded.{tab}
use Rattle.definitions.proofs.Widening.{wide_byte}
use Rattle.widening.proofs.widen_plans.Given as goal

abbrev pub invariant-loop-k : goal.invariant-loop-k
invariant-loop-k l = l.wide ≡ tab (l.k * 40) (wide_byte l.old) ++ drop (l.k * 40) l.initial.wide
