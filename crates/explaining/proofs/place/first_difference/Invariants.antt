-- `explaining::place::first_difference` meets its contract: none of the first c places differs. Assumes nothing.
use mathlib.Core.Path.{◌≡◌}
use mathlib.Core.Bool.{false, not}
use lib.Dec.{eqb}
use Rattle.bounded.specs.Bounded.{at, any}
use Rattle.explaining.proofs.place.first_difference.Given as goal

abbrev pub invariant-loop-c : goal.invariant-loop-c
invariant-loop-c l = any l.c (λ i. not (eqb (at l.a i) (at l.b i))) ≡ false
