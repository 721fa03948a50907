-- `polynomial::evaluation::add_product` meets its contract: the sums before j have their product added, the others are as they
-- were. Assumes nothing.
use mathlib.Core.Path.{◌≡◌}
use Prim.Native.Nat.{◌+◌, ◌*◌}
use Rattle.bounded.specs.Bounded.{at}
use Rattle.field.specs.Loop.{Passed}
use Rattle.polynomial.proofs.evaluation.add_product.Given as goal

abbrev pub invariant-loop-j : goal.invariant-loop-j
invariant-loop-j l = Passed 16 0 (λ j s. s ≡ at l.initial.sum j) (λ j s. s ≡ at l.initial.sum j + l.c * at l.v j) l.sum l.j
