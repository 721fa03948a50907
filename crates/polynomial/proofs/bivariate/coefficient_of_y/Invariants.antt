-- `polynomial::bivariate::coefficient_of_y` meets its contract: the places below i are set, the others 0. Assumes nothing.
use mathlib.Core.Bool.{cond}
use Prim.Native.Nat.{◌+◌}
use lib.Dec.{leb}
use Rattle.field.proofs.Row.{Filled}
use Rattle.polynomial.specs.Record.{coef}
use Rattle.polynomial.proofs.bivariate.coefficient_of_y.Given as goal

abbrev pub invariant-loop-i : goal.invariant-loop-i
invariant-loop-i l = Filled (λ k. cond (leb (k + l.t) l.d) (coef l.message k l.t) 0) l.out l.i
