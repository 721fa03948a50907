-- `polynomial::bivariate::set_columns` meets its contract: the columns below t are worked out. Assumes nothing.
use mathlib.Core.Path.{◌≡◌}
use mathlib.Core.List.{List, []}
use Prim.Native.Nat.{ℕ, ◌%◌}
use Rattle.bounded.specs.Bounded.{at}
use Rattle.field.specs.Loop.{Upto}
use Rattle.field.specs.Row.{row}
use Rattle.polynomial.specs.Powers.{Rows, Powers}
use Rattle.polynomial.specs.Record.{coef, column}
use Rattle.polynomial.proofs.bivariate.set_columns.Given as goal

abbrev pub invariant-loop-t : goal.invariant-loop-t
invariant-loop-t l =
    Rows l.modulus.p l.columns
    × ((x : List ℕ) → Powers l.modulus.p x l.d l.powers →
    Upto 16 [] (λ t w. w ≡ row λ r. column l.d (coef l.message) t (at x r) % l.modulus.p) l.columns l.t)
