-- `polynomial::evaluation::set_powers` meets its contract: the rows below t are set; the points are row 1. Assumes nothing.
use mathlib.Core.Path.{◌≡◌}
use mathlib.Core.List.{[]}
use Prim.Native.Nat.{◌%◌, ◌^◌}
use lib.ListN.{get_or}
use Rattle.bounded.specs.Bounded.{at}
use Rattle.field.specs.Loop.{Upto}
use Rattle.field.specs.Row.{row}
use Rattle.polynomial.specs.Powers.{Rows}
use Rattle.polynomial.proofs.evaluation.set_powers.Given as goal

abbrev pub invariant-loop-t : goal.invariant-loop-t
invariant-loop-t l =
    Rows l.modulus.p l.rows
    × Upto 16 [] (λ t x. x ≡ row λ j. at (get_or l.initial.rows 1 []) j ^ t % l.modulus.p) l.rows l.t
