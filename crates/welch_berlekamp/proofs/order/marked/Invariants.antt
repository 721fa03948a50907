-- `welch_berlekamp::order::marked` meets its contract: the places below j hold the keys that are wanted. Assumes nothing.
use mathlib.Core.Bool.{cond}
use lib.Dec.{eqb}
use Rattle.bounded.specs.Bounded.{at}
use Rattle.field.proofs.Row.{Making}
use Rattle.welch_berlekamp.specs.Order.{taken}
use Rattle.welch_berlekamp.proofs.order.marked.Given as goal

abbrev pub invariant-loop-j : goal.invariant-loop-j
invariant-loop-j l = Making (λ k. cond (eqb (at l.w k) 0) taken (at l.keys k)) l.out l.j
