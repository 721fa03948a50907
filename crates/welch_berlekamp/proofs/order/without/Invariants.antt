-- `welch_berlekamp::order::without` meets its contract: the places below j hold the keys but the one that enters.
-- Assumes nothing.
use mathlib.Core.Bool.{cond}
use lib.Dec.{eqb}
use Rattle.bounded.specs.Bounded.{at}
use Rattle.field.proofs.Row.{Making}
use Rattle.welch_berlekamp.specs.Order.{taken}
use Rattle.welch_berlekamp.proofs.order.without.Given as goal

abbrev pub invariant-loop-j : goal.invariant-loop-j
invariant-loop-j l = Making (λ k. cond (eqb (at l.keys k) l.key) taken (at l.keys k)) l.out l.j
