-- `reed_solomon::decoder::chosen` meets its contract: the places below j are chosen as they should. Assumes nothing.
use mathlib.Core.Bool.{cond}
use lib.Dec.{eqb}
use Rattle.bounded.specs.Bounded.{at}
use Rattle.field.proofs.Row.{Making}
use Rattle.reed_solomon.proofs.decoder.chosen.Given as goal

abbrev pub invariant-loop-j : goal.invariant-loop-j
invariant-loop-j l = Making (λ k. cond (eqb (at l.e k) 0) l.z (at l.v k)) l.out l.j
