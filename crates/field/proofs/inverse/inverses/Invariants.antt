-- `field::inverse::inverses` meets its contract: the entries below a, and those less than a before p, are inverses; entry a is
-- worked out from one of them, and gives its mirror. Assumes nothing.
use Rattle.field.proofs.Made.{Made}
use Rattle.field.proofs.inverse.inverses.Given as goal

abbrev pub invariant-loop-a : goal.invariant-loop-a
invariant-loop-a l = Made l.p l.a l.out
