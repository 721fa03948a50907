-- `welch_berlekamp::order::least` meets its contract: the least of the keys below j. Assumes nothing.
use Rattle.welch_berlekamp.specs.Order.{Least}
use Rattle.welch_berlekamp.proofs.order.least.Given as goal

abbrev pub invariant-loop-j : goal.invariant-loop-j
invariant-loop-j l = Least l.j l.keys l.best
