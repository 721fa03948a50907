-- `welch_berlekamp::order::keys` meets its contract: the keys are those of j cells. Assumes nothing.
use mathlib.Core.Path.{◌≡◌}
use native.Mathlib.Omega.{arith}
use Rattle.field.proofs.Row.{upto_row}
use Rattle.welch_berlekamp.proofs.order.keys.Goals as goal

pub returns : goal.returns
returns c = let e : c.loop-j.j ≡ c.args.n = omega arith in upto_row (rw e at c.loop-j.invariant)
