-- `welch_berlekamp::interpolation::Pairs::enter` meets its contract: one pair or the other is used. Assumes nothing.
use Prim.Native.Nat.{◌<◌, ◌≤◌}
use native.Mathlib.Omega.{arith}
use Rattle.field.specs.Row.{Row}
use Rattle.field.proofs.Row.{result_row}
use Rattle.bounded.specs.Bounded.{at}
use Rattle.welch_berlekamp.proofs.State.{first_used, second_used}
use Rattle.welch_berlekamp.proofs.interpolation.Pairs.enter.Goals as goal
use Rattle.welch_berlekamp.proofs.interpolation.Pairs.enter.Goals.{After-shift-w}

-- the differences are known
module _ (c : After-shift-w) where
  positive : 0 < c.args.modulus.p
  positive = omega (arith, c.requires.2.small 0)

  inside : at c.args.x c.args.r ≤ c.args.modulus.p
  inside = omega (arith, c.requires.2.small c.args.r)

  differences : Row c.args.modulus.p c.shift-w.result
  differences = result_row _ positive c.shift-w.ensures

pub lift-requires : goal.lift-requires
lift-requires c =
    let (I, S, _, _, _, _) = c.requires in
    (I, S.first, S.second, differences (goal.at.lift-requires c).After-shift-w, omega arith, omega arith, omega arith)

pub lift-requires-else-self-k : goal.lift-requires-else-self-k
lift-requires-else-self-k c =
    let (I, S, _, _, _, _) = c.requires in
    (I, S.second, S.first, differences (goal.at.lift-requires-else-self-k c).After-shift-w, omega arith, omega arith, omega arith)

pub returns-then-self-k : goal.returns-then-self-k
returns-then-self-k c =
    let b = (goal.at.returns-then-self-k c).After-shift-w in
    first_used (positive b) (inside b) c.shift-w.ensures c.requires.1 (omega arith) c.lift.ensures

pub returns-else-self-k : goal.returns-else-self-k
returns-else-self-k c =
    let b = (goal.at.returns-else-self-k c).After-shift-w in
    second_used (positive b) (inside b) c.shift-w.ensures c.requires.1 (omega arith) c.lift-else-self-k.ensures
