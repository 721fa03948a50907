-- `grid::lines::answer` meets its contract: the rows before r are answered, of the others what was known is known.
-- Assumes nothing.
use Prim.Native.Nat.{◌<◌}
use native.Mathlib.Omega.{arith}
use Rattle.field.proofs.Loop.{upto_put}
use Rattle.grid.proofs.Loops.{both_step, both_pass}
use Rattle.grid.proofs.Answers.{line-valid, answered-kept}
use Rattle.grid.proofs.lines.answer.Goals as goal
use Rattle.grid.proofs.lines.answer.Goals.{in-Some, in-None}

pub loop-r-preserved : goal.loop-r-preserved
loop-r-preserved c =
    let g = c.args.g in
    let l = c.loop-r in
    let (low, _, du, _, _) = c.requires in
    let (rows, both) = l.invariant in
    let h : l.r < 16 = omega (arith, g.fit.rows) in
    elim c.match-known-r.branch [
      | in-Some w ↦ let K = both.todo l.r (omega arith) c.loop-r-test.true in
          rw (w.messages-is, w.costs-is)
          (rows, both_pass _ h (answered-kept (line-valid g low) (du _ c.loop-r-test.true) w.in-Some.is K) both)
      | in-None w ↦ let A = w.read-line.ensures in
          rw (w.messages-is, w.costs-is) (upto_put _ h A.good rows, both_step _ _ h A both)
    ]
