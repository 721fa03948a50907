-- `drafts::newton::divide_differences` meets its contract: rows of residues stay such. Assumes nothing.
use Prim.Native.Nat.{◌<◌}
use native.Mathlib.Omega.{arith}
use Rattle.field.proofs.Loop.{upto_put}
use Rattle.field.proofs.Row.{result_row}
use Rattle.drafts.proofs.newton.divide_differences.Goals as goal

pub scale-requires : goal.scale-requires
scale-requires c =
    (result_row _ (omega (arith, c.args.modulus.reciprocal.least)) c.subtract.ensures, omega arith)

pub loop-j-preserved : goal.loop-j-preserved
loop-j-preserved c =
    let small : c.loop-j.j < 16 = omega arith in
    let row = result_row _ (omega (arith, c.args.modulus.reciprocal.least)) c.scale.ensures in
    upto_put _ small row c.loop-j.invariant
