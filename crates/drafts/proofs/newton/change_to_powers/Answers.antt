-- `drafts::newton::change_to_powers` meets its contract: rows of residues stay such. Assumes nothing.
use native.Mathlib.Omega.{arith}
use Rattle.field.proofs.Loop.{upto_put}
use Rattle.field.proofs.Row.{result_row}
use Rattle.drafts.proofs.newton.change_to_powers.Goals as goal

pub loop-j-preserved : goal.loop-j-preserved
loop-j-preserved c =
    let next = result_row _ (omega (arith, c.args.modulus.reciprocal.least)) c.add_multiple-next.ensures in
    (next, upto_put _ (omega arith) next c.loop-j.invariant.1)
