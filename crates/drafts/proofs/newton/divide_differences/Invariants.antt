-- `drafts::newton::divide_differences` meets its contract: rows of residues stay such. Assumes nothing.
use Rattle.polynomial.specs.Powers.{Rows}
use Rattle.drafts.proofs.newton.divide_differences.Given as goal

abbrev pub invariant-loop-j : goal.invariant-loop-j
invariant-loop-j l = Rows l.modulus.p l.f

abbrev pub invariant-loop-k : goal.invariant-loop-k
invariant-loop-k l = Rows l.modulus.p l.f
