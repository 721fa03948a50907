-- `drafts::newton::change_to_powers` meets its contract: rows of residues stay such. Assumes nothing.
use Rattle.field.specs.Row.{Row}
use Rattle.polynomial.specs.Powers.{Rows}
use Rattle.drafts.proofs.newton.change_to_powers.Given as goal

abbrev pub invariant-loop-j : goal.invariant-loop-j
invariant-loop-j l = Row l.modulus.p l.high × Rows l.modulus.p l.f

abbrev pub invariant-loop-i : goal.invariant-loop-i
invariant-loop-i l = Rows l.modulus.p l.f
