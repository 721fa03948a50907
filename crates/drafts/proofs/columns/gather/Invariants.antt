-- `drafts::columns::gather` meets its contract: rows of residues stay such, and at most one line is taken in a turn.
-- Assumes nothing.
use Prim.Native.Nat.{◌≤◌}
use Rattle.field.specs.Row.{Row}
use Rattle.polynomial.specs.Powers.{Rows}
use Rattle.drafts.proofs.columns.gather.Given as goal

abbrev pub invariant-loop-r : goal.invariant-loop-r
invariant-loop-r l = (l.i ≤ l.r) × Rows l.g.modulus.p l.f × Row l.g.modulus.p l.z
