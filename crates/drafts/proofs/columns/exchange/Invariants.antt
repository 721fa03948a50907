-- `drafts::columns::exchange` meets its contract: columns of residues are made, and those from k on stay. Assumes nothing.
use Prim.Native.Nat.{ℕ, ◌<◌}
use Rattle.polynomial.specs.Powers.{Rows}
use Rattle.drafts.specs.Redrawn.{Redrawn}
use Rattle.drafts.proofs.columns.exchange.Given as goal

abbrev pub invariant-loop-t : goal.invariant-loop-t
invariant-loop-t l =
    (p : ℕ) → 0 < p → Rows p l.f → Rows p l.initial.columns → Redrawn p l.k l.initial.columns l.columns
