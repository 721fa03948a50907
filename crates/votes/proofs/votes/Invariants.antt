-- `votes::votes` meets its contract: the photographs so far are counted. Assumes nothing.
use Rattle.std.proofs.Common.{◌≡◌, ◌≤◌}
use Rattle.votes.specs.Votes.{votes}
use Rattle.votes.proofs.votes.Given as goal

abbrev pub invariant-loop-symbol : goal.invariant-loop-symbol
invariant-loop-symbol l = (l.n ≡ votes l.symbol-items l.symbol-index l.v) × (l.n ≤ l.symbol-index)
