-- `votes::most` meets its contract: it has the largest of those so far. Assumes nothing.
use Rattle.std.proofs.Common.{◌≡◌}
use Rattle.bounded.specs.Bounded.{at}
use Rattle.votes.specs.Votes.{most}
use Rattle.votes.proofs.most.Given as goal

abbrev pub invariant-loop-v : goal.invariant-loop-v
invariant-loop-v l = l.m ≡ most l.v-index (at l.v-items)
