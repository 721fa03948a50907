-- `votes::most` meets its contract: it has the largest of those so far. Assumes nothing.
use Rattle.std.proofs.Common.{refl, ◌∙◌}
use Rattle.votes.specs.Votes.{most}
use Rattle.votes.proofs.Largest.{most-next}
use Rattle.votes.proofs.most.Goals as goal

pub loop-v-init : goal.loop-v-init
unfolding most
loop-v-init c = refl

pub loop-v-preserved : goal.loop-v-preserved
loop-v-preserved c = c.max-m.ensures ∙ most-next _ _ c.loop-v.invariant refl
