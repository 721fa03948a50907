-- `reed_muller::message::flatten` meets its contract: the groups before k are written. Assumes nothing.
use Rattle.reed_muller.proofs.Groups.{flat_more}
use Rattle.reed_muller.proofs.message.flatten.Goals as goal

pub loop-k-preserved : goal.loop-k-preserved
loop-k-preserved c = flat_more c.put_group.ensures c.loop-k.invariant
