-- `reed_muller::message::flatten` meets its contract: the groups before k are written. Assumes nothing.
use Rattle.reed_muller.specs.Groups.{Flat}
use Rattle.reed_muller.proofs.message.flatten.Given as goal

abbrev pub invariant-loop-k : goal.invariant-loop-k
invariant-loop-k l = Flat l.columns l.k l.message
