-- `reed_muller::message::put_group` meets its contract: the first j coefficients of the group are written. Assumes nothing.
use Rattle.reed_muller.specs.Groups.{Grouped}
use Rattle.reed_muller.proofs.message.put_group.Given as goal

abbrev pub invariant-loop-j : goal.invariant-loop-j
invariant-loop-j l = Grouped l.columns l.k l.j l.initial.message l.message
