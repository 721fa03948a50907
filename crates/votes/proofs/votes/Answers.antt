-- `votes::votes` meets its contract: the photographs so far are counted. Assumes nothing.
use Rattle.std.proofs.Common.{rules, ◌≡◌, refl, arith, cond}
use lib.Dec.{eqb}
use Rattle.bounded.specs.Bounded.{at}
use Rattle.votes.specs.Votes.{votes}
use Rattle.votes.proofs.Voting.{votes-next}
use Rattle.votes.proofs.votes.Goals as goal

pub loop-symbol-init : goal.loop-symbol-init
unfolding votes
loop-symbol-init c = (refl, omega arith)

pub loop-symbol-preserved : goal.loop-symbol-preserved
loop-symbol-preserved c =
    let one : c.from-n.result ≡ cond (eqb (at c.args.x c.loop-symbol.symbol-index) c.args.v) 1 0 = search rules in
    (votes-next _ _ _ c.loop-symbol.invariant.0 one, search rules)
