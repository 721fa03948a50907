-- `votes::cast` meets its contract: of nine symbols those that are not 255 cast a vote. Assumes nothing.
use Rattle.std.proofs.Common.{arith}
use Rattle.votes.proofs.Voting.{cast-silent}
use Rattle.votes.proofs.cast.Goals as goal

pub returns : goal.returns
returns c = omega (arith, cast-silent c.args.x 9, c.votes.ensures.0)
