-- `answers::margin` meets its contract, by the law on the difference of two numbers below 2^31. Assumes nothing.
use Rattle.answers.proofs.Difference.{margin-is}
use Rattle.answers.proofs.margin.Goals as goal

pub returns : goal.returns
returns c = margin-is c.args.radius c.args.cost c.requires.0 c.requires.1
