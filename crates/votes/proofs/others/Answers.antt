-- `votes::others` meets its contract: what is made for each place is its entry. Assumes nothing.
use Rattle.std.proofs.Common.{rules}
use Rattle.votes.proofs.Made.{made-tab}
use Rattle.votes.proofs.others.Goals as goal

pub returns : goal.returns
returns c = made-tab _ _ _ _ 9 (λ k y q call. search rules) c.from_fn.ensures.items
