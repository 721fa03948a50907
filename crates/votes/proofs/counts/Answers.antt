-- `votes::counts` meets its contract: what is made for each place is its entry. Assumes nothing.
use Rattle.std.proofs.Common.{rules, ◌≡◌, ◌≤◌}
use Rattle.bounded.specs.Bounded.{at}
use Rattle.bounded.proofs.Tab.{tab-is}
use Rattle.votes.specs.Majority.{counted}
use Rattle.votes.proofs.Made.{made-each}
use Rattle.votes.proofs.counts.Goals as goal

pub returns : goal.returns
returns c =
    let x = c.args.x in
    let made = c.from_fn.ensures.items in
    let each = made-each _ (λ k y. (y ≡ counted x k) × (at x k ≤ 255)) _ _ 9 (λ k y q call. search rules) made in
    (tab-is 9 (counted x) c.from_fn.result made.long λ k l. (each k l).0, λ k l. (each k l).1)
