-- `plan::first_of` meets its contract: what `position` says of the records that it looks at. Assumes nothing.
use lib.Dec.{lit<}
use borrow.Author.Rules.{rules}
use borrow.Author.Tests.{eqb-true, eqb-false}
use Rattle.plan.proofs.Records.{located}
use Rattle.plan.proofs.first_of.Goals as goal

pub returns : goal.returns
returns c =
    let (u, from, m) = c.position.ensures.runs in
    let s = c.chunks_exact.ensures in
    let records = rw (from, s.size, s.rest) at (s.runs u u.seen) in
    located c.args.file.now c.args.season u (records (lit< tt)) _ _
    (λ x k. search (rules, eqb-true)) (λ x k. search (rules, eqb-false)) (λ a r f k. search rules) _ m
