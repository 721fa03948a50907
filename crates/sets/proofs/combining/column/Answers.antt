-- `sets::combining::column` meets its contract: each call of the closure reads one photograph's symbol. Assumes nothing.
use borrow.Author.Rules.{rules}
use Rattle.definitions.specs.Sets.{column}
use Rattle.sets.proofs.Made.{made}
use Rattle.sets.proofs.combining.column.Goals as goal

pub returns : goal.returns
unfolding column
returns c = made _ _ _ c.from_fn.result (λ i y q k. (search rules, search rules)) 9 c.from_fn.ensures.items
