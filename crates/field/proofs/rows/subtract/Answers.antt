-- `field::rows::subtract` meets its contract: each place holds a - b. Assumes nothing.
use borrow.Author.Rules.{rules}
use Rattle.field.proofs.Row.{row_from_fn}
use Rattle.field.proofs.rows.subtract.Goals as goal

pub returns : goal.returns
returns c = row_from_fn _ (λ j v g i k. search rules) c.from_fn.ensures.items
