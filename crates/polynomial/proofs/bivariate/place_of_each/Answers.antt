-- `polynomial::bivariate::place_of_each` meets its contract: each place is place r of its row. Assumes nothing.
use borrow.Author.Rules.{rules}
use Rattle.field.proofs.Row.{row_from_fn}
use Rattle.polynomial.proofs.bivariate.place_of_each.Goals as goal

pub returns : goal.returns
returns c = row_from_fn _ (λ t v g i k. search rules) c.from_fn.ensures.items
