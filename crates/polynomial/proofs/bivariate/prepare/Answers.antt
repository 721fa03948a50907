-- `polynomial::bivariate::prepare` meets its contract: the row points are put in for X, and the column points are raised to their
-- powers. Assumes nothing.
use Rattle.polynomial.proofs.bivariate.prepare.Goals as goal

pub returns : goal.returns
returns c =
    let C = c.set_columns.ensures in
    let Y = c.set_powers-2.ensures in
    (C.0, C.1 c.args.g.x c.set_powers.ensures.1, Y.0, Y.1)
