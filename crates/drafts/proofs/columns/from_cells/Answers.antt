-- `drafts::columns::from_cells` meets its contract: what is exchanged are residues. Assumes nothing.
use native.Mathlib.Omega.{arith}
use Rattle.grid.proofs.Answers.{positive}
use Rattle.drafts.proofs.columns.from_cells.Goals as goal

pub divide_differences-requires-2 : goal.divide_differences-requires-2
divide_differences-requires-2 c =
    let g = c.args.g in
    let R = c.exchange.ensures _ (positive g) c.change_to_powers.ensures c.requires.2 in
    (c.requires.0, R.rows, g.fit.column_points, omega (arith, g.fit.low, g.fit.rows))
