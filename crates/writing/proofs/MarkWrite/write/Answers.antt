-- `Mark::write` meets its contract: the plan's points are put in for X and for Y. Assumes nothing.
use mathlib.Core.Path.{◌∙◌}
use native.Mathlib.Omega.{arith}
use Rattle.polynomial.proofs.Powers.{zero-rows}
use Rattle.plan.proofs.Said.{says}
use Rattle.plan.proofs.Values.{record_word_lem, mark_cells_lem, mark-is}
use Rattle.writing.proofs.MarkWrite.write.Goals as goal

pub prepare-requires : goal.prepare-requires
prepare-requires c =
    let least = c.args.plan.grid.fit.prime.least in
    let zeros = zero-rows (omega (arith, least)) in
    (record_word_lem (says c.args.plan) c.requires.given, zeros, zeros)

pub write_rows-requires : goal.write_rows-requires
write_rows-requires c =
    let (columns, _, ys, _) = c.prepare.ensures in
    (columns, ys, c.requires.room ∙ mark_cells_lem (says c.args.plan))

pub returns : goal.returns
returns c =
    let g = c.args.plan.grid in
    let (_, columns, _, ys) = c.prepare.ensures in
    c.write_rows.ensures g.x g.y _ columns ys ∙ mark-is (says c.args.plan) _
