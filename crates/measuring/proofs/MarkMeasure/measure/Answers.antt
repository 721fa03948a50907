-- `Mark::measure` meets its contract: the plan's points are put in for X and for Y. Assumes nothing.
use mathlib.Core.Path.{◌∙◌}
use native.Mathlib.Omega.{arith}
use Rattle.bounded.specs.Bounded.{at}
use Rattle.definitions.specs.Code.{oblong, cells, value}
use Rattle.definitions.specs.Cost.{full}
use Rattle.plan.specs.Says.{bytes_of}
use Rattle.polynomial.proofs.Powers.{zero-rows}
use Rattle.plan.proofs.Said.{says}
use Rattle.plan.proofs.Values.{record_word_lem, mark_cells_lem}
use Rattle.answers.proofs.Summary.{few-cells, unread-within, summary-is}
use Rattle.measuring.specs.Measured.{Measured}
use Rattle.measuring.proofs.Rows.{mark-measured}
use Rattle.measuring.proofs.MarkMeasure.measure.Goals as goal
use Rattle.measuring.proofs.MarkMeasure.measure.Goals.{After-measure_rows-tally}

-- the rows are measured
measured : (c : After-measure_rows-tally) → let P = bytes_of c.args.plan in
    Measured (full P) (cells oblong P) (at c.args.symbols.now) (at c.args.doubts.now)
    (value oblong P c.args.«record».now) c.measure_rows-tally.result.cost c.measure_rows-tally.result.differing
measured c =
    let g = c.args.plan.grid in
    let (_, columns, _, ys) = c.prepare.ensures in
    mark-measured (says c.args.plan) c.args.«record».now (c.measure_rows-tally.ensures.1 g.x g.y _ columns ys)

pub prepare-requires : goal.prepare-requires
prepare-requires c =
    let least = c.args.plan.grid.fit.prime.least in
    let zeros = zero-rows (omega (arith, least)) in
    (record_word_lem (says c.args.plan) c.requires.1, zeros, zeros)

pub measure_rows-tally-requires : goal.measure_rows-tally-requires
measure_rows-tally-requires c =
    let s = says c.args.plan in
    let photo = c.requires.0 in
    let (columns, _, ys, _) = c.prepare.ensures in (
      columns,
      ys,
      photo.symbols ∙ mark_cells_lem s,
      photo.doubts ∙ mark_cells_lem s,
      λ i l. simp s.full (photo.doubt i (simp (mark_cells_lem s) l)).0,
    )

pub reading-requires : goal.reading-requires
reading-requires c =
    let photo = c.requires.0 in (
      c.radius.ensures.most,
      omega (arith, c.measure_rows-tally.ensures.0),
      few-cells oblong photo,
      unread-within _ photo (measured (goal.at.reading-requires c).After-measure_rows-tally).count,
    )

pub returns : goal.returns
returns c =
    let m = measured (goal.at.returns c).After-measure_rows-tally in
    c.reading.ensures ∙ summary-is _ c.requires.0 m.count c.radius.ensures.is m.sum
