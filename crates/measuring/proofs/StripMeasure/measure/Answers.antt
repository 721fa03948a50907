-- `Strip::measure` meets its contract: a strip is measured as one row. Assumes nothing.
use mathlib.Core.Path.{sym, ◌∙◌}
use native.Mathlib.Omega.{arith}
use Rattle.bounded.specs.Bounded.{at}
use Rattle.definitions.specs.Code.{strip, cells, value}
use Rattle.definitions.specs.Cost.{full}
use Rattle.definitions.proofs.Plan.{strip_size_lem}
use Rattle.plan.specs.Says.{bytes_of}
use Rattle.plan.proofs.Said.{says}
use Rattle.plan.proofs.Values.{record_row_lem, strip-values}
use Rattle.answers.proofs.Summary.{few-cells, unread-within, summary-is}
use Rattle.measuring.specs.Measured.{Measured}
use Rattle.measuring.proofs.Rows.{strip-measured}
use Rattle.measuring.proofs.StripMeasure.measure.Goals as goal
use Rattle.measuring.proofs.StripMeasure.measure.Goals.{After-measure_row-tally}

-- the row is measured
measured : (c : After-measure_row-tally) → let P = bytes_of c.args.plan in
    Measured (full P) (cells strip P) (at c.args.symbols.now) (at c.args.doubts.now)
    (value strip P c.args.«record».now) c.measure_row-tally.result.cost c.measure_row-tally.result.differing
measured c =
    let s = says c.args.plan in
    strip-measured c.requires.0 s (strip-values s c.args.«record».now c.row.ensures
    (c.values-values.ensures.1 c.args.plan.grid.x c.powers-powers.ensures.1)) c.measure_row-tally.ensures.0

pub row-requires : goal.row-requires
row-requires c =
    let (photo, given) = c.requires in
    omega (arith, given.size, strip_size_lem (bytes_of c.args.plan), photo.sound.low, photo.sound.tall.most)

pub values-values-requires : goal.values-values-requires
values-values-requires c =
    let g = c.args.plan.grid.fit in
    (c.powers-powers.ensures.0, record_row_lem (says c.args.plan) c.requires.1 c.row.ensures, omega (arith, g.low, g.rows))

pub measure_row-tally-requires : goal.measure_row-tally-requires
measure_row-tally-requires c =
    let photo = c.requires.0 in (
      omega (arith, photo.symbols, photo.sound.tall.most),
      photo.doubts ∙ sym photo.symbols,
      omega (arith, c.args.plan.grid.fit.full),
      λ i l. simp (says c.args.plan).full (photo.doubt i (rw photo.symbols at l)).0,
    )

pub reading-requires : goal.reading-requires
reading-requires c =
    let photo = c.requires.0 in (
      c.radius.ensures.most,
      omega (arith, c.measure_row-tally.ensures.1),
      few-cells strip photo,
      unread-within _ photo (measured (goal.at.reading-requires c).After-measure_row-tally).count,
    )

pub returns : goal.returns
returns c =
    let m = measured (goal.at.returns c).After-measure_row-tally in
    c.reading.ensures ∙ summary-is _ c.requires.0 m.count c.radius.ensures.is m.sum
