-- `reading::mark::decoded` meets its contract: what is loaded is what the decoder asks for, and its answer is the reading.
-- Assumes nothing.
use mathlib.Core.Path.{refl, ◌∙◌}
use native.Mathlib.Omega.{arith}
use Rattle.definitions.specs.Code.{oblong}
use Rattle.plan.proofs.Said.{says}
use Rattle.plan.proofs.Values.{mark_cells_lem}
use Rattle.answers.proofs.Summary.{few-cells}
use Rattle.reading.proofs.MarkLoaded.{mark_received, mark-refused, mark-under, message-small, mark-reading, record-room}
use Rattle.reading.proofs.mark.decoded.Goals as goal

pub doubt_rows-u-requires : goal.doubt_rows-u-requires
doubt_rows-u-requires c =
    let g = c.args.plan.grid in
    (g.fit.rows, g.fit.columns, c.requires.photo.doubts ∙ mark_cells_lem (says c.args.plan))

pub residue_rows-s-requires : goal.residue_rows-s-requires
residue_rows-s-requires c =
    let g = c.args.plan.grid in
    (g.fit.rows, g.fit.columns, c.requires.photo.symbols ∙ mark_cells_lem (says c.args.plan))

pub decode-requires : goal.decode-requires
decode-requires c =
    let (rows, doubts) = mark_received (says c.args.plan) c.requires c.residue_rows-s.ensures c.doubt_rows-u.ensures in
    (rows, doubts, c.inverses-table.ensures, refl)

pub returns-in_default-clause-reads : goal.returns-in_default-clause-reads
returns-in_default-clause-reads c =
    mark-refused (says c.args.plan) c.requires c.residue_rows-s.ensures c.doubt_rows-u.ensures c.in_default.ensures.0

pub store-requires : goal.store-requires
store-requires c = (
  omega (arith, (record-room c.requires).1, c.in-Some.ensures.1),
  message-small (says c.args.plan) c.requires c.residue_rows-s.ensures c.doubt_rows-u.ensures c.in-Some.ensures.0,
)

pub differing_cells-differing-requires : goal.differing_cells-differing-requires
differing_cells-differing-requires c = c.requires.photo.symbols ∙ mark_cells_lem (says c.args.plan)

pub reading-requires : goal.reading-requires
reading-requires c =
    let s = says c.args.plan in
    let t = c.requires in
    let symbols = c.residue_rows-s.ensures in
    let doubts = c.doubt_rows-u.ensures in
    let D = c.in-Some.ensures.0 in
    let most = c.radius.ensures.most in
    let is = c.radius.ensures.is in (
      most,
      omega (arith, most, mark-under s t symbols doubts D is),
      few-cells oblong t.photo,
      (mark-reading s t symbols doubts D c.store.ensures c.differing_cells-differing.ensures is).0,
    )

pub returns-clause-reads : goal.returns-clause-reads
returns-clause-reads c =
    let stored = c.store.ensures in
    rw c.reading.ensures
    (mark-reading (says c.args.plan) c.requires c.residue_rows-s.ensures c.doubt_rows-u.ensures c.in-Some.ensures.0 stored
    c.differing_cells-differing.ensures c.radius.ensures.is).1
