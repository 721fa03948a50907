-- `Strip::write` meets its contract: its values are those of one row. Assumes nothing.
use mathlib.Core.Path.{ap, ◌∙◌}
use native.Mathlib.Omega.{arith}
use Rattle.bounded.specs.Bounded.{at, tab}
use Rattle.bounded.proofs.Tab.{tab-eq}
use Rattle.definitions.specs.Code.{mark}
use Rattle.definitions.proofs.Plan.{strip_size_lem}
use Rattle.plan.specs.Says.{bytes_of}
use Rattle.plan.proofs.Said.{says}
use Rattle.plan.proofs.Values.{record_row_lem, strip-values}
use Rattle.writing.proofs.StripWrite.write.Goals as goal

pub row-requires : goal.row-requires
row-requires c =
    let w = c.requires in
    omega (arith, w.given.size, strip_size_lem (bytes_of c.args.plan), w.sound.low, w.sound.tall.most)

pub values-values-requires : goal.values-values-requires
values-values-requires c =
    let g = c.args.plan.grid.fit in
    (c.powers-powers.ensures.0, record_row_lem (says c.args.plan) c.requires.given c.row.ensures, omega (arith, g.low, g.rows))

pub returns : goal.returns
unfolding mark
returns c =
    let plan = c.args.plan in
    c.store.ensures ∙ ap (λ k. tab k (at c.values-values.result)) c.requires.room
    ∙ tab-eq _ (strip-values (says plan) c.args.«record».now c.row.ensures
    (c.values-values.ensures.1 plan.grid.x c.powers-powers.ensures.1))
