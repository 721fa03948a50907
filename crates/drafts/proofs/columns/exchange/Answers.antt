-- `drafts::columns::exchange` meets its contract: columns of residues are made, and those from k on stay. Assumes nothing.
use mathlib.Core.Path.{◌∙◌}
use mathlib.Core.List.{[]}
use native.Mathlib.Omega.{arith}
use lib.Seq.{get_or-set_other}
use Rattle.field.proofs.Loop.{upto_put}
use Rattle.grid.proofs.Answers.{column-row}
use Rattle.drafts.proofs.columns.exchange.Goals as goal

pub loop-t-preserved : goal.loop-t-preserved
loop-t-preserved c p pos rows old =
    let l = c.loop-t in
    let R = l.invariant p pos rows old in
    record {
      rows = upto_put _ (omega arith) (column-row l.t pos rows c.place_of_each.ensures) R.rows;
      kept = λ j k. get_or-set_other l.columns l.t j c.place_of_each.result [] (omega arith) ∙ R.kept j k;
    }
