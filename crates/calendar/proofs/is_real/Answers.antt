-- `calendar::is_real` meets its contract: a year or a month outside its bounds, or else the day, decides. Assumes nothing.
use mathlib.Core.Path.{sym, ◌∙◌}
use mathlib.Core.Bool.{true≢false}
use borrow.Author.Tests.{leb-true, le-leb}
use Rattle.bounded.proofs.Parts.{both, each-true}
use Rattle.calendar.proofs.Real.{unreal, real-day}
use Rattle.calendar.proofs.is_real.Goals as goal

pub returns-then-is_month : goal.returns-then-is_month
returns-then-is_month c =
    let (january, _) = both _ _ c.if-is_month.true in
    let (era, _) = both _ _ january in
    let (from, to) = both _ _ era in
    real-day _ (leb-true _ _ from) (leb-true _ _ to) c.days_in.ensures

pub returns-else-is_month : goal.returns-else-is_month
returns-else-is_month c = c.if-is_month.false ∙ unreal _ λ r.
    let era = each-true (le-leb _ _ r.from) (le-leb _ _ r.to) in
    true≢false (sym (each-true (each-true era (le-leb _ _ r.january)) (le-leb _ _ r.december)) ∙ c.if-is_month.false)
