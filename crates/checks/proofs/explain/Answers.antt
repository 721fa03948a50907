-- `checks::explain` meets its contract: the buffer comes first, and then what measuring tests. Assumes nothing.
use mathlib.Core.Path.{sym, ap, ◌∙◌}
use borrow.Author.Tests.{eqb-true, eqb-false, not-false, not-true}
use Rattle.definitions.specs.Numbers.{number}
use Rattle.definitions.proofs.Sound.{checked}
use Rattle.definitions.proofs.Numbers.{handed}
use Rattle.definitions.proofs.Accepted.{explain-short, explain-measured}
use Rattle.checks.proofs.explain.Goals as goal

pub returns-in_err-when : goal.returns-in_err-when
returns-in_err-when g c =
    let (six, short) = c.in_err-when.ensures in
    handed _ _ c.from_residual.ensures.1 ∙ ap number six
    ∙ explain-short _ _ _ _ _ _ (checked _ c.args.plan.sound)
    (λ e. eqb-false _ _ (not-true _ short) (e ∙ sym c.record_size.ensures))

pub returns : goal.returns
returns g c =
    let room = eqb-true _ _ (not-false _ c.in_ok-when.ensures) ∙ c.record_size.ensures in
    c.measure.ensures ∙ explain-measured _ _ _ _ _ _ (checked _ c.args.plan.sound) room
