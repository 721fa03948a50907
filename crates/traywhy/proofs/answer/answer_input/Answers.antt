-- `traywhy::answer::answer_input` meets its contract. Assumes nothing.
use mathlib.Core.Path.{sym, ap, ◌∙◌}
use Rattle.definitions.specs.Plan.{check_number}
use Rattle.definitions.proofs.Numbers.{number-some}
use Rattle.definitions.proofs.Why.{plan_why}
use Rattle.traywhy.proofs.answer.answer_input.Goals as goal

pub returns-in-Err : goal.returns-in-Err
returns-in-Err c =
    let e = c.number.ensures ∙ c.in-Err.ensures.number ∙ ap check_number c.first.ensures in
    rw (← plan_why _ c.number.result e (λ z. number-some _ (sym c.number.ensures ∙ z))) c.refused.ensures

pub answer_parts-requires : goal.answer_parts-requires
answer_parts-requires c = c.in-Ok.ensures.plan ∙ c.first.ensures
