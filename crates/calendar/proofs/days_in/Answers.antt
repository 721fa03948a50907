-- `calendar::days_in` meets its contract: February, the months of 30 days, and the others. Assumes nothing.
use mathlib.Core.Path.{sym, ap, ◌∙◌}
use mathlib.Core.Bool.{cond}
use Rattle.calendar.proofs.Real.{other_month}
use Rattle.calendar.proofs.days_in.Goals as goal

pub returns-then-is_short : goal.returns-then-is_short
returns-then-is_short c =
    let e = sym c.is_short.ensures ∙ c.if-is_short.true in
    sym (other_month c.args.year c.args.month c.requires.0 c.requires.1 c.if-month-eq2.false ∙ ap (λ b. cond b 30 31) e)

pub returns-else-is_short : goal.returns-else-is_short
returns-else-is_short c =
    let e = sym c.is_short.ensures ∙ c.if-is_short.false in
    sym (other_month c.args.year c.args.month c.requires.0 c.requires.1 c.if-month-eq2.false ∙ ap (λ b. cond b 30 31) e)
