-- `planwiden::answer::answer_input` meets its contract: by the outcome of the call. Assumes nothing.
use Rattle.std.proofs.Common.{length, ap, ◌∙◌, length-take-le, take-append-drop, arith}
use Rattle.definitions.specs.Printed.{refused_line}
use Rattle.definitions.proofs.Numbers.{number-some}
use Rattle.definitions.proofs.Widening.{widen-refused, widen-filled, print_widened, print_refused, widened_in_order}
use Rattle.planwiden.proofs.answer.answer_input.Goals as goal

pub returns-in-Ok-clause-length : goal.returns-in-Ok-clause-length
returns-in-Ok-clause-length c =
    let all = print_widened _ _ (length-take-le _ _ c.requires.0) c.in-Ok.ensures.number in
    omega (arith, ap length all, (widened_in_order c.args.old.now).whole)

pub returns-in-Ok-clause-decided : goal.returns-in-Ok-clause-decided
returns-in-Ok-clause-decided c =
    let e = c.in-Ok.ensures in
    let all = print_widened _ _ (length-take-le _ _ c.requires.0) e.number in
    rw (e.buffer, ← widen-filled _ _ e.number, all)

pub returns-in-Err-clause-length : goal.returns-in-Err-clause-length
returns-in-Err-clause-length c =
    let line = print_refused _ _ (length-take-le _ _ c.requires.0) _ c.in-Err.ensures.number (number-some c.in-Err.refusal) in
    c.put.ensures.length ∙ ap length (c.as_bytes.ensures ∙ c.refused.ensures ∙ ap refused_line c.number.ensures ∙ line)

pub returns-in-Err-clause-decided : goal.returns-in-Err-clause-decided
returns-in-Err-clause-decided c =
    let e = c.in-Err.ensures in
    let refused = number-some c.in-Err.refusal in
    let line = print_refused _ _ (length-take-le _ _ c.requires.0) _ e.number refused in
    let kept = e.buffer ∙ widen-refused _ _ (λ z. refused (e.number ∙ z)) in
    rw (kept, take-append-drop) at (rw (c.as_bytes.ensures ∙ c.refused.ensures ∙ ap refused_line c.number.ensures ∙ line)
    at c.put.ensures.line)
