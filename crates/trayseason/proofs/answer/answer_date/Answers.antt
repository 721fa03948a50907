-- `trayseason::answer::answer_date` meets its contract: by the outcome of the search. Assumes nothing.
use Rattle.std.proofs.Common.{length, refl, ap, ◌∙◌, length-append, arith}
use Rattle.definitions.specs.Printed.{refused_line}
use Rattle.definitions.proofs.Numbers.{number-some}
use Rattle.definitions.proofs.Printed.{decimal-length}
use Rattle.definitions.proofs.Dated.{print_season, print_refused}
use Rattle.trayseason.proofs.answer.answer_date.Goals as goal

-- a number has at most ten digits
pub put_natural-requires : goal.put_natural-requires
put_natural-requires c = omega (arith, decimal-length 9 c.from.result (omega arith), ap length c.new-text.ensures)

pub put_byte-requires : goal.put_byte-requires
put_byte-requires c =
    let l = simp length-append at (ap length c.put_natural.ensures) in
    omega (arith, decimal-length 9 c.from.result (omega arith), ap length c.new-text.ensures, l)

pub returns-in-Ok : goal.returns-in-Ok
returns-in-Ok c =
    let e = c.in-Ok.ensures in
    rw (c.put_byte.ensures, c.put_natural.ensures, c.new-text.ensures, c.from.ensures)
    (print_season c.args.date c.args.file.now e.number refl e.season)

pub returns-in-Err : goal.returns-in-Err
returns-in-Err c =
    c.refused.ensures ∙ ap refused_line c.number.ensures
    ∙ print_refused c.args.date c.args.file.now c.in-Err.ensures.number (number-some c.in-Err.refusal)
