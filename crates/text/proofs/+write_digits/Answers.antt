-- `text::write_digits` meets its contract: the digits of a tenth and the last digit are the digits. Assumes nothing.
use Rattle.std.proofs.Common.{◌≡◌, ℕ, ◌+◌, ◌/◌, ◌≤◌, ◌<◌, length, refl, ap, ◌∙◌, length-append, arith}
use Rattle.std.proofs.lemmas.List.{take_more_set}
use Rattle.definitions.specs.Printed.{decimal}
use Rattle.definitions.proofs.Printed.{decimal_digit, decimal-more}
use Rattle.text.proofs.+write_digits.Goals as goal

-- a number of two digits or more has one digit more than its tenth
longer : (n : ℕ) → 10 ≤ n → length (decimal n) ≡ length (decimal (n / 10)) + 1
longer n h = rw (decimal-more n h, length-append)

pub bounds-room-0 : goal.bounds-room-0
bounds-room-0 t c = omega (arith, c.requires, ap length (decimal_digit _ c.if-n-lt10.true))

pub returns-then-n-lt10 : goal.returns-then-n-lt10
returns-then-n-lt10 t c =
    let e = decimal_digit _ c.if-n-lt10.true in
    rw e (record { count = refl; digits = take_more_set c.args.room.now 0 _ (omega (arith, c.requires, ap length e)) })

pub write_digits-end-requires : goal.write_digits-end-requires
write_digits-end-requires t c = (omega (arith, c.decreases), omega (arith, c.requires, longer _ c.if-n-lt10.false))

pub bounds-room-end : goal.bounds-room-end
bounds-room-end t c = omega (arith, c.requires, longer _ c.if-n-lt10.false, c.write_digits-end.ensures.count)

pub returns : goal.returns
returns t c =
    let e = longer _ c.if-n-lt10.false in
    let w = c.write_digits-end in
    let l : w.result < length w.new.room = omega (arith, c.requires, e, w.ensures.count) in
    record {
      count = omega (arith, e, w.ensures.count);
      digits = take_more_set w.new.room w.result _ l ∙ rw (w.ensures.digits, decimal-more _ c.if-n-lt10.false);
    }
