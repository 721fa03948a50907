-- `windows::Span::read` meets its contract: test by test. Assumes nothing.
use Rattle.std.proofs.Common.{ap, ◌∙◌, arith}
use Rattle.calendar.specs.Dates.{key}
use Rattle.windows.proofs.EndDays.{found-real, Days, fault_order, fault_zeros, no-fault}
use Rattle.windows.proofs.Span.read.Goals as goal
use Rattle.windows.proofs.Span.read.Goals.{After-key-2, then-span-via-then-span, then-span-via-else-span+then-reaches}

days : (c : After-key-2) → Days c.args.window.now c.key.result c.key-2.result
days c = record {
  first = found-real c.date_at-first.ensures c.is_real.ensures c.if-not-is_real.false;
  last = found-real c.date_at-last.ensures c.is_real-else-not-is_real.ensures c.if-not-is_real-2.false;
  first_key = c.key.ensures ∙ ap key c.date_at-first.ensures;
  last_key = c.key-2.ensures ∙ ap key c.date_at-last.ensures;
}

pub returns-then-span : goal.returns-then-span
returns-then-span c =
    let D = days (goal.at.returns-then-span c).After-key-2 in
    elim c.then-span.branch [
      | then-span-via-then-span w ↦ fault_order D w.if-span.true
      | then-span-via-else-span+then-reaches w ↦
          fault_zeros D w.if-span.false (omega arith) w.reaches.ensures w.if-reaches.true
    ]

pub returns : goal.returns
returns c =
    no-fault (days (goal.at.returns c).After-key-2) c.if-span.false (omega arith) c.reaches.ensures c.if-reaches.false
