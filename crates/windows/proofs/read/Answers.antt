-- `windows::read` meets its contract: the windows before k are without fault, and their spans are in place. Assumes nothing.
use Rattle.std.proofs.Common.{rules, refl, sym, ◌∙◌, length, arith}
use Rattle.bounded.proofs.Any.{any-start, any-more, some-any}
use Rattle.field.proofs.Loop.{upto_start, upto_step}
use Rattle.windows.proofs.EndDays.{err_of, ok_of}
use Rattle.definitions.specs.Windows.{faulty}
use Rattle.windows.specs.Spans.{window_of}
use Rattle.windows.proofs.read.Goals as goal

pub loop-k-init : goal.loop-k-init
loop-k-init c = (any-start _, upto_start refl)

pub returns-in_err-spans-clause-read : goal.returns-in_err-spans-clause-read
returns-in_err-spans-clause-read c =
    let W = c.args.windows.now in
    let f = (err_of _ _ _ (sym c.read.ensures ∙ c.in_err-spans.was)).0 in
    let h = some-any (length W) (λ k. faulty (window_of W k)) c.loop-k.k (omega arith) f in
    rw h (search rules)

pub loop-k-preserved : goal.loop-k-preserved
loop-k-preserved c =
    let (f, e) = ok_of _ _ _ (sym c.read.ensures ∙ c.in_ok-spans.was) in
    (any-more _ _ c.loop-k.invariant.0 f, upto_step _ (omega arith) e c.loop-k.invariant.1)
