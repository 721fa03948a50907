-- `plan::is_misplaced` meets its contract: what is found is whether one of the first i bytes is wrong. Assumes nothing.
use mathlib.Core.Path.{◌≡◌, sym, ◌∙◌}
use native.Mathlib.Omega.{arith}
use native.Mathlib.Nat.{add_assoc}
use Rattle.bounded.proofs.Any.{any-start, any_next}
use Rattle.plan.proofs.Reached.{pairs_tell}
use Rattle.plan.proofs.is_misplaced.Goals as goal

pub loop-i-init : goal.loop-i-init
loop-i-init c = sym (any-start _)

pub loop-i-preserved : goal.loop-i-preserved
loop-i-preserved c =
    let s = c.args in
    any_next _ _ c.loop-i.invariant (rw (c.from.ensures, add_assoc s.a c.loop-i.i 1) at c.is_wrong_point-found.ensures)

pub returns : goal.returns
returns c =
    let s = c.args in
    let e : c.loop-i.i ≡ 16 = omega arith in
    rw e at c.loop-i.invariant ∙ pairs_tell s.plan.now s.a s.n (omega arith)
