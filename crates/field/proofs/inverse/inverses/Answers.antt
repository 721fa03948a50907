-- `field::inverse::inverses` meets its contract: the entries below a, and those less than a before p, are inverses; entry a is
-- worked out from one of them, and gives its mirror. Assumes nothing.
use Prim.Native.Nat.{◌+◌, ◌<◌}
use native.Mathlib.Omega.{arith}
use Rattle.field.proofs.Made.{made_start, made_before, made_step}
use Rattle.field.proofs.Prime.{inverse_step, not-twice}
use Rattle.field.proofs.inverse.inverses.Goals as goal

pub loop-a-init : goal.loop-a-init
loop-a-init c = made_start c.requires.least c.args.modulus.reciprocal.most c.table-out.ensures

pub loop-a-preserved : goal.loop-a-preserved
loop-a-preserved c =
    let l = c.loop-a in
    let lower : l.a + l.a < c.args.modulus.p = omega arith in
    -- what p leaves modulo a is an entry whose inverse is known
    let known = made_before c.requires l.auto.a (omega arith) l.invariant in
    let i = inverse_step (omega arith) known in
    rw c.reduce-inverse.ensures.0 (made_step c.args.modulus.reciprocal.most l.auto.a lower i l.invariant)

pub returns : goal.returns
returns c =
    let l = c.loop-a in
    let odd = not-twice c.requires l.auto.a in
    record { size = l.invariant.size; zero = l.invariant.zero; each = λ b z k. l.invariant.each b z k (omega (arith, odd)) }
