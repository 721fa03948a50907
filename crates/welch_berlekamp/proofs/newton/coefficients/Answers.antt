-- `welch_berlekamp::newton::coefficients` meets its contract: Horner's rule, from the last term, place by place. Assumes nothing.
use mathlib.Core.Path.{◌≡◌}
use Prim.Native.Nat.{suc, ◌-◌, ◌≤◌, ◌<◌}
use native.Mathlib.Omega.{arith}
use Rattle.welch_berlekamp.proofs.Interpolant.{Horner, horner_step, horner_end, moved_step}
use Rattle.welch_berlekamp.proofs.newton.coefficients.Goals as goal

pub loop-i-preserved : goal.loop-i-preserved
loop-i-preserved c =
    let m = c.loop-j in
    let l = c.loop-i in
    let a = c.args in
    let p = a.modulus.p in
    let e : suc (l.i - 1) ≡ l.i = omega arith in
    let d : m.j ≡ a.k = omega arith in
    let H : Horner p a.k a.slopes a.nodes (suc (l.i - 1)) l.a = rw e l.invariant in
    let small = c.requires.1.small (l.i - 1) in
    let here : l.i - 1 ≤ a.k = omega arith in
    horner_step (omega arith) c.requires.2 here (omega arith) H (rw d at m.invariant)

pub loop-j-preserved : goal.loop-j-preserved
loop-j-preserved c =
    let l = c.loop-j in
    let h : l.j < 16 = omega arith in
    moved_step h c.reduce.ensures.0 c.reduce.ensures.1 l.invariant

pub returns : goal.returns
returns c = let e : c.loop-i.i ≡ 0 = omega arith in horner_end (rw e at c.loop-i.invariant)
