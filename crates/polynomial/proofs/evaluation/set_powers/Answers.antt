-- `polynomial::evaluation::set_powers` meets its contract: the rows below t are set; the points are row 1. Assumes nothing.
use mathlib.Core.Path.{◌≡◌}
use mathlib.Core.List.{[]}
use Prim.Native.Nat.{◌+◌, ◌-◌, ◌/◌, ◌<◌}
use native.Mathlib.Omega.{arith}
use lib.ListN.{get_or, set, replicate}
use Rattle.field.proofs.Loop.{upto_step, upto_put, upto_less}
use Rattle.field.proofs.Row.{result_row}
use Rattle.polynomial.proofs.Powers.{powers-start, start-rows, start-points, powers_step}
use Rattle.polynomial.proofs.evaluation.set_powers.Goals as goal

pub loop-t-init : goal.loop-t-init
loop-t-init c =
    let (X, _, R) = c.requires in
    let x = c.args.x in
    let m = c.args.modulus.reciprocal.least in
    (start-rows x m X R, rw (start-points x m X R) (powers-start x m X R))

pub multiply-requires : goal.multiply-requires
multiply-requires c =
    let R = c.loop-t.invariant.0 in
    (R.done (c.loop-t.t / 2) (omega arith), R.done (c.loop-t.t - c.loop-t.t / 2) (omega arith))

pub loop-t-preserved : goal.loop-t-preserved
loop-t-preserved c =
    let l = c.loop-t in
    let t = l.t in
    let z : 0 < c.args.modulus.p = omega (arith, c.args.modulus.reciprocal.least) in
    let e : t / 2 + (t - t / 2) ≡ t = omega arith in
    let x = get_or (set (set c.args.rows.now 0 (replicate 16 1)) 1 c.args.x) 1 [] in
    let next = rw e at (powers_step (t / 2) (t - t / 2) x z (l.invariant.1.done (t / 2) (omega arith))
    (l.invariant.1.done (t - t / 2) (omega arith)) c.multiply.ensures) in
    (upto_put _ (omega arith) (result_row _ z next) l.invariant.0, upto_step _ (omega arith) next l.invariant.1)

pub returns : goal.returns
returns c =
    let l = c.loop-t in
    let (X, _, R) = c.requires in
    let e = start-points c.args.x c.args.modulus.reciprocal.least X R in
    (l.invariant.0, upto_less (omega arith) (rw e at l.invariant.1))
