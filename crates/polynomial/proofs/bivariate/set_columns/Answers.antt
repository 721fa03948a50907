-- `polynomial::bivariate::set_columns` meets its contract: the columns below t are worked out. Assumes nothing.
use mathlib.Core.Path.{◌≡◌}
use Prim.Native.Nat.{suc, ◌<◌}
use native.Mathlib.Omega.{arith}
use Rattle.field.proofs.Loop.{upto_step, upto_put}
use Rattle.polynomial.proofs.Powers.{powers-less}
use Rattle.polynomial.proofs.Columns.{coefficients-row, column-values}
use Rattle.polynomial.proofs.bivariate.set_columns.Goals as goal

pub values-requires : goal.values-requires
values-requires c =
    let (P, F, d, _) = c.requires in
    let z : 0 < c.args.modulus.p = omega (arith, c.args.modulus.reciprocal.least) in
    let w = c.coefficient_of_y-w.ensures in
    (P, coefficients-row c.args.d c.loop-t.t c.args.message.now z d (omega arith) w F, omega arith)

pub loop-t-preserved : goal.loop-t-preserved
loop-t-preserved c =
    let l = c.loop-t in
    let z : 0 < c.args.modulus.p = omega (arith, c.args.modulus.reciprocal.least) in
    let F = c.args.message.now in
    let w = c.coefficient_of_y-w.ensures in (
      upto_put _ (omega arith) c.values.ensures.0 l.invariant.0,
      λ x P.
          let v = c.values.ensures.1 x (powers-less c.args.modulus.p x (omega arith) P) in
          upto_step _ (omega arith) (column-values c.args.d l.t F z c.requires.2 (omega arith) w x v) (l.invariant.1 x P),
    )

pub returns : goal.returns
returns c =
    let l = c.loop-t in
    let e : l.t ≡ suc c.args.d = omega arith in
    (l.invariant.0, λ x P. rw e at (l.invariant.1 x P))
