-- `welch_berlekamp::newton::through` meets its contract: i cells were taken, and while that is at most k, a cell is left.
-- Assumes nothing.
use mathlib.Core.Path.{◌≡◌}
use Prim.Native.Nat.{suc, ◌<◌, ◌≤◌}
use native.Mathlib.Omega.{arith}
use Rattle.field.proofs.Row.{result_row}
use Rattle.welch_berlekamp.specs.Newton.{Fits}
use Rattle.welch_berlekamp.proofs.Cursor.{left-most}
use Rattle.welch_berlekamp.proofs.Interpolant.{enough-few, fits-start, fits_positive, fits-take}
use Rattle.welch_berlekamp.proofs.newton.through.Goals as goal
use Rattle.welch_berlekamp.proofs.newton.through.Goals.{Start, At-loop-i}

-- fewer than sixteen cells are taken
few : (c : Start) → c.args.k < 16
few c = let E = c.requires.3.enough in omega (arith, enough-few E, E.most)

fits : (c : At-loop-i) →
    let a = c.args in
    let l = c.loop-i in
    Fits a.modulus.p c.requires.3.n a.k a.x a.y a.keys l.i
    (record { rest = l.rest; product = l.product; slopes = l.slopes; nodes = l.nodes; entered = l.entered; keys = l.left })
fits c = c.loop-i.invariant.fits _ _ c.requires.3.enough c.scale-rest.ensures

pub overflow_add-i-end : goal.overflow_add-i-end
overflow_add-i-end c = omega (arith, few (goal.at.overflow_add-i-end c).Start)

pub loop-i-init : goal.loop-i-init
loop-i-init c = record {
  few = few (goal.at.loop-i-init c).Start;
  fits = λ n y E e. fits-start (omega (arith, c.args.modulus.reciprocal)) E e;
}

pub least-key-requires : goal.least-key-requires
least-key-requires c = left-most (fits (goal.at.least-key-requires c).At-loop-i).entering c.requires.3.enough.placed

pub ratio-c-requires : goal.ratio-c-requires
ratio-c-requires c =
    let b = c.requires in
    let F = fits (goal.at.ratio-c-requires c).At-loop-i in
    let positive = fits_positive b.3.enough F (omega arith) c.least-key.ensures in
    (b.0, F.whole.rest.small _, positive, F.holds.shaped.first.d.small _)

pub advance-requires : goal.advance-requires
advance-requires c =
    let F = fits (goal.at.advance-requires c).At-loop-i in
    let w = result_row _ (omega (arith, c.args.modulus.reciprocal)) c.shift-w.ensures in
    (F.whole.rest, F.holds.shaped.first.d, w, omega (arith, c.ratio-c.ensures.below))

pub loop-i-preserved : goal.loop-i-preserved
loop-i-preserved c =
    let pos : 1 < c.args.modulus.p = omega (arith, c.args.modulus.reciprocal) in
    let low : c.loop-i.i ≤ c.args.k = omega arith in
    let d = c.advance.ensures in
    record {
      few = omega arith;
      fits = λ n y E e. fits-take E (c.loop-i.invariant.fits n y E e) low c.least-key.ensures pos
          c.requires.1.small c.ratio-c.ensures d.0 c.shift-w.ensures d.1 c.without-others.ensures;
    }

pub returns : goal.returns
returns c = λ n E.
    let a = c.args in
    let e : c.loop-i.i ≡ suc a.k = omega arith in
    rw e at (c.loop-i.invariant.fits n a.y E c.scale-rest.ensures)
