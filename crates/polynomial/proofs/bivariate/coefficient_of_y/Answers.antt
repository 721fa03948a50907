-- `polynomial::bivariate::coefficient_of_y` meets its contract: the places below i are set, the others 0. Assumes nothing.
use Prim.Native.Nat.{suc, ◌+◌}
use native.Mathlib.Omega.{arith}
use borrow.Author.Tests.{le-leb, lt-leb}
use Rattle.field.proofs.Loop.{passed_step}
use Rattle.field.proofs.Row.{filled_row}
use Rattle.polynomial.proofs.Record.{place-below}
use Rattle.polynomial.proofs.bivariate.coefficient_of_y.Goals as goal

pub bounds-message-place : goal.bounds-message-place
bounds-message-place c = omega (arith, place-below c.loop-i.i c.args.t (suc c.args.d) (omega arith), c.place.ensures)

pub loop-i-preserved : goal.loop-i-preserved
loop-i-preserved c =
    let e = le-leb (c.loop-i.i + c.args.t) c.args.d (omega arith) in
    passed_step _ (omega arith) (rw (e, c.from.ensures, c.place.ensures)) c.loop-i.invariant

pub returns : goal.returns
returns c = filled_row (λ k l. rw (lt-leb (k + c.args.t) c.args.d (omega arith))) c.loop-i.invariant
