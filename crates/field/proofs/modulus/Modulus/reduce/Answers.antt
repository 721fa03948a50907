-- `field::modulus::Modulus::reduce` meets its contract: the quotient is right, or 1 too small where one more p is taken off.
-- Assumes nothing.
use Prim.Native.Nat.{◌+◌, ◌*◌, ◌/◌}
use native.Mathlib.Omega.{arith}
use Rattle.field.proofs.Reciprocal.{quotient_low, quotient_high, remainder_is}
use Rattle.field.proofs.modulus.Modulus.reduce.Goals as goal

pub overflow_sub-r : goal.overflow_sub-r
overflow_sub-r c = quotient_low c.args.t c.args.self.reciprocal (cc)

pub returns-then-r-self : goal.returns-then-r-self
returns-then-r-self c =
    let s = c.from.result * c.from-2.result in
    let l = quotient_low c.args.t {s = s} c.args.self.reciprocal (cc) in
    let h = quotient_high c.args.t {s = s} c.args.self.reciprocal (cc) (omega arith) in
    (remainder_is c.args.t c.args.self.p (s / 65536 + 1) _ (omega arith) (omega arith), omega arith)

pub returns : goal.returns
returns c =
    let s = c.from.result * c.from-2.result in
    let l = quotient_low c.args.t {s = s} c.args.self.reciprocal (cc) in
    (remainder_is c.args.t c.args.self.p (s / 65536) _ (omega arith) (omega arith), omega arith)
