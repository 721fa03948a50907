-- `welch_berlekamp::newton::coefficients` meets its contract: Horner's rule, from the last term, place by place. Assumes nothing.
use Rattle.welch_berlekamp.proofs.Interpolant.{Horner, Moved}
use Rattle.welch_berlekamp.proofs.newton.coefficients.Given as goal

abbrev pub invariant-loop-j : goal.invariant-loop-j
invariant-loop-j l = Moved l.modulus.p l.i l.c l.initial.a l.j l.a

abbrev pub invariant-loop-i : goal.invariant-loop-i
invariant-loop-i l = Horner l.modulus.p l.k l.slopes l.nodes l.i l.a
