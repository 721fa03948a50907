-- A sound plan in the words of polynomials.
--
--   plan-modulus   the modulus is one more than one less
--   plan-side      each coordinate has some points, at most sixteen
--   plan-apart     and they are apart
--   plan-low       the degree is below the smallest side of each code
--   strip_size_lem, mark_size_lem
--                  a strip's record has d + 1 coefficients, a mark's ends where the group of degree d + 1 would begin
--   plan-longest   which is no more than the longest
--
-- What this file is for: the codes' laws speak of suc q and of points that are apart. Assumes nothing.
use mathlib.Core.Path.{◌≡◌}
use mathlib.Core.List.{List}
use Prim.Native.Nat.{ℕ, zero, suc, ◌+◌, ◌-◌, ◌≤◌, ◌<◌}
use native.Mathlib.Omega.{arith}
use native.Mathlib.Numerals.{add-one}
use Rattle.bounded.specs.Bounded.{at}
use Rattle.polynomial.specs.Eval.{Apart}
use Rattle.polynomial.specs.Sides.{least}
use Rattle.polynomial.specs.Record.{start, longest}
use Rattle.polynomial.proofs.Points.{points-apart}
use Rattle.polynomial.proofs.Record.{start_up}
use Rattle.polynomial.proofs.Known.{start-strip, start-mark}
use Rattle.definitions.specs.Plan.{modulus, side, degree, point}
use Rattle.definitions.specs.Code.{Code, strip, oblong, more, size}
use Rattle.definitions.specs.Sound.{IsSide, PointsFrom, Sound}

pub plan-modulus : {P : List ℕ} → Sound P → suc (modulus P - 1) ≡ modulus P
plan-modulus S = omega (arith, S.prime.least)

pub plan-side : {P : List ℕ} → Sound P → (i : ℕ) → IsSide (modulus P) (side P i)
plan-side S zero = S.tall
plan-side S (suc i) = S.wide

points-of : {P : List ℕ} {a n : ℕ} → Sound P → PointsFrom P a n → Apart (modulus P - 1) n (λ i. at P (a + i))
points-of S F = let e = plan-modulus S in points-apart (rw e S.prime) (record {
  below = λ i l. rw e (F.below i l);
  rising = λ i l. rw (add-one i) at (F.rising i (rw add-one l));
})

pub plan-apart : {P : List ℕ} → Sound P → (i : ℕ) → Apart (modulus P - 1) (side P i) (point P i)
plan-apart S zero = points-of S S.row_points
plan-apart S (suc i) = points-of S S.column_points

pub plan-low : {P : List ℕ} → Sound P → (C : Code) → degree P < least (more C) (side P)
plan-low S strip = omega (arith, S.low)
plan-low S oblong = S.low

pub strip_size_lem : (P : List ℕ) → size strip P ≡ degree P + 1
strip_size_lem P = start-strip (degree P + 1)

pub mark_size_lem : (P : List ℕ) → size oblong P ≡ start (degree P + 1)
mark_size_lem P = start-mark (degree P + 1)

pub plan-longest : {P : List ℕ} → Sound P → size oblong P ≤ longest
plan-longest {P} S = rw (mark_size_lem P) (start_up (degree P + 1) 16 (omega (arith, S.low, S.tall.most)))
