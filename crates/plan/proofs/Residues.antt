-- The points of a sound plan.
--
--   points-row   those of a coordinate are a row of residues modulo its prime: the unused ones are 0
--
-- What this file is for: the field's functions take whole rows. Assumes nothing.
use mathlib.Core.List.{List}
use Prim.Native.Nat.{ℕ, zero, suc, ◌+◌, ◌<◌}
use native.Mathlib.Omega.{arith}
use native.Mathlib.Decide.{dec_lt}
use Rattle.bounded.specs.Bounded.{at}
use Rattle.bounded.proofs.Tab.{length-tab}
use Rattle.field.specs.Row.{row, Row}
use Rattle.field.proofs.Row.{row_at, row_of}
use Rattle.definitions.specs.Plan.{modulus, point}
use Rattle.definitions.specs.Sound.{PointsFrom, Sound}

module _ {P : List ℕ} (S : Sound P) where
  -- sixteen bytes from byte a on, of which n are points
  bytes-row : (a n : ℕ) → PointsFrom P a n → Row (modulus P) (row λ j. at P (a + j))
  bytes-row a n F = row_of z (length-tab 16 _) λ j k. rw (row_at (λ j. at P (a + j)) j k) (residue j k)
    where
      z : 0 < modulus P
      z = omega (arith, S.prime.least)

      residue : (j : ℕ) → j < 16 → at P (a + j) < modulus P
      residue j k = elim (dec_lt j n) [
        | yes l ↦ F.below j l
        | no l ↦ rw (F.unused j (omega arith) k) z
      ]

  pub points-row : (i : ℕ) → Row (modulus P) (row (point P i))
  points-row zero = bytes-row 6 _ S.row_points
  points-row (suc i) = bytes-row 22 _ S.column_points
