-- The distance on a grid, for two point lists of any sizes a and b.
--
--   radius-le        the distance is at most that of the rows times that of the columns, for each split i of the degree
--   distance_split   the same, by the power t of Y that the rows lead with
--
-- What this file is for: the distance with one coordinate more, and the step of a decoder that reads the lines first. Assumes
-- nothing.
use mathlib.Core.Path.{◌≡◌, ap}
use Prim.Native.Nat.{ℕ, ◌+◌, ◌*◌, ◌-◌, ◌≤◌, ◌<◌, min, max}
use native.Mathlib.Omega.{arith}
use native.Mathlib.Decide.{dec_le}
use native.Mathlib.Nat.{mul-le-mul_left}
use Rattle.polynomial.specs.Distance.{grid_distance}

tall : (M e r m i : ℕ) → M ≡ m + i → r ≡ e + i → e ≤ m → M * e ≤ r * m
tall M e r m i p q h = rw (p, q) (omega (arith, mul-le-mul_left i h))

-- the distance is at most that of the rows times that of the columns, for each split of the degree
pub radius-le : (a b d i : ℕ) → i ≤ d → d < min a b → grid_distance a b d ≤ (b - d + i) * (a - i)
radius-le a b d i h k = elim (dec_le b a) [
  | yes l ↦ omega (arith, tall (max a b) (min a b - d) (b - d + i) (a - i) i (omega arith) (omega arith) (omega arith))
  | no l ↦ omega (arith, tall (max a b) (min a b - d) (a - i) (b - d + i) (d - i) (omega arith) (omega arith) (omega arith))
]

-- the same, by the power t of Y that the rows lead with
pub distance_split : (a b d t : ℕ) → t ≤ d → d < min a b → grid_distance a b d ≤ (b - t) * (a - (d - t))
distance_split a b d t h k =
    let e : b - d + (d - t) ≡ b - t = omega arith in
    omega (arith, radius-le a b d (d - t) (omega arith) k, ap (λ n. n * (a - (d - t))) e)
