-- Every margin that a mark's call returns is from -496 to 256 times the full doubt.
--
--   measured_range, read_range   the margins of measuring and reading are in that range
--   margins_in                   so are those of seasons that have one full doubt
--   lowest-before, highest-before, lowest-from, highest-from
--                                both ends are reached before season 30 and from it on, by marks of the largest side: all 256
--                                cells wrong at the highest degree, all right at the lowest
--
-- What this file is for: the customer's bounds on the margin, and that neither can be closer. Assumes nothing.
use mathlib.Core.Path.{◌≡◌, refl}
use mathlib.Core.Bool.{Bool, true, false, cond}
use mathlib.Core.List.{List, ◌∷◌, ◌++◌}
use Prim.Native.Nat.{ℕ, zero, suc, ◌+◌, ◌*◌, ◌-◌, ◌≤◌, ◌<◌}
use native.Mathlib.Omega.{arith}
use native.Mathlib.Nat.{mul-le-mul, mul-le-mul_left}
use lib.Dec.{eqb, ltb, le→leb, lit<, lit≤}
use lib.IntN.{ℤ, pos, negsuc, neg_ℤ}
use lib.ListN.{replicate}
use lib.Signed.{◌≤ℤ◌, le_z_yes}
use borrow.Author.Tests.{ltb-true}
use Rattle.bounded.specs.Bounded.{at, tab}
use Rattle.bounded.proofs.Sum.{sum-le, sum_const}
use Rattle.definitions.specs.declared.Reading.{Reading}
use Rattle.definitions.specs.Refusals.{accepted}
use Rattle.polynomial.specs.Sides.{least, others}
use Rattle.polynomial.proofs.Far.{others-least}
use Rattle.definitions.specs.Plan.{season, rows, columns, side, degree}
use Rattle.definitions.specs.Code.{oblong, cells, value}
use Rattle.definitions.specs.Cost.{full, radius, margin}
use Rattle.distance.specs.Cost.{cell}
use Rattle.polynomial.specs.Record.{longest}
use Rattle.definitions.specs.Calls.{refused, cost_of, reading_of, nearest, the}
use Rattle.definitions.specs.Calls.{measure_number, measure_reading, read_number, read_reading}
use Rattle.definitions.specs.Cases.{effect}
use Rattle.definitions.specs.Photograph.{Photograph, sure}
use Rattle.definitions.specs.Demands.{InRange, Reached, MarkMargins}
use Rattle.definitions.proofs.Accepted.{accepted_measuring, accepted-reading}

-- the low end is 0 or below
from_low : (low n : ℕ) → neg_ℤ (pos low) ≤ℤ pos n
from_low zero n = le_z_yes (le→leb 0 n (omega arith))
from_low (suc low) n = le_z_yes tt

by_sign : (low high : ℕ) (t : Bool) (R D : ℕ) → R ≤ high → D ≤ R + low → ltb R D ≡ t →
    InRange low high (cond t (negsuc (D - suc R)) (pos (R - D)))
by_sign zero high true R D i l e = absurd (omega (arith, ltb-true R D e))
by_sign (suc low) high true R D i l e = (le_z_yes (le→leb (D - suc R) low (omega arith)), le_z_yes tt)
by_sign low high false R D i l e = (from_low low (R - D), le_z_yes (le→leb (R - D) high (omega arith)))

in_range : (low high R D : ℕ) → R ≤ high → D ≤ R + low → InRange low high (margin R D)
unfolding margin
in_range low high R zero i l = (from_low low (R + 0), le_z_yes (le→leb (R + 0) high (omega arith)))
in_range low high R (suc D) i l = by_sign low high (ltb R (suc D)) R (suc D) i l refl

-- the range by the full doubt
abbrev InFull : ℕ → ℤ → Type 0
InFull f = InRange (496 * f) (256 * f)

cell-most : (f s u v : ℕ) → u ≤ f → cell f s u v ≤ 2 * f
cell-most f s u v h = go (eqb s v)
  where
    go : (b : Bool) → cond b u (2 * f - u) ≤ 2 * f
    go true = omega arith
    go false = omega arith

module _ (P s u : List ℕ) (h : Photograph oblong P s u) where
  cost-most : (F : List ℕ) → cost_of oblong P s u F ≤ full P * (2 * (rows P * columns P))
  cost-most F = omega (
    arith,
    sum-le (cells oblong P) (λ c l. cell-most (full P) (at s c) (at u c) (value oblong P F c) (h.doubt c l).0),
    sum_const (cells oblong P) (2 * full P),
  )

  photo_range : (F : List ℕ) → InFull (full P) (reading_of oblong P s u F).margin
  unfolding reading_of
  photo_range F =
      let S = h.sound in
      -- the larger side and the smaller
      let M = others 1 (side P) in
      let m = least 1 (side P) in
      let large : M ≤ 16 = omega (arith, S.tall.most, S.wide.most) in
      let small : m ≤ 16 = omega (arith, S.tall.most) in
      let k : M * 1 ≤ M * (m - degree P) = mul-le-mul_left M (omega (arith, S.low)) in
      let r : m - degree P ≤ 16 = omega arith in
      let most : M * (m - degree P) ≤ 16 * 16 = mul-le-mul large r in
      let cells-most : 2 * (rows P * columns P) ≤ M * (m - degree P) + 496 =
      omega (arith, others-least 1 (side P), mul-le-mul_left M small) in
      in_range (496 * full P) (256 * full P) (radius oblong P) (cost_of oblong P s u F)
      (omega (arith, mul-le-mul_left (full P) most))
      (omega (arith, cost-most F, mul-le-mul_left (full P) cells-most))

-- a refusal has the margin 0
accepted_range : (f k : ℕ) (r : Reading) → (k ≡ 0 → InFull f r.margin) → InFull f (accepted k r (refused k)).margin
accepted_range f zero r h = h refl
accepted_range f (suc k) r h = (from_low (496 * f) 0, le_z_yes (le→leb 0 (256 * f) (omega arith)))

pub measured_range : (P s u F : List ℕ) → InFull (full P) (measure_reading oblong P s u F).margin
unfolding measure_reading
measured_range P s u F = accepted_range (full P) (measure_number oblong P s u F) _ λ e.
    photo_range P s u (accepted_measuring oblong P s u F e).0 F

pub read_range : (P s u B : List ℕ) → InFull (full P) (read_reading oblong P s u B).margin
unfolding read_reading
read_range P s u B = accepted_range (full P) (read_number oblong P s u B) _ λ e.
    photo_range P s u (accepted-reading oblong P s u B e) (the (nearest oblong P s u))

pub margins_in : (Y : ℕ → Type 0) (f : ℕ) → ((P : List ℕ) → Y (season P) → full P ≡ f) →
    Reached Y (neg_ℤ (pos (496 * f))) → Reached Y (pos (256 * f)) → MarkMargins Y (496 * f) (256 * f)
margins_in Y f is low high = record {
  measured = λ P s u F y. rw (is P y) at (measured_range P s u F);
  read = λ P s u B y. rw (is P y) at (read_range P s u B);
  lowest = low;
  highest = high;
}

-- a plan of season y with sixteen points each way and the degree d; the values of a record of zeros are 0
widest : (y d : ℕ) → List ℕ
widest y d = 0 ∷ y ∷ 17 ∷ 16 ∷ 16 ∷ d ∷ tab 16 (λ i. i) ++ tab 16 (λ i. i) ++ sure 2

-- measured without doubts
reached : {Y : ℕ → Type 0} {z : ℤ} (P s F : List ℕ) → Y (season P) → measure_number oblong P s (sure 256) F ≡ 0 →
    (measure_reading oblong P s (sure 256) F).margin ≡ z → Reached Y z
reached P s F y a m = record { P = P; in_seasons = y; s = s; u = sure 256; F = F; accepted = a; margin = m }

pub lowest-before : Reached (λ y. y < 30) (neg_ℤ (pos 49600))
unfolding widest effect
lowest-before = reached (widest 29 15) (replicate 256 1) (sure longest) (lit< tt) refl refl

pub highest-before : Reached (λ y. y < 30) (pos 25600)
unfolding widest effect
highest-before = reached (widest 29 0) (sure 256) (sure 1) (lit< tt) refl refl

pub lowest-from : Reached (λ y. 30 ≤ y) (neg_ℤ (pos 124000))
unfolding widest effect
lowest-from = reached (widest 30 15) (replicate 256 1) (sure longest) (lit≤ tt) refl refl

pub highest-from : Reached (λ y. 30 ≤ y) (pos 64000)
unfolding widest effect
highest-from = reached (widest 30 0) (sure 256) (sure 1) (lit≤ tt) refl refl
