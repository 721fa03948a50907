-- A cell enters: both pairs are 0 there, stay so at the cells before, and one degree more is counted.
--
--   kept1, kept2     the pair that is used is 0 at the cell: the other one is multiplied by X - x r
--   freed1, freed2   else the other one is freed of its value there, and the pair itself is multiplied
--
-- What this file is for: the four ways in which the interpolation goes on. Assumes nothing.
use mathlib.Core.Logic.{◌≢◌}
use mathlib.Core.Path.{◌≡◌, ◌∙◌}
use Prim.Native.Nat.{ℕ, suc, ◌+◌, ◌*◌, ◌≤◌, ◌<◌}
use native.Mathlib.Omega.{arith}
use native.Mathlib.Decide.{ℕ_discrete}
use Rattle.bounded.specs.Bounded.{sum}
use Rattle.bounded.proofs.Sum.{sum-put}
use Rattle.field.specs.Congruence.{Cong, Agree}
use Rattle.field.proofs.Congruence.{same, ◌⨾◌, ~add, ~mul, less}
use Rattle.welch_berlekamp.specs.Interpolation.{Interpolates, Entered}
use Rattle.welch_berlekamp.proofs.Degrees.{shifted, mixed, grow1, grow2, mix1, mix2}

-- what a row is at one cell, after a step
shifted_zero : {q n : ℕ} {f' : ℕ → ℕ} (f x : ℕ → ℕ) (r j : ℕ) → j < n → Agree q n f' (shifted q x r f) → Cong q (f j) 0 →
    Cong q (f' j) 0
shifted_zero {q} f x r j l h z = h j l ⨾ ~mul (x j + q * x r) z ⨾ same (omega arith)

shifted_here : {q n : ℕ} {f' : ℕ → ℕ} (f x : ℕ → ℕ) (r : ℕ) → r < n → Agree q n f' (shifted q x r f) → Cong q (f' r) 0
shifted_here f x r l h = h r l ⨾ less (x r * f r) (omega arith)

mixed_zero : {q n : ℕ} {f' : ℕ → ℕ} (c : ℕ) (f g : ℕ → ℕ) (j : ℕ) → j < n → Agree q n f' (mixed c f g) → Cong q (f j) 0 →
    Cong q (g j) 0 → Cong q (f' j) 0
mixed_zero c f g j l h y z = h j l ⨾ ~add y (~mul c z) ⨾ same (omega arith)

module _ {r : ℕ} {w w' : ℕ → ℕ} (m : Entered r w w') where
  entered-bit : ((j : ℕ) → w j ≤ 1) → (j : ℕ) → w' j ≤ 1
  entered-bit b j = elim (ℕ_discrete j r) [ yes e ↦ rw e (omega (arith, m.after)) | no e ↦ omega (arith, m.others j e, b j) ]

  entered-count : (n : ℕ) → r < n → sum n w' ≡ suc (sum n w)
  entered-count n l = omega (arith, sum-put n r {f = w} {g = w'} l m.others, m.before, m.after)

  -- what is 0 at r, and wherever it was 0
  entered-zero : {q n : ℕ} {D : ℕ → ℕ} → Cong q (D r) 0 → ((j : ℕ) → j < n → w j ≢ 0 → Cong q (D j) 0) → (j : ℕ) → j < n →
      w' j ≢ 0 → Cong q (D j) 0
  entered-zero here old j l h = elim (ℕ_discrete j r) [ yes e ↦ rw e here | no e ↦ old j l λ z. h (m.others j e ∙ z) ]

module _ {q n k r a b : ℕ} {x y w w' D1 E1 D2 E2 : ℕ → ℕ} (v : Interpolates q n k x y w a b D1 E1 D2 E2) (m : Entered r w w')
    (l : r < n) where
  more : a + b + 1 ≡ sum n w'
  more = omega (arith, v.count, entered-count m n l)

  -- the pair that is used is 0 at r: the other one is multiplied by X - x r
  pub kept1 : {D E : ℕ → ℕ} → Cong q (D1 r) 0 → Agree q n D (shifted q x r D2) → Agree q n E (shifted q x r E2) →
      Interpolates q n k x y w' a (suc b) D1 E1 D E
  kept1 z h i = record {
    degrees = λ P L. grow2 (v.degrees P L) r h i;
    bit = entered-bit m v.bit;
    count = omega (arith, more);
    zero1 = entered-zero m z v.zero1;
    zero2 = entered-zero m (shifted_here D2 x r l h) λ j o c. shifted_zero D2 x r j o h (v.zero2 j o c);
  }

  pub kept2 : {D E : ℕ → ℕ} → Cong q (D2 r) 0 → Agree q n D (shifted q x r D1) → Agree q n E (shifted q x r E1) →
      Interpolates q n k x y w' (suc a) b D E D2 E2
  kept2 z h i = record {
    degrees = λ P L. grow1 (v.degrees P L) r h i;
    bit = entered-bit m v.bit;
    count = omega (arith, more);
    zero1 = entered-zero m (shifted_here D1 x r l h) λ j o c. shifted_zero D1 x r j o h (v.zero1 j o c);
    zero2 = entered-zero m z v.zero2;
  }

  -- else the other one is freed of its value there, and the pair itself is multiplied
  module _ (c : ℕ) {D E F G : ℕ → ℕ} where
    pub freed1 : a ≤ b + k → Cong q (D2 r + c * D1 r) 0 → Agree q n D (shifted q x r D1) → Agree q n E (shifted q x r E1) →
        Agree q n F (mixed c D2 D1) → Agree q n G (mixed c E2 E1) → Interpolates q n k x y w' (suc a) b D E F G
    freed1 low z h i f g = record {
      degrees = λ P L. grow1 (mix2 (v.degrees P L) c low f g) r h i;
      bit = entered-bit m v.bit;
      count = omega (arith, more);
      zero1 = entered-zero m (shifted_here D1 x r l h) λ j o u. shifted_zero D1 x r j o h (v.zero1 j o u);
      zero2 = entered-zero m (f r l ⨾ z) λ j o u. mixed_zero c D2 D1 j o f (v.zero2 j o u) (v.zero1 j o u);
    }

    pub freed2 : b + k < a → Cong q (D1 r + c * D2 r) 0 → Agree q n D (shifted q x r D2) → Agree q n E (shifted q x r E2) →
        Agree q n F (mixed c D1 D2) → Agree q n G (mixed c E1 E2) → Interpolates q n k x y w' a (suc b) F G D E
    freed2 low z h i f g = record {
      degrees = λ P L. grow2 (mix1 (v.degrees P L) c low f g) r h i;
      bit = entered-bit m v.bit;
      count = omega (arith, more);
      zero1 = entered-zero m (f r l ⨾ z) λ j o u. mixed_zero c D1 D2 j o f (v.zero1 j o u) (v.zero2 j o u);
      zero2 = entered-zero m (shifted_here D2 x r l h) λ j o u. shifted_zero D2 x r j o h (v.zero2 j o u);
    }
