-- The degrees of the two pairs of the interpolation, and the steps that keep them.
--
--   shifted q x r f, mixed c f g   the row f times X - x r; f + c g
--   degrees-start                  the pairs (1, 0) and (0, 1)
--   grow1, grow2                   the first pair, or the second, times X - x r
--   mix1, mix2                     the first pair with a multiple of the second added, or the other way round, where that has the
--                                  lower degree
--
-- What this file is for: whatever polynomial the cells came from, the pairs keep their degrees relative to it. Assumes nothing.
use mathlib.Core.Path.{◌≡◌, refl}
use Prim.Native.Nat.{ℕ, zero, suc, ◌+◌, ◌*◌, ◌-◌, ◌≤◌, ◌<◌}
use native.Mathlib.Omega.{arith}
use native.Mathlib.Decide.{dec_le}
use Rattle.field.specs.Congruence.{Agree}
use Rattle.field.proofs.Congruence.{same, ◌⨾◌, ~add, ~mul, less}
use Rattle.polynomial.specs.Lead.{Lead, con}
use Rattle.polynomial.proofs.Lead.{lead_eq, mix, wider, zero-to, shift}
use Rattle.welch_berlekamp.specs.Interpolation.{residual, Degrees}

-- the row f with each value multiplied by x - x r, and f + c g
abbrev pub shifted : (q : ℕ) (x : ℕ → ℕ) (r : ℕ) (f : ℕ → ℕ) → ℕ → ℕ
shifted q x r f j = (x j + q * x r) * f j

abbrev pub mixed : (c : ℕ) (f g : ℕ → ℕ) → ℕ → ℕ
mixed c f g j = f j + c * g j

module _ {q n : ℕ} {x : ℕ → ℕ} where
  -- f + c g, where g has the lower degree
  lead_mixed : {a e : ℕ} {f g f' : ℕ → ℕ} (c : ℕ) → Lead q n x a e f → Lead q n x a 0 g → Agree q n f' (mixed c f g) →
      Lead q n x a e f'
  lead_mixed c F G h = lead_eq (same (omega arith)) h (mix 1 c F G λ j l. same (omega arith))

  zero_shifted : {f f' : ℕ → ℕ} (r : ℕ) → Lead q n x zero 0 f → Agree q n f' (shifted q x r f) → Lead q n x zero 0 f'
  zero_shifted r (con z) h = con {c = 0} λ j l. h j l ⨾ ~mul (x j + q * x r) (z j l) ⨾ same (omega arith)

  -- a degree below a - k, where that may be none
  short_shifted : (a k r : ℕ) {f f' : ℕ → ℕ} → Lead q n x (a - k) 0 f → Agree q n f' (shifted q x r f) →
      Lead q n x (suc a - k) 0 f'
  short_shifted a k r F h = elim (dec_le k a) [
    | yes l ↦ let e : suc a - k ≡ suc (a - k) = omega arith in rw e (shift r F h)
    | no l ↦
        let e : suc a - k ≡ zero = omega arith in
        let e' : a - k ≡ zero = omega arith in
        rw e (zero_shifted r (rw e' at F) h)
  ]

module _ {q n : ℕ} (x y P : ℕ → ℕ) where
  residual_shifted : (r : ℕ) (D E : ℕ → ℕ) {D' E' : ℕ → ℕ} → Agree q n D' (shifted q x r D) → Agree q n E' (shifted q x r E) →
      Agree q n (residual q y P D' E') (shifted q x r (residual q y P D E))
  residual_shifted r D E h i j l = ~add (h j l) (~mul (y j + q * P j) (i j l)) ⨾ same (omega arith)

module _ {q n : ℕ} (y P : ℕ → ℕ) where
  residual_mixed : (c : ℕ) (D E F G : ℕ → ℕ) {D' E' : ℕ → ℕ} → Agree q n D' (mixed c D F) → Agree q n E' (mixed c E G) →
      Agree q n (residual q y P D' E') (mixed c (residual q y P D E) (residual q y P F G))
  residual_mixed c D E F G h i j l = ~add (h j l) (~mul (y j + q * P j) (i j l)) ⨾ same (omega arith)

module _ {q n k : ℕ} {x y P : ℕ → ℕ} where
  -- the pairs (1, 0) and (0, 1)
  pub degrees-start : {o : ℕ} → Lead q n x k o P → {D1 E1 D2 E2 : ℕ → ℕ} → Agree q n D1 (λ j. 1) → Agree q n E1 (λ j. 0) →
      Agree q n D2 (λ j. q * y j) → Agree q n E2 (λ j. 1) → Degrees q n k x y P 0 0 D1 E1 D2 E2
  degrees-start L h1 i1 h2 i2 = record {
    s1 = con {c = 1} λ j l. ~add (h1 j l) (~mul (y j + q * P j) (i1 j l)) ⨾ same (omega arith);
    e1 = let e : 0 - k ≡ zero = omega arith in rw e (con i1);
    s2 = let e : 0 + k ≡ k = omega arith in
        rw e (lead_eq (same (omega arith)) (λ j l. ~add (h2 j l) (~mul (y j + q * P j) (i2 j l)) ⨾ less (y j) (omega arith))
        (mix {f' = λ j. q * P j + 0 * P j} q 0 (wider L) (wider L) λ j l. same refl));
    e2 = con i2;
  }

  module _ {a b : ℕ} {D1 E1 D2 E2 : ℕ → ℕ} (v : Degrees q n k x y P a b D1 E1 D2 E2) {D E : ℕ → ℕ} where
    pub grow1 : (r : ℕ) → Agree q n D (shifted q x r D1) → Agree q n E (shifted q x r E1) →
        Degrees q n k x y P (suc a) b D E D2 E2
    grow1 r h i = record {
      s1 = shift r v.s1 (residual_shifted x y P r D1 E1 h i);
      e1 = short_shifted a k r v.e1 i;
      s2 = v.s2;
      e2 = v.e2;
    }

    pub grow2 : (r : ℕ) → Agree q n D (shifted q x r D2) → Agree q n E (shifted q x r E2) →
        Degrees q n k x y P a (suc b) D1 E1 D E
    grow2 r h i =
        let t : suc b + k ≡ suc (b + k) = omega arith in
        record { s1 = v.s1; e1 = v.e1; s2 = rw t (shift r v.s2 (residual_shifted x y P r D2 E2 h i)); e2 = shift r v.e2 i }

    pub mix1 : (c : ℕ) → b + k < a → Agree q n D (mixed c D1 D2) → Agree q n E (mixed c E1 E2) → Degrees q n k x y P a b D E D2 E2
    mix1 c l h i = record {
      s1 = lead_mixed c v.s1 (zero-to a l v.s2) (residual_mixed y P c D1 E1 D2 E2 h i);
      e1 = lead_mixed c v.e1 (zero-to (a - k) (omega arith) (wider v.e2)) i;
      s2 = v.s2;
      e2 = v.e2;
    }

    pub mix2 : (c : ℕ) → a ≤ b + k → Agree q n D (mixed c D2 D1) → Agree q n E (mixed c E2 E1) → Degrees q n k x y P a b D1 E1 D E
    mix2 c l h i = record {
      s1 = v.s1;
      e1 = v.e1;
      s2 = lead_mixed c v.s2 (zero-to (suc (b + k)) (omega arith) (wider v.s1)) (residual_mixed y P c D2 E2 D1 E1 h i);
      e2 = lead_mixed c v.e2 (zero-to b (omega arith) v.e1) i;
    }
