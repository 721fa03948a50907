-- A polynomial P of degree at most k that is near the marked cells, and pairs that interpolate these.
--
--   chosen          a choice between a number and 0 that is not 0 is that number
--   eqb_same        two tests that say the same are one
--   first-over      the first degree is over the second and k
--   usable_right    where E2 is not 0 a marked symbol is right
--   usable_all      there are as many such cells as the first degree says: E2 is 0 at the missed marked cells and nowhere else
--   suspect_right   at every cell D2 and E2 tell whether the symbol is right
--
-- What this file is for: where a polynomial is near, the interpolation knows it. Assumes nothing.
use mathlib.Core.Logic.{◌≢◌}
use mathlib.Core.Path.{◌≡◌, refl, sym, ap, ◌∙◌}
use mathlib.Core.Bool.{Bool, true, false, cond}
use Prim.Native.Nat.{ℕ, zero, suc, ◌+◌, ◌*◌, ◌≤◌, ◌<◌}
use native.Mathlib.Omega.{arith}
use native.Mathlib.Decide.{dec_le, ℕ_discrete}
use lib.Dec.{eqb}
use borrow.Author.Tests.{eqb-true, eqb-false, ne_eqb, eq-eqb}
use Rattle.bounded.specs.Bounded.{sum}
use Rattle.bounded.proofs.Sum.{sum-eq, sum-le, sum-add}
use Rattle.field.specs.Congruence.{Cong, Agree}
use Rattle.field.specs.Prime.{Prime}
use Rattle.field.proofs.Congruence.{same, ◌⨾◌, ~add, less, rest, below_eq, difference, nonzero}
use Rattle.field.proofs.Prime.{divide_out}
use Rattle.polynomial.specs.Eval.{Apart}
use Rattle.polynomial.specs.Lead.{Lead}
use Rattle.polynomial.proofs.Lead.{narrow}
use Rattle.polynomial.proofs.Roots.{roots}
use Rattle.welch_berlekamp.specs.Interpolation.{residual, Interpolates}
use Rattle.reed_solomon.specs.Near.{missed, Near, usable, suspect}

-- a choice that is not 0
pub chosen : (b : Bool) (m : ℕ) → cond b m 0 ≢ 0 → (b ≡ true) × (m ≢ 0)
chosen true m h = (refl, h)
chosen false m h = absurd (h refl)

left_out : (b : Bool) (m : ℕ) → cond b 0 m ≢ 0 → (b ≡ false) × (m ≢ 0)
left_out true m h = absurd (h refl)
left_out false m h = (refl, h)

both : (b : Bool) (m : ℕ) → cond b m 0 + cond b 0 m ≡ m
both true m = omega arith
both false m = omega arith

-- a mark is split by a test
split : (n : ℕ) (f : ℕ → Bool) (w : ℕ → ℕ) → sum n (λ j. cond (f j) (w j) 0) + sum n (λ j. cond (f j) 0 (w j)) ≡ sum n w
split n f w = sym (sum-add n (λ j. cond (f j) (w j) 0) (λ j. cond (f j) 0 (w j))) ∙ sum-eq n λ j _. both (f j) (w j)

-- smaller terms with a sum as large are the same
sum_tight : (n : ℕ) {f g : ℕ → ℕ} → ((i : ℕ) → i < n → f i ≤ g i) → sum n g ≤ sum n f → (i : ℕ) → i < n → g i ≤ f i
sum_tight zero h l i m = absurd (omega arith)
sum_tight (suc n) {f} {g} h l i m = elim (ℕ_discrete i n) [
  | yes e ↦ rw e (omega (arith, sum-le n {f = f} {g = g} λ j o. h j (omega arith)))
  | no e ↦ sum_tight n (λ j o. h j (omega arith)) (omega (arith, h n (omega arith))) i (omega arith)
]

-- two tests that say the same
pub eqb_same : (a b c d : ℕ) → (a ≡ b → c ≡ d) → (c ≡ d → a ≡ b) → eqb a b ≡ eqb c d
eqb_same a b c d f g = elim (ℕ_discrete a b) [
  | yes e ↦ eq-eqb a b e ∙ sym (eq-eqb c d (f e))
  | no e ↦ ne_eqb a b e ∙ sym (ne_eqb c d λ i. e (g i))
]

part : (b : Bool) (m : ℕ) → m ≤ 1 → cond b m 0 ≤ 1
part b m l = omega (arith, both b m)

module _ {q n k a b o : ℕ} {x y w P D1 E1 D2 E2 : ℕ → ℕ} (prime : Prime (suc q)) (ax : Apart q n x)
    (v : Interpolates q n k x y w a b D1 E1 D2 E2)
    (L : Lead q n x k o P) (small : (j : ℕ) → j < n → (y j < suc q) × (P j < suc q) × (E2 j < suc q) × (D2 j < suc q))
    (near : Near n k w y P) where
  -- the marked cells whose symbol is right, and those where E2 is 0
  abbrev right : ℕ → ℕ
  right j = cond (eqb (y j) (P j)) (w j) 0

  abbrev hidden : ℕ → ℕ
  hidden j = cond (eqb (E2 j) 0) (w j) 0

  abbrev zeros : ℕ → ℕ
  zeros j = cond (eqb (E2 j) 0) 1 0

  one : ¬ (Cong q 1 0)
  one = nonzero 1 prime.least λ e. omega arith

  right_zero : (D E : ℕ → ℕ) → ((j : ℕ) → j < n → w j ≢ 0 → Cong q (D j) 0) → (j : ℕ) → j < n → right j ≢ 0 →
      Cong q (residual q y P D E j) 0
  right_zero D E z j l h =
      let (e, m) = chosen (eqb (y j) (P j)) (w j) h in
      ~add (z j l m) (same {b = (P j + q * P j) * E j} (ap (λ t. (t + q * P j) * E j) (eqb-true _ _ e)))
      ⨾ less (P j * E j) (omega arith)

  right_bit : (j : ℕ) → j < n → right j ≤ 1
  right_bit j _ = part (eqb (y j) (P j)) (w j) (v.bit j)

  all_right : sum n right + missed n w y P ≡ sum n w
  all_right = split n (λ j. eqb (y j) (P j)) w

  second_few : b ≤ missed n w y P
  second_few = elim (dec_le b (missed n w y P)) [
    | yes l ↦ l
    | no l ↦ absurd (one (roots ax n right (omega arith) (v.degrees P L).s1 right_bit (right_zero D1 E1 v.zero1)
        (omega (arith, all_right, v.count))).0)
  ]

  pub first-over : b + k < a
  first-over = omega (arith, second_few, v.count)

  residual-zero : Agree q n (residual q y P D2 E2) (λ j. 0)
  residual-zero = (roots ax n right (omega arith) (narrow (b + k) (v.degrees P L).s2).1 right_bit (right_zero D2 E2 v.zero2)
      (omega (arith, all_right, second_few))).1

  -- so at a marked cell E2 is 0 or the symbol is right
  product_zero : (j : ℕ) → j < n → w j ≢ 0 → Cong q ((y j + q * P j) * E2 j) 0
  product_zero j l m = rest (same refl) (residual-zero j l) (v.zero2 j l m)

  pub usable_right : (j : ℕ) → j < n → usable w E2 j ≢ 0 → y j ≡ P j
  usable_right j l h =
      let (e, m) = left_out (eqb (E2 j) 0) (w j) h in
      let (r, s, t, _) = small j l in
      below_eq r s (difference (y j) (P j) (divide_out prime (y j + q * P j) (E2 j) (nonzero (E2 j) t (eqb-false _ _ e))
      (product_zero j l m)))

  missed-hidden : (j : ℕ) → j < n → cond (eqb (y j) (P j)) 0 (w j) ≤ hidden j
  missed-hidden j l = go (eqb (y j) (P j)) (eqb (E2 j) 0) refl refl
    where
      go : (c d : Bool) → eqb (y j) (P j) ≡ c → eqb (E2 j) 0 ≡ d → cond c 0 (w j) ≤ cond d (w j) 0
      go true d e f = omega arith
      go false true e f = omega arith
      go false false e f = elim (ℕ_discrete (w j) 0) [
        | yes z ↦ omega arith
        | no z ↦ absurd
            (eqb-false _ _ e (usable_right j l (rw f z)))
      ]

  -- E2 has no more zeros than its degree, marked or not
  zeros-few : sum n zeros ≤ b
  zeros-few = elim (dec_le (sum n zeros) b) [
    | yes l ↦ l
    | no l ↦ absurd (one (roots ax n zeros (omega arith) (v.degrees P L).e2 (λ j _. part (eqb (E2 j) 0) 1 (omega arith))
        (λ j _ h. same (eqb-true _ _ (chosen (eqb (E2 j) 0) 1 h).0)) (omega arith)).0)
  ]

  hidden-zeros : (j : ℕ) → j < n → hidden j ≤ zeros j
  hidden-zeros j _ = go (eqb (E2 j) 0)
    where
      go : (c : Bool) → cond c (w j) 0 ≤ cond c 1 0
      go true = v.bit j
      go false = omega arith

  pub usable_all : sum n (usable w E2) ≡ a
  usable_all = omega (
    arith,
    split n (λ j. eqb (E2 j) 0) w,
    v.count,
    zeros-few,
    second_few,
    sum-le n hidden-zeros,
    sum-le n missed-hidden,
  )

  -- so where E2 is 0 the symbol is missed
  zero-missed : (j : ℕ) → j < n → eqb (E2 j) 0 ≡ true → eqb (y j) (P j) ≡ false
  zero-missed j l e =
      (left_out (eqb (y j) (P j)) (w j) (λ z.
      let h = sum_tight n {f = λ j. cond (eqb (y j) (P j)) 0 (w j)} {g = zeros}
      (λ j l. omega (arith, missed-hidden j l, hidden-zeros j l)) (omega (arith, zeros-few, second_few)) j l in
      let i : zeros j ≡ 1 = ap (λ b. cond b 1 0) e in
      omega (arith, h, i, z))).0

  -- and elsewhere D2 tells
  value-zero : (j : ℕ) → j < n → y j ≡ P j → D2 j ≡ 0
  value-zero j l e =
      let (_, _, _, t) = small j l in
      below_eq t (omega arith) (rest (same {b = (y j + q * P j) * E2 j + D2 j} (omega arith)) (residual-zero j l)
      (same (ap (λ t. (t + q * P j) * E2 j) e) ⨾ less (P j * E2 j) (omega arith)))

  zero-value : (j : ℕ) → j < n → eqb (E2 j) 0 ≡ false → D2 j ≡ 0 → y j ≡ P j
  zero-value j l e z =
      let (r, s, t, _) = small j l in
      below_eq r s (difference (y j) (P j) (divide_out prime (y j + q * P j) (E2 j) (nonzero (E2 j) t (eqb-false _ _ e))
      (rest (same refl) (residual-zero j l) (same z))))

  pub suspect_right : (j : ℕ) → j < n → eqb (suspect D2 E2 j) 0 ≡ eqb (y j) (P j)
  suspect_right j l = go (eqb (E2 j) 0) refl
    where
      go : (c : Bool) → eqb (E2 j) 0 ≡ c → eqb (cond c 1 (D2 j)) 0 ≡ eqb (y j) (P j)
      go true e = sym (zero-missed j l e)
      go false e = eqb_same (D2 j) 0 (y j) (P j) (zero-value j l e) (value-zero j l)
