-- Division of t < 65536 by p with the reciprocal m: t m / 65536 is t / p or 1 less.
--
--   quotient_low    the quotient times p is at most t
--   quotient_high   and less than 2 p from it
--   remainder_is    what is left below p is the remainder
--   product_fits    the product of a number up to p and a residue is at most 251 * 250
--   fold_is         a number of three bytes by its high two, with c for 256, and its low one
--
-- What this file is for: `reduce`, and the bounds by which no 16-bit number overflows. Assumes nothing.
use mathlib.Core.Path.{◌≡◌, refl, sym, ap, ◌∙◌}
use Prim.Native.Nat.{ℕ, ◌+◌, ◌*◌, ◌/◌, ◌%◌, ◌≤◌, ◌<◌}
use native.Mathlib.Omega.{arith}
use native.Mathlib.Nat.{mod-lt, mod-eq_of_lt, div-add-mod, mul-le-mul, mul-le-mul_left, mul-le-mul_right, add-mul-mod_self_right}
use Rattle.field.specs.Row.{Reciprocal}
use Rattle.field.proofs.Congruence.{same, ◌⨾◌, ~add, ~mul, ~mul-right, mod_cong, cong_mod}

module _ (t : ℕ) {p m s : ℕ} (r : Reciprocal p m) (e : s ≡ t * m) where
  pub quotient_low : s / 65536 * p ≤ t
  quotient_low = omega (arith, mul-le-mul_right p fits, mul-le-mul_left t r.low)
    where
      fits : s / 65536 * 65536 ≤ t * m
      fits = omega (arith, div-add-mod s 65536)

  pub quotient_high : t < 65536 → t < s / 65536 * p + p + p
  quotient_high b = omega (arith, mul-le-mul_right p over, mul-le-mul_left t r.high, mul-le-mul_right p b, r.least)
    where
      over : t * m < s / 65536 * 65536 + 65536
      over = omega (arith, div-add-mod s 65536, mod-lt s {m = 65536} (omega arith))

-- what is left below p is the remainder
pub remainder_is : (t p q r : ℕ) → r < p → t ≡ q * p + r → r ≡ t % p
remainder_is t p q r h e = sym (ap (λ x. x % p) (e ∙ omega arith) ∙ add-mul-mod_self_right r q p ∙ mod-eq_of_lt h)

-- a product of two residues, and of one with the modulus itself, fits 16 bits
pub product_fits : {p x y : ℕ} → p ≤ 251 → x ≤ p → y < p → x * y ≤ 62750
product_fits {p} {x} {y} h a b = mul-le-mul {n₁ = x} {m₁ = y} {n₂ = 251} {m₂ = 250} (omega arith) (omega arith)

-- a number of three bytes by its high two and its low one
pub fold_is : {p : ℕ} (t h c : ℕ) → 0 < p → h ≡ t / 256 % p → c ≡ 256 % p → (h * c + t % 256) % p ≡ t % p
fold_is {p} t h c z e f =
    cong_mod z (~add (~mul h (same f ⨾ mod_cong z 256) ⨾ ~mul-right 256 (same e ⨾ mod_cong z (t / 256))) (same {a = t % 256} refl)
    ⨾ same (omega (arith, div-add-mod t 256)))
