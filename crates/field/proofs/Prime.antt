-- A prime modulus: its test, its inverses, and that it has no divisors of zero.
--
--   is_prime_lem, prime-is  the test says that a number is prime exactly where it is
--   inverse_step         p = k a + r makes minus k over r the inverse of a
--   inverse_minus        minus an inverse is the inverse of minus the number
--   not-twice            an odd prime is no number twice
--   divide_out           a product is 0 only where a factor is
--   apart                the difference of two unlike residues is no divisor of zero
--
-- What this file is for: dividing modulo p. The last two laws are Euclid's lemma, by descent. Assumes nothing.
use mathlib.Core.Logic.{◌≢◌}
use mathlib.Core.Path.{◌≡◌, refl, ap, ◌∙◌}
use mathlib.Core.Bool.{Bool, true, false, not, ◌&&◌, false≢true}
use Prim.Native.Nat.{ℕ, zero, suc, ◌+◌, ◌*◌, ◌-◌, ◌/◌, ◌%◌, ◌≤◌, ◌<◌}
use native.Mathlib.Omega.{arith}
use native.Mathlib.Nat.{le_of_lt, div-add-mod, mod-lt, zero-mod, mul-mod_left, div-le_self, sub-add_cancel}
use native.Mathlib.Decide.{ℕ_discrete}
use lib.Dec.{eqb, leb}
use borrow.Author.Tests.{eqb-false, ne_eqb, le-leb, leb-true}
use Rattle.bounded.proofs.Any.{any_none, none_any}
use Rattle.field.specs.Congruence.{Cong}
use Rattle.field.specs.Prime.{divided, is_prime, Prime, Inverse}
use Rattle.field.proofs.Congruence.{same, ~sym, ◌⨾◌, ~mul, ~mul-right, less, rest, remainder}
use Rattle.field.proofs.Congruence.{below_eq, difference, mod_cong, cong_mod}

-- the test and the facts
pub is_prime_lem : (p : ℕ) → is_prime p ≡ true → Prime p
unfolding is_prime
is_prime_lem p e = go (leb 2 p) (divided p (p - 2)) refl refl e
  where
    go : (a b : Bool) → leb 2 p ≡ a → divided p (p - 2) ≡ b → a && not b ≡ true → Prime p
    go true false h n e = record {
      least = leb-true _ _ h;
      alone = λ a l m z.
          let q : 2 + (a - 2) ≡ a = omega arith in
          eqb-false _ _ (any_none (p - 2) (λ i. eqb (p % (2 + i)) 0) n (a - 2) (omega arith)) (ap (λ t. p % t) q ∙ z);
    }
    go true true h n e = absurd (false≢true e)
    go false b h n e = absurd (false≢true e)

pub prime-is : (p : ℕ) → Prime p → is_prime p ≡ true
unfolding is_prime
prime-is p r = rw (
  le-leb 2 p r.least,
  none_any (p - 2) (λ i. eqb (p % (2 + i)) 0) λ i l. ne_eqb _ _ (r.alone (2 + i) (omega arith) (omega (arith, r.least))),
)

-- an inverse by division: p = k a + r makes minus k over r the inverse of a
pub inverse_step : {p a s : ℕ} → 0 < p → Inverse p (p % a) s → Inverse p a ((p - p / a) * s % p)
inverse_step {p} {a} {s} z h = record {
  below = mod-lt (d * s) z;
  one = cong_mod z (~mul-right a (mod_cong z (d * s)) ⨾ same {a = d * s * a} {b = s * (d * a)} (omega arith)
      ⨾ ~mul s {a = d * a} (record { k = 1; l = a; eq = rw whole down })) ∙ h.one;
}
  where
    d : ℕ
    d = p - p / a

    whole : suc (p - 1) ≡ p
    whole = omega arith

    down : d * a + p * 1 ≡ p % a + p * a
    down = omega (arith, ap (λ t. t * a) (sub-add_cancel (div-le_self p a)), div-add-mod p a)

-- 0 is no inverse
inverse_positive : {p a s : ℕ} → Inverse p a s → 0 < s
inverse_positive {p} {a} {s} h = elim (ℕ_discrete s 0) [
  | yes e ↦ let z : s * a ≡ 0 = omega (arith, ap (λ t. t * a) e) in absurd (omega (arith, h.one, ap (λ t. t % p) z, zero-mod p))
  | no e ↦ omega arith
]

-- minus an inverse is the inverse of minus the number
pub inverse_minus : {p a s : ℕ} → a ≤ p → Inverse p a s → Inverse p (p - a) (p - s)
inverse_minus {p} {a} {s} l h = record {
  below = omega (arith, h.below, inverse_positive h);
  one = cong_mod (omega (arith, h.below)) {a = (p - s) * (p - a)} {b = s * a}
      (record { k = a; l = p - s; eq = rw whole turned }) ∙ h.one;
}
  where
    whole : suc (p - 1) ≡ p
    whole = omega (arith, h.below)

    turned : (p - s) * (p - a) + p * a ≡ s * a + p * (p - s)
    turned = omega (arith, ap (λ t. t * a) (sub-add_cancel (le_of_lt h.below)), ap (λ t. (p - s) * t) (sub-add_cancel l))

-- an odd prime is no number twice
pub not-twice : {p a : ℕ} → Prime p → 2 ≤ a → p ≢ a + a
not-twice {p} {a} r h e = let d : p ≡ 2 * a = omega arith in r.alone a h (omega arith) (ap (λ t. t % a) d ∙ mul-mod_left 2 a)

module _ {q : ℕ} (prime : Prime (suc q)) where
  euclid : (f a b : ℕ) → a ≤ f → 0 < a → a < suc q → Cong q (a * b) 0 → Cong q b 0
  euclid zero a b h i l z = absurd (omega arith)
  euclid (suc f) a b h i l z = elim (ℕ_discrete a 1) [
    | yes e ↦ same (omega (arith, ap (λ t. t * b) e)) ⨾ z
    | no e ↦ euclid f (suc q % a) b (omega (arith, mod-lt (suc q) i)) (omega (arith, prime.alone a (omega arith) l))
        (omega (arith, mod-lt (suc q) i))
        (rest {a = suc q * b} {b = suc q / a * (a * b)} (same (omega (arith, ap (λ t. t * b) (div-add-mod (suc q) a))))
        (less b (omega arith)) (~mul (suc q / a) z ⨾ same (omega arith)))
  ]

  -- Euclid's lemma
  pub divide_out : (a b : ℕ) → ¬ (Cong q b 0) → Cong q (a * b) 0 → Cong q a 0
  divide_out a b nz z = elim (ℕ_discrete (b % suc q) 0) [
    | yes e ↦ absurd (nz (~sym (remainder b) ⨾ same e))
    | no e ↦ euclid (suc q) (b % suc q) a (omega (arith, mod-lt b {m = suc q} (omega arith))) (omega arith)
        (mod-lt b (omega arith)) (same (omega arith) ⨾ ~mul a (remainder b) ⨾ z)
  ]

  -- the difference of two unlike residues is no divisor of zero
  pub apart : (a b m : ℕ) → a < suc q → b < suc q → a ≢ b → Cong q ((a + q * b) * m) 0 → Cong q m 0
  apart a b m i l n z = divide_out m (a + q * b) (λ k. n (below_eq i l (difference a b k))) (same (omega arith) ⨾ z)
