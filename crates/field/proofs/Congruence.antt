-- The laws of congruence modulo suc q.
--
--   to-mod, of-mod           congruent numbers are those that leave the same remainder
--   same, ~sym, ◌⨾◌          it is an equality: equal numbers, the other way round, one after the other
--   ~add, ~mul, ~mul-right   sums and products keep it
--   less                     a multiple of the modulus does not count
--   remainder                a number and its remainder
--   below_eq                 numbers below the modulus are congruent only where they are equal
--   rest, cancel             what is left of a sum that is 0; a term that two sums share
--   difference, nonzero      a difference that is 0; a residue that is not 0
--   mod_cong, cong_mod       the first two at the modulus p of the code
--
-- What this file is for: steps modulo p are sums of products, and only their ends are remainders. Assumes nothing.
use mathlib.Core.Path.{◌≡◌, refl, sym, ap, ◌∙◌}
use Prim.Native.Nat.{ℕ, suc, ◌+◌, ◌*◌, ◌-◌, ◌/◌, ◌%◌, ◌<◌}
use native.Mathlib.Omega.{arith}
use native.Mathlib.Nat.{add-mul-mod_self_left, div-add-mod, mod-eq_of_lt, zero-mod}
use Rattle.field.specs.Congruence.{Cong}

module _ {q : ℕ} where
  pub to-mod : {a b : ℕ} → Cong q a b → a % suc q ≡ b % suc q
  to-mod {a} {b} h = sym (add-mul-mod_self_left a (suc q) h.k) ∙ ap (λ z. z % suc q) h.eq ∙ add-mul-mod_self_left b (suc q) h.l

  pub of-mod : (a b : ℕ) → a % suc q ≡ b % suc q → Cong q a b
  of-mod a b h = record { k = b / suc q; l = a / suc q; eq = omega (arith, div-add-mod a (suc q), div-add-mod b (suc q)) }

  pub same : {a b : ℕ} → a ≡ b → Cong q a b
  same e = record { k = 0; l = 0; eq = omega arith }

  pub ~sym : {a b : ℕ} → Cong q a b → Cong q b a
  ~sym h = record { k = h.l; l = h.k; eq = sym h.eq }

  infixr 60 ◌⨾◌
  pub ◌⨾◌ : {a b c : ℕ} → Cong q a b → Cong q b c → Cong q a c
  h ⨾ i = record { k = h.k + i.k; l = h.l + i.l; eq = omega (arith, h.eq, i.eq) }

  pub ~add : {a b c d : ℕ} → Cong q a b → Cong q c d → Cong q (a + c) (b + d)
  ~add h i = record { k = h.k + i.k; l = h.l + i.l; eq = omega (arith, h.eq, i.eq) }

  pub ~mul : (m : ℕ) {a b : ℕ} → Cong q a b → Cong q (m * a) (m * b)
  ~mul m h = record { k = m * h.k; l = m * h.l; eq = omega (arith, ap (λ z. m * z) h.eq) }

  pub ~mul-right : {a b : ℕ} (m : ℕ) → Cong q a b → Cong q (a * m) (b * m)
  ~mul-right m h = same (omega arith) ⨾ ~mul m h ⨾ same (omega arith)

  -- equal up to a multiple of the modulus
  pub less : {a b : ℕ} (m : ℕ) → a ≡ b + suc q * m → Cong q a b
  less m e = record { k = 0; l = m; eq = omega arith }

  -- a remainder stands for its number
  pub remainder : (a : ℕ) → Cong q (a % suc q) a
  remainder a = record { k = a / suc q; l = 0; eq = omega (arith, div-add-mod a (suc q)) }

  -- numbers below the modulus are congruent only where they are equal
  pub below_eq : {a b : ℕ} → a < suc q → b < suc q → Cong q a b → a ≡ b
  below_eq i l h = sym (mod-eq_of_lt i) ∙ to-mod h ∙ mod-eq_of_lt l

  -- what is left of a sum that is zero, without a part that is
  pub rest : {a b c : ℕ} → Cong q a (b + c) → Cong q a 0 → Cong q b 0 → Cong q c 0
  rest h i j = record { k = h.l + i.k + j.l; l = h.k + i.l + j.k; eq = omega (arith, h.eq, i.eq, j.eq) }

  -- a term that two sums share
  pub cancel : {a b e f : ℕ} → Cong q e f → Cong q (a + e) (b + f) → Cong q a b
  cancel c h = record { k = h.k + c.l; l = h.l + c.k; eq = omega (arith, h.eq, c.eq) }

  -- a difference that is zero
  pub difference : (a b : ℕ) → Cong q (a + q * b) 0 → Cong q a b
  difference a b h = ~sym (less {a = a + q * b + b} b (omega arith)) ⨾ ~add h (same {a = b} refl) ⨾ same (omega arith)

  pub nonzero : (c : ℕ) → c < suc q → (c ≡ 0 → ⊥) → ¬ (Cong q c 0)
  nonzero c h z k = z (sym (mod-eq_of_lt h) ∙ to-mod k ∙ zero-mod (suc q))

-- the same at the modulus p of the code, where p - 1 stands for minus one
module _ {p : ℕ} (pos : 0 < p) where
  whole : suc (p - 1) ≡ p
  whole = omega arith

  pub mod_cong : (a : ℕ) → Cong (p - 1) (a % p) a
  mod_cong a = rw whole at (remainder {q = p - 1} a)

  pub cong_mod : {a b : ℕ} → Cong (p - 1) a b → a % p ≡ b % p
  cong_mod h = rw whole at (to-mod h)
