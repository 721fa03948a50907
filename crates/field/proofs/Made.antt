-- The inverses modulo a prime p, while they are made from the table of those modulo 251.
--
--   Made p a l       entry 0 of l is 0, and the numbers that are less than a, or less than a before p, have their inverses in it
--   made_start       the table with p - 1 at p - 1 is made up to 2
--   made_before      what p leaves modulo a has its inverse in a list that is made up to a
--   made_step        with the inverse of a at a, and minus it at p - a, a list is made one number further
--
-- What this file is for: the loop's invariant, and its start and step. Assumes nothing.
use mathlib.Core.Logic.{◌≢◌}
use mathlib.Core.Path.{◌≡◌, ◌∙◌}
use mathlib.Core.List.{List}
use Prim.Native.Nat.{ℕ, ◌+◌, ◌-◌, ◌%◌, ◌≤◌, ◌<◌, min}
use native.Mathlib.Omega.{arith}
use native.Mathlib.Decide.{ℕ_discrete}
use native.Mathlib.Nat.{mod-lt, mod-eq_of_lt}
use lib.ListN.{length, set, length-set}
use lib.Seq.{get_or-set_same, get_or-set_other}
use Rattle.bounded.specs.Bounded.{at}
use Rattle.field.specs.Prime.{Prime, Inverse, Inverses}
use Rattle.field.proofs.Prime.{inverse_minus}

pub record Made (p a : ℕ) (l : List ℕ) : Type 0 where
  pub size : length l ≡ 251
  pub zero : at l 0 ≡ 0
  pub each : (b : ℕ) → 0 < b → b < p → min b (p - b) < a → Inverse p b (at l b)

-- entry 1 of the table is 1, the inverse of 1 by every modulus
inverse_of-one : {p : ℕ} → 2 ≤ p → Inverse p 1 1
inverse_of-one l = record { below = l; one = mod-eq_of_lt l }

first : {t : List ℕ} → Inverses 251 t → at t 1 ≡ 1
first i = omega (arith, (i.each 1 (omega arith) (omega arith)).one, (i.each 1 (omega arith) (omega arith)).below)

-- and so p - 1 is that of p - 1
pub made_start : {p : ℕ} {t : List ℕ} → 2 ≤ p → p ≤ 251 → Inverses 251 t → Made p 2 (set t (p - 1) (p - 1))
made_start {p} {t} l k i = record {
  size = length-set t (p - 1) (p - 1) ∙ i.size;
  zero = let n : 0 ≢ p - 1 = λ e. omega arith in get_or-set_other t (p - 1) 0 (p - 1) 0 n ∙ i.zero;
  each = λ b z h m. elim (ℕ_discrete b (p - 1)) [
    | yes e ↦
        let n : p - 1 < length t = omega (arith, i.size) in
        rw (e, get_or-set_same t (p - 1) (p - 1) 0 n) (inverse_minus (omega arith) (inverse_of-one l))
    | no e ↦ let f : b ≡ 1 = omega arith in rw (get_or-set_other t (p - 1) b (p - 1) 0 e, f, first i) (inverse_of-one l)
  ];
}

-- what is left of p is below a, and not 0 as p is prime
pub made_before : {p a : ℕ} {l : List ℕ} → Prime p → 2 ≤ a → a < p → Made p a l → Inverse p (p % a) (at l (p % a))
made_before {p} {a} r h l m =
    let k = mod-lt p {m = a} (omega arith) in
    m.each (p % a) (omega (arith, r.alone a h l)) (omega (arith, k)) (omega (arith, k))

pub made_step : {p a v : ℕ} {l : List ℕ} → p ≤ 251 → 2 ≤ a → a + a < p → Inverse p a v → Made p a l →
    Made p (a + 1) (set (set l a v) (p - a) (p - v))
made_step {p} {a} {v} {l} k two h i m = record {
  size = length-set (set l a v) (p - a) (p - v) ∙ n;
  zero = get_or-set_other (set l a v) (p - a) 0 (p - v) 0 (λ e. omega arith)
      ∙ get_or-set_other l a 0 v 0 (λ e. omega arith)
      ∙ m.zero;
  each = λ b z t s. elim (ℕ_discrete b (p - a)) [
    | yes e ↦
        let f : p - a < length (set l a v) = omega (arith, n) in
        rw (e, get_or-set_same (set l a v) (p - a) (p - v) 0 f) (inverse_minus (omega arith) i)
    | no e ↦ rw (get_or-set_other (set l a v) (p - a) b (p - v) 0 e) (lower b z t s e)
  ];
}
  where
    n : length (set l a v) ≡ 251
    n = length-set l a v ∙ m.size

    lower : (b : ℕ) → 0 < b → b < p → min b (p - b) < a + 1 → b ≢ p - a → Inverse p b (at (set l a v) b)
    lower b z t s d = elim (ℕ_discrete b a) [
      | yes e ↦ let f : a < length l = omega (arith, m.size) in rw (e, get_or-set_same l a v 0 f) i
      | no e ↦ rw (get_or-set_other l a b v 0 e) (m.each b z t (omega arith))
    ]
