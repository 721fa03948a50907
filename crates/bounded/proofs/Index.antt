-- The laws of first places: the first number below a bound that passes a test.
--
--   index-before   none before it passes
--   index-holds    it passes itself, where it is below the bound
--   index-within   it is below the bound where any number there passes
--   index_is       a number that passes, none before it doing so, is the first
--   index-none     it is the bound where none passes
--   index-end, index-some
--                  none passes where it is the bound; and some does where it is not
--   index-eq       tests that answer the same
--
-- What this file is for: a loop that stops at the first true answer has found the definition's place. Assumes nothing.
use mathlib.Core.Path.{◌≡◌, refl, sym, ap, ap₂, ◌∙◌}
use mathlib.Core.Logic.{◌≢◌}
use mathlib.Core.Bool.{Bool, true, false, cond, false≢true}
use Prim.Native.Nat.{ℕ, zero, suc, ◌<◌}
use native.Mathlib.Omega.{arith}
use native.Mathlib.Decide.{dec_lt}
use Rattle.bounded.specs.Bounded.{any, index}
use Rattle.bounded.proofs.Any.{any_none, none_any, any_some}

pub index-before : (n : ℕ) (f : ℕ → Bool) (i : ℕ) → i < index n f → f i ≡ false
unfolding index
index-before zero f i l = absurd (omega arith)
index-before (suc n) f i l = go (f 0) refl (index-before n λ j. f (suc j)) i l
  where
    go : (b : Bool) {m : ℕ} → f 0 ≡ b → ((j : ℕ) → j < m → f (suc j) ≡ false) → (i : ℕ) → i < cond b 0 (suc m) → f i ≡ false
    go true e h i l = absurd (omega arith)
    go false e h zero l = e
    go false e h (suc j) l = h j (omega arith)

pub index-holds : (n : ℕ) (f : ℕ → Bool) → index n f < n → f (index n f) ≡ true
unfolding index
index-holds zero f l = absurd (omega arith)
index-holds (suc n) f l = go (f 0) refl (index-holds n λ j. f (suc j)) l
  where
    go : (b : Bool) {m : ℕ} → f 0 ≡ b → (m < n → f (suc m) ≡ true) → cond b 0 (suc m) < suc n → f (cond b 0 (suc m)) ≡ true
    go true e h l = e
    go false e h l = h (omega arith)

pub index-within : (n : ℕ) (f : ℕ → Bool) → any n f ≡ true → index n f < n
index-within n f e =
    let (i, l, t) = any_some n f e in
    elim (dec_lt (index n f) n) [
      | yes h ↦ h
      | no h ↦ absurd (false≢true (sym (index-before n f i (omega arith)) ∙ t))
    ]

pub index_is : (n : ℕ) (f : ℕ → Bool) (k : ℕ) → k < n → any k f ≡ false → f k ≡ true → index n f ≡ k
index_is n f k l e t =
    elim (dec_lt (index n f) k) [
      | yes h ↦ absurd (false≢true (sym (any_none k f e (index n f) h) ∙ index-holds n f (omega arith)))
      | no h ↦ elim (dec_lt k (index n f)) [
        | yes g ↦ absurd (false≢true (sym (index-before n f k g) ∙ t))
        | no g ↦ omega arith
      ]
    ]

pub index-none : (n : ℕ) (f : ℕ → Bool) → any n f ≡ false → index n f ≡ n
unfolding index
index-none zero f e = refl
index-none (suc n) f e =
    let rest = none_any n (λ i. f (suc i)) λ i l. any_none (suc n) f e (suc i) (omega arith) in
    rw (any_none (suc n) f e 0 (omega arith)) (ap suc (index-none n (λ i. f (suc i)) rest))

pub index-end : (n : ℕ) (f : ℕ → Bool) → index n f ≡ n → any n f ≡ false
index-end n f e = go (any n f) refl
  where
    go : (b : Bool) → any n f ≡ b → any n f ≡ false
    go true h = absurd (omega (arith, e, index-within n f h))
    go false h = h

pub index-some : (n : ℕ) (f : ℕ → Bool) → index n f ≢ n → any n f ≡ true
index-some n f e = go (any n f) refl
  where
    go : (b : Bool) → any n f ≡ b → any n f ≡ true
    go true h = h
    go false h = absurd (e (index-none n f h))

pub index-eq : (n : ℕ) {f g : ℕ → Bool} → ((i : ℕ) → i < n → f i ≡ g i) → index n f ≡ index n g
unfolding index
index-eq zero h = refl
index-eq (suc n) h = ap₂ (λ b m. cond b 0 (suc m)) (h 0 (omega arith)) (index-eq n λ i l. h (suc i) (omega arith))
