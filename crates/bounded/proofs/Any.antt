-- The laws of bounded tests.
--
--   any_none, none_any    the answer is false exactly where each is false
--   any_some, some-any    it is true exactly where some one is true
--   any-start, any-more   none of 0 is true; one more that is false leaves it false
--   any_next              one more, whatever it answers
--   any-eq                tests that answer the same
--
-- What this file is for: a loop that looks for a true answer stops at the first, and else has seen them all. Assumes nothing.
use mathlib.Core.Path.{◌≡◌, refl, sym, ap₂, ◌∙◌}
use mathlib.Core.Bool.{Bool, true, false, ◌||◌, true≢false, false≢true}
use Prim.Native.Nat.{ℕ, zero, suc, ◌+◌, ◌<◌}
use native.Mathlib.Numerals.{add-one}
use native.Mathlib.Omega.{arith}
use native.Mathlib.Decide.{ℕ_discrete}
use Rattle.bounded.specs.Bounded.{any}

pub any_none : (n : ℕ) (f : ℕ → Bool) → any n f ≡ false → (i : ℕ) → i < n → f i ≡ false
unfolding any
any_none zero f e i l = absurd (omega arith)
any_none (suc n) f e i l = go (any n f) e (λ p. any_none n f p i)
  where
    go : (a : Bool) → a || f n ≡ false → (a ≡ false → i < n → f i ≡ false) → f i ≡ false
    go true e r = absurd (true≢false e)
    go false e r = elim (ℕ_discrete i n) [ yes h ↦ rw h e | no h ↦ r refl (omega arith) ]

pub none_any : (n : ℕ) (f : ℕ → Bool) → ((i : ℕ) → i < n → f i ≡ false) → any n f ≡ false
unfolding any
none_any zero f h = refl
none_any (suc n) f h = rw (none_any n f λ i l. h i (omega arith)) (h n (omega arith))

pub any_some : (n : ℕ) (f : ℕ → Bool) → any n f ≡ true → (i : ℕ) × (i < n) × (f i ≡ true)
unfolding any
any_some zero f e = absurd (false≢true e)
any_some (suc n) f e = go (any n f) e (any_some n f)
  where
    go : (a : Bool) → a || f n ≡ true → (a ≡ true → (i : ℕ) × (i < n) × (f i ≡ true)) → (i : ℕ) × (i < suc n) × (f i ≡ true)
    go true e r = let (i, l, h) = r refl in (i, omega arith, h)
    go false e r = (n, omega arith, e)

pub some-any : (n : ℕ) (f : ℕ → Bool) (i : ℕ) → i < n → f i ≡ true → any n f ≡ true
some-any n f i l e = go (any n f) refl
  where
    go : (b : Bool) → any n f ≡ b → any n f ≡ true
    go true p = p
    go false p = absurd (false≢true (sym (any_none n f p i l) ∙ e))

-- the start of a loop, and one more
pub any-start : (f : ℕ → Bool) → any 0 f ≡ false
unfolding any
any-start f = refl

pub any-more : (n : ℕ) (f : ℕ → Bool) → any n f ≡ false → f n ≡ false → any (n + 1) f ≡ false
unfolding any
any-more n f e h = rw (add-one n, e) h

-- one more, where the loop goes on whatever it found
pub any_next : (n : ℕ) (f : ℕ → Bool) {a b : Bool} → a ≡ any n f → b ≡ f n → a || b ≡ any (n + 1) f
unfolding any
any_next n f e h = rw (add-one n, e, h)

-- tests that answer the same
pub any-eq : (n : ℕ) {f g : ℕ → Bool} → ((i : ℕ) → i < n → f i ≡ g i) → any n f ≡ any n g
unfolding any
any-eq zero h = refl
any-eq (suc n) h = ap₂ ◌||◌ (any-eq n λ i l. h i (omega arith)) (h n (omega arith))
