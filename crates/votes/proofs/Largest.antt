-- The laws of the largest of some numbers.
--
--   most-above     none of them is above it
--   most-below     it is at most what they all are
--   most-reached   it is one of them, or 0
--   most-next      one number more, as a loop looks at it
--   most-tab       the largest entry of a table
--   most-is        one of them that none is above is the largest
--
-- What this file is for: a pass that keeps the larger has found the largest. Assumes nothing.
use mathlib.Core.Path.{◌≡◌, refl, ap, ap₂, ◌∙◌}
use mathlib.Core.Logic.{◌⊎◌, inl, inr, ⊎_elim}
use Prim.Native.Nat.{ℕ, zero, suc, ◌+◌, ◌≤◌, ◌<◌, max}
use native.Mathlib.Numerals.{add-one}
use native.Mathlib.Omega.{arith}
use native.Mathlib.Decide.{ℕ_discrete, dec_lt}
use Rattle.bounded.specs.Bounded.{at, tab}
use Rattle.bounded.proofs.Tab.{tab-at}
use Rattle.votes.specs.Votes.{most}

pub most-above : (b : ℕ) (g : ℕ → ℕ) (i : ℕ) → i < b → g i ≤ most b g
unfolding most
most-above zero g i l = absurd (omega arith)
most-above (suc b) g i l = elim (ℕ_discrete i b) [
  | yes e ↦ omega (arith, ap g e)
  | no e ↦ omega (arith, most-above b g i (omega arith))
]

pub most-below : (b : ℕ) (g : ℕ → ℕ) (s : ℕ) → ((i : ℕ) → i < b → g i ≤ s) → most b g ≤ s
unfolding most
most-below zero g s h = omega arith
most-below (suc b) g s h = omega (arith, most-below b g s λ i l. h i (omega arith), h b (omega arith))

pub most-reached : (b : ℕ) (g : ℕ → ℕ) → (most b g ≡ 0) ⊎ ((i : ℕ) × (i < b) × (g i ≡ most b g))
unfolding most
most-reached zero g = inl refl
most-reached (suc b) g = elim (dec_lt (most b g) (g b)) [
  | yes l ↦ inr (b, omega arith, omega arith)
  | no l ↦ ⊎_elim (λ z. inl (omega (arith, z))) (λ r. inr (r.0, omega (arith, r.1), omega (arith, r.2))) (most-reached b g)
]

pub most-next : (b : ℕ) (g : ℕ → ℕ) {a c : ℕ} → a ≡ most b g → c ≡ g b → max a c ≡ most (b + 1) g
unfolding most
most-next b g e f = ap₂ max e f ∙ rw (add-one b)

same-most : (b : ℕ) {g h : ℕ → ℕ} → ((i : ℕ) → i < b → g i ≡ h i) → most b g ≡ most b h
unfolding most
same-most zero e = refl
same-most (suc b) e = ap₂ max (same-most b λ i l. e i (omega arith)) (e b (omega arith))

pub most-tab : (b : ℕ) (g : ℕ → ℕ) → most b (at (tab b g)) ≡ most b g
most-tab b g = same-most b (tab-at b g)

pub most-is : (b : ℕ) (g : ℕ → ℕ) (s i : ℕ) → ((k : ℕ) → k < b → g k ≤ s) → i < b → g i ≡ s → most b g ≡ s
most-is b g s i h l e = omega (arith, most-below b g s h, most-above b g i l, e)
