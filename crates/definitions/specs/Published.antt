-- The published distance (Kim, section 4.2), with its uncertainties in fractions.
--
--   a over b           the fraction a / b
--   q ⊕ r, half q      their sum, and half of q
--   one_less q         1 - q, for q from 0 to 1
--   FromZeroToOne q    q is from 0 to 1, as an uncertainty is
--   D is k times q     the whole number D is k times the fraction q
--   Δ (σ, u) σ'        the distance of a weighted symbol, σ with the uncertainty u, from a symbol
--   distance n r f     Δ(r, f), the sum over the n places t of Δ(r(t), f(t))
--   weighted full s u  the weighted function of symbols s with doubts u: a doubt over the full doubt is the uncertainty
--
-- What this file is for: a cost is the published distance times twice the full doubt, a whole number.
use Rattle.std.specs.Prelude.{◌≡◌, cond, ℕ, zero, suc, ◌+◌, ◌*◌, ◌-◌, ◌≤◌, ◌<◌, eqb}

infix 30 ◌over◌
pub data Fraction : Type 0 where
  ◌over◌ : (a b : ℕ) → Fraction

infixl 20 ◌⊕◌
abbrev pub ◌⊕◌ : Fraction → Fraction → Fraction
(a over b) ⊕ (c over d) = (a * d + c * b) over (b * d)

abbrev pub half : Fraction → Fraction
half (a over b) = a over (2 * b)

abbrev pub one_less : Fraction → Fraction
one_less (a over b) = (b - a) over b

abbrev pub FromZeroToOne : Fraction → Type 0
FromZeroToOne (a over b) = (0 < b) × (a ≤ b)

infix 10 ◌is◌times◌
abbrev pub ◌is◌times◌ : (D k : ℕ) → Fraction → Type 0
D is k times (a over b) = (0 < b) × (D * b ≡ k * a)

-- u/2 where σ = σ', 1 - u/2 where σ ≠ σ'
abbrev pub Δ : ℕ × Fraction → ℕ → Fraction
Δ (σ, u) σ' = cond (eqb σ σ') (half u) (one_less (half u))

abbrev pub distance : (n : ℕ) (r : ℕ → ℕ × Fraction) (f : ℕ → ℕ) → Fraction
distance zero r f = 0 over 1
distance (suc n) r f = distance n r f ⊕ Δ (r n) (f n)

abbrev pub weighted : (full : ℕ) (s u : ℕ → ℕ) → ℕ → ℕ × Fraction
weighted full s u t = (s t, u t over full)
