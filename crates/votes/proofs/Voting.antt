-- The laws of votes.
--
--   votes_own, votes-some   a symbol that is there has a vote, and one that has a vote is there
--   votes-cast              no symbol has more votes than are cast
--   cast-some, none-cast    where a vote is cast some symbol is read, and where none is none is
--   votes-next              one photograph more, as a loop counts it
--   cast-silent             who casts no vote has the symbol 255
--
-- What this file is for: what is counted over photographs is known of symbols. Assumes nothing.
use mathlib.Core.Path.{◌≡◌, refl, sym, ap, ap₂, ◌∙◌}
use mathlib.Core.Bool.{Bool, true, false, cond}
use mathlib.Core.List.{List}
use mathlib.Core.Logic.{◌≢◌}
use Prim.Native.Nat.{ℕ, zero, suc, ◌+◌, ◌≤◌, ◌<◌}
use native.Mathlib.Omega.{arith}
use native.Mathlib.Decide.{dec_lt, ℕ_discrete}
use lib.Dec.{eqb}
use borrow.Author.Tests.{eq-eqb, ne_eqb}
use Rattle.bounded.specs.Bounded.{at, sum}
use Rattle.bounded.proofs.Sum.{sum-le, sum_more}
use Rattle.votes.specs.Votes.{votes, cast}

-- a sum is at least each of its terms, and one that is above 0 has a term above 0
sum-term : (n : ℕ) (f : ℕ → ℕ) (i : ℕ) → i < n → f i ≤ sum n f
sum-term zero f i l = absurd (omega arith)
sum-term (suc n) f i l = elim (ℕ_discrete i n) [
  | yes e ↦ omega (arith, ap f e)
  | no e ↦ omega (arith, sum-term n f i (omega arith))
]

sum-above : (n : ℕ) (f : ℕ → ℕ) → 0 < sum n f → (i : ℕ) × (i < n) × (0 < f i)
sum-above zero f h = absurd (omega arith)
sum-above (suc n) f h = elim (dec_lt 0 (f n)) [
  | yes k ↦ (n, omega arith, k)
  | no k ↦ let r = sum-above n f (omega arith) in (r.0, omega (arith, r.1), r.2)
]

module _ (x : List ℕ) where
  pub votes_own : (n i : ℕ) → i < n → 0 < votes x n (at x i)
  unfolding votes
  votes_own n i l =
      let h : 1 ≤ cond (eqb (at x i) (at x i)) 1 0 = rw (eq-eqb (at x i) (at x i) refl) (omega arith) in
      omega (arith, sum-term n (λ k. cond (eqb (at x k) (at x i)) 1 0) i l)

  pub votes-some : (n v : ℕ) → 0 < votes x n v → (i : ℕ) × (i < n) × (at x i ≡ v)
  unfolding votes
  votes-some n v h = let r = sum-above n (λ k. cond (eqb (at x k) v) 1 0) h in (r.0, r.1, is (at x r.0) r.2)
    where
      is : (a : ℕ) → 0 < cond (eqb a v) 1 0 → a ≡ v
      is a h = elim (ℕ_discrete a v) [ yes e ↦ e | no e ↦ absurd (omega (arith, rw (ne_eqb a v e) at h)) ]

  pub votes-cast : (n v : ℕ) → v < 255 → votes x n v ≤ cast x n
  unfolding votes cast
  votes-cast n v h = sum-le n λ k _. one (at x k)
    where
      one : (a : ℕ) → cond (eqb a v) 1 0 ≤ cond (eqb a 255) 0 1
      one a = elim (ℕ_discrete a v) [
        | yes e ↦ let n : a ≢ 255 = λ z. omega arith in rw (eq-eqb a v e, ne_eqb a 255 n) (omega arith)
        | no e ↦ rw (ne_eqb a v e) (omega arith)
      ]

  pub cast-some : (n : ℕ) → 0 < cast x n → (i : ℕ) × (i < n) × (at x i ≢ 255)
  unfolding cast
  cast-some n h =
      let r = sum-above n (λ k. cond (eqb (at x k) 255) 0 1) h in
      (r.0, r.1, λ e. omega (arith, rw (eq-eqb (at x r.0) 255 e) at r.2))

  pub none-cast : (n : ℕ) → cast x n ≡ 0 → (i : ℕ) → i < n → at x i ≡ 255
  unfolding cast
  none-cast n h i l = elim (ℕ_discrete (at x i) 255) [
    | yes e ↦ e
    | no e ↦ absurd (omega (arith, h, rw (ne_eqb (at x i) 255 e) at (sum-term n (λ k. cond (eqb (at x k) 255) 0 1) i l)))
  ]

  pub votes-next : (k v : ℕ) {a b : ℕ} → a ≡ votes x k v → b ≡ cond (eqb (at x k) v) 1 0 → a + b ≡ votes x (k + 1) v
  unfolding votes
  votes-next k v e f = ap₂ ◌+◌ e f ∙ sym (sum_more k (λ k. cond (eqb (at x k) v) 1 0))

  pub cast-silent : (n : ℕ) → cast x n + votes x n 255 ≡ n
  unfolding votes cast
  cast-silent zero = refl
  cast-silent (suc n) = omega (arith, cast-silent n, one (eqb (at x n) 255))
    where
      one : (b : Bool) → cond b 0 1 + cond b 1 0 ≡ 1
      one true = refl
      one false = refl
