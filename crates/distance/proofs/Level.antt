-- Levels of doubt: at level t the cells with a doubt of at most t are read, the others erased.
--
--   levels_cost   over all levels below the full doubt a word weighs what it costs
--   some_level    so a word under full * D weighs less than D at some level
--   some-cell     and at one that is some cell's doubt
--
-- What this file is for: generalised minimum distance: a decoder for errors and erasures at each level finds every word
-- under full * D. Assumes nothing.
use mathlib.Core.Logic.{◌≢◌, inl, inr}
use mathlib.Core.Path.{◌≡◌, refl, ◌∙◌}
use mathlib.Core.Bool.{Bool, true, false, cond}
use Prim.Native.Nat.{ℕ, zero, suc, ◌+◌, ◌*◌, ◌-◌, ◌≤◌, ◌<◌, min}
use native.Mathlib.Omega.{arith}
use lib.Dec.{eqb, leb}
use borrow.Author.Tests.{leb-true, leb-false}
use Rattle.bounded.specs.Bounded.{sum}
use Rattle.bounded.proofs.Sum.{sum-eq, sum-add, sum-mul, sum_const, sum_swap, sum-some, find}
use Rattle.distance.specs.Cost.{cell, cost, differ}
use Rattle.distance.specs.Doubts.{Doubts}
use Rattle.distance.specs.Level.{wrong, erased, weight}

-- what one cell weighs
abbrev weigh : (t s u v : ℕ) → ℕ
weigh t s u v = 2 * wrong t s u v + erased t u

weight-sum : (n t : ℕ) (s u v : ℕ → ℕ) → weight n t s u v ≡ sum n λ i. weigh t (s i) (u i) (v i)
weight-sum n t s u v = omega (
  arith,
  sum-mul n 2 (λ i. wrong t (s i) (u i) (v i)),
  sum-add n (λ i. 2 * wrong t (s i) (u i) (v i)) (λ i. erased t (u i)),
)

-- over the levels below the full doubt
levels : (full s u v : ℕ) → sum full (λ t. weigh t s u v) ≡ min full u + cond (eqb s v) 0 (2 * (full - u))
levels zero s u v = go (eqb s v)
  where
    go : (b : Bool) → 0 ≡ min zero u + cond b 0 (2 * (zero - u))
    go true = omega arith
    go false = omega arith
levels (suc full) s u v = go (eqb s v) (leb u full) refl (levels full s u v)
  where
    go : (b c : Bool) → leb u full ≡ c → sum full (λ t. weigh t s u v) ≡ min full u + cond b 0 (2 * (full - u)) →
        sum full (λ t. weigh t s u v) + (2 * cond c (cond b 0 1) 0 + cond c 0 1) ≡
        min (suc full) u + cond b 0 (2 * (suc full - u))
    go true true e h = omega (arith, leb-true u full e)
    go true false e h = omega (arith, leb-false u full e)
    go false true e h = omega (arith, leb-true u full e)
    go false false e h = omega (arith, leb-false u full e)

cell_levels : (full s u v : ℕ) → u ≤ full → sum full (λ t. weigh t s u v) ≡ cell full s u v
cell_levels full s u v h = levels full s u v ∙ go (eqb s v)
  where
    go : (b : Bool) → min full u + cond b 0 (2 * (full - u)) ≡ cond b u (2 * full - u)
    go true = omega arith
    go false = omega arith

pub levels_cost : (full n : ℕ) (s u v : ℕ → ℕ) → Doubts full n u → sum full (λ t. weight n t s u v) ≡ cost full n s u v
levels_cost full n s u v h =
    sum-eq full (λ t l. weight-sum n t s u v)
    ∙ sum_swap full n (λ t i. weigh t (s i) (u i) (v i))
    ∙ sum-eq n (λ i l. cell_levels full (s i) (u i) (v i) (h i l))

pub some_level : (full D n : ℕ) (s u v : ℕ → ℕ) → Doubts full n u → cost full n s u v < full * D →
    (t : ℕ) × (t < full) × (weight n t s u v < D)
some_level full D n s u v h c = sum-some full D (λ t. weight n t s u v) (rw (levels_cost full n s u v h) c)

-- a level that is no cell's doubt weighs what the one below weighs; at level 0 all cells are erased then
lower : (t s u v : ℕ) → u ≢ suc t → weigh (suc t) s u v ≡ weigh t s u v
lower t s u v h = go (leb u (suc t)) (leb u t) refl refl
  where
    go : (a b : Bool) → leb u (suc t) ≡ a → leb u t ≡ b →
        2 * cond a (differ s v) 0 + cond a 0 1 ≡ 2 * cond b (differ s v) 0 + cond b 0 1
    go true true i j = refl
    go true false i j = absurd (omega (arith, leb-true u (suc t) i, leb-false u t j))
    go false true i j = absurd (omega (arith, leb-false u (suc t) i, leb-true u t j))
    go false false i j = refl

lowest : (s u v : ℕ) → u ≢ 0 → weigh 0 s u v ≡ 1
lowest s u v h = go (leb u 0) refl
  where
    go : (b : Bool) → leb u 0 ≡ b → 2 * cond b (differ s v) 0 + cond b 0 1 ≡ 1
    go true e = absurd (omega (arith, leb-true u 0 e))
    go false e = refl

cell_level : (full D n t : ℕ) (s u v : ℕ → ℕ) → D ≤ n → t < full → sum n (λ i. weigh t (s i) (u i) (v i)) < D →
    (k : ℕ) × (k < n) × (u k < full) × (sum n (λ i. weigh (u k) (s i) (u i) (v i)) < D)
cell_level full D n zero s u v d l w = elim (find n u zero) [
  | inl r ↦ (r.0, r.1, omega (arith, r.2), rw r.2 w)
  | inr r ↦ absurd (omega (
    arith,
    sum-eq n {f = λ i. weigh 0 (s i) (u i) (v i)} {g = λ i. 1} (λ i l. lowest (s i) (u i) (v i) (r i l)),
    sum_const n 1,
  ))
]
cell_level full D n (suc t) s u v d l w = elim (find n u (suc t)) [
  | inl r ↦ (r.0, r.1, omega (arith, r.2), rw r.2 w)
  | inr r ↦ cell_level full D n t s u v d (omega arith) (rw (← sum-eq n (λ i l. lower t (s i) (u i) (v i) (r i l))) w)
]

-- only levels that are some cell's doubt need a trial
pub some-cell : (full D n : ℕ) (s u v : ℕ → ℕ) → Doubts full n u → D ≤ n → cost full n s u v < full * D →
    (k : ℕ) × (k < n) × (u k < full) × (weight n (u k) s u v < D)
some-cell full D n s u v h d c =
    let t = some_level full D n s u v h c in
    let r = cell_level full D n t.0 s u v d t.1 (rw (weight-sum n t.0 s u v) at t.2) in
    (r.0, r.1, r.2, rw (weight-sum n (u r.0) s u v) r.3)
