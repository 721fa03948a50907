-- A list that is made by a function of the place.
--
--   made-each   where each call leaves the function as it was, what holds of every call holds of every place of the list
--   made-tab    where each call gives h of its place, the list is the table of h
--
-- What this file is for: what `array::from_fn` hands back is known place by place. Assumes nothing.
use Rattle.std.proofs.Common.{◌≡◌, ℕ, zero, suc, ◌+◌, ◌≤◌, ◌<◌, List, refl, arith}
use native.Mathlib.Decide.{ℕ_discrete}
use denote.Param.Members.{Mut, Called}
use Rattle.std.specs.Array.{IsFromFnResult, IsFromFnResultFrom}
use Rattle.bounded.specs.Bounded.{at, tab}
use Rattle.bounded.proofs.Tab.{tab-is}

pub made-each : {F : Type 0} (g : Mut F (ℕ × Unit {0}) ℕ) (P : ℕ → ℕ → Type 0) (f : F) (s : List ℕ) (n : ℕ) →
    ((i y : ℕ) (q : F) → Called g f (i, tt) y q → (q ≡ f) × P i y) → IsFromFnResult g f s n → (k : ℕ) → k < n → P k (at s k)
made-each {F} g P f s n call made k l = go n 0 f refl made.each (omega arith) (omega arith)
  where
    go : (m i : ℕ) (p : F) → p ≡ f → IsFromFnResultFrom g p s i m → i ≤ k → k < i + m → P k (at s k)
    go zero i p e w b d = absurd (omega arith)
    go (suc m) i p e (q, y, here, made, rest) b d =
        let (same, holds) = call i y q (rw e at made) in
        elim (ℕ_discrete k i) [
          | yes z ↦ rw (z, here.1 0) holds
          | no z ↦ go m (i + 1) q same rest (omega arith) (omega arith)
        ]

pub made-tab : {F : Type 0} (g : Mut F (ℕ × Unit {0}) ℕ) (h : ℕ → ℕ) (f : F) (s : List ℕ) (n : ℕ) →
    ((i y : ℕ) (q : F) → Called g f (i, tt) y q → (q ≡ f) × (y ≡ h i)) → IsFromFnResult g f s n → s ≡ tab n h
made-tab g h f s n call made = tab-is n h s made.long (made-each g (λ i y. y ≡ h i) f s n call made)
