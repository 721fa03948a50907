-- An array that is made place by place.
--
--   made   where each call leaves the closure as it was and gives h of its place, the array is the table of h
--
-- What this file is for: what `array::from_fn` says of its calls, as the array. Assumes nothing.
use mathlib.Core.Path.{◌≡◌, ◌∙◌}
use mathlib.Core.List.{List}
use Prim.Native.Nat.{ℕ, zero, suc, ◌+◌, ◌≤◌, ◌<◌}
use native.Mathlib.Omega.{arith}
use native.Mathlib.Decide.{ℕ_discrete}
use denote.Param.Members.{Mut, Called}
use Rattle.std.specs.Array.{IsFromFnResult, IsFromFnResultFrom}
use Rattle.bounded.specs.Bounded.{at, tab}
use Rattle.bounded.proofs.Tab.{tab-is}

module _ {F : Type 0} (g : Mut F (ℕ × Unit) ℕ) (f : F) (h : ℕ → ℕ) (ys : List ℕ)
    (gives : (i y : ℕ) (q : F) → Called g f (i, tt) y q → (q ≡ f) × (y ≡ h i)) where
  each : (i n : ℕ) → IsFromFnResultFrom g f ys i n → (j : ℕ) → i ≤ j → j < i + n → at ys j ≡ h j
  each i zero m j a b = absurd (omega arith)
  each i (suc n) (q, y, e, k, m) j a b = elim (ℕ_discrete j i) [
    | yes z ↦ rw z (e.1 0 ∙ (gives i y q k).1)
    | no z ↦ each (i + 1) n (rw (gives i y q k).0 at m) j (omega arith) (omega arith)
  ]

  pub made : (n : ℕ) → IsFromFnResult g f ys n → ys ≡ tab n h
  made n m = tab-is n h ys m.long λ j l. each 0 n m.each j (omega arith) (omega arith)
