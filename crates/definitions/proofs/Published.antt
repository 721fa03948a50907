-- A cost is the published distance times twice the full doubt.
--
--   cost-published   n cells, for any full doubt
--   photo_weighed    of a photograph and any record, twice the full doubt of its season; and the margin
--
-- What this file is for: the customer's whole numbers are the published weights. Assumes nothing.
use mathlib.Core.Path.{◌≡◌, refl, ap}
use mathlib.Core.Bool.{Bool, true, false}
use mathlib.Core.List.{List}
use Prim.Native.Nat.{ℕ, zero, suc, ◌+◌, ◌*◌, ◌<◌}
use native.Mathlib.Omega.{arith}
use native.Mathlib.Nat.{mul-le-mul}
use lib.Dec.{eqb}
use Rattle.bounded.specs.Bounded.{at}
use Rattle.definitions.specs.Code.{Code, cells, value}
use Rattle.definitions.specs.Cost.{full, margin}
use Rattle.distance.specs.Cost.{cell, cost}
use Rattle.definitions.specs.Published.{Fraction, ◌over◌, ◌⊕◌, ◌is◌times◌, Δ, distance, weighted}
use Rattle.definitions.specs.Calls.{reading_of}
use Rattle.definitions.specs.Photograph.{Photograph}
use Rattle.definitions.specs.Demands.{Weighed}
use Rattle.definitions.proofs.Full.{full-some}

-- a cell's distance is its cost over twice the full doubt
cell-published : (f s u v : ℕ) → Δ (s, u over f) v ≡ cell f s u v over (2 * f)
cell-published f s u v = go (eqb s v) refl
  where
    go : (b : Bool) → eqb s v ≡ b → Δ (s, u over f) v ≡ cell f s u v over (2 * f)
    go true e = rw e
    go false e = rw e

-- one fraction over k more
times_more : (k D c : ℕ) (q : Fraction) → 0 < k → D is k times q → (D + c) is k times (q ⊕ c over k)
times_more k D c (a over b) z h = (omega (arith, mul-le-mul {n₁ = 1} {m₁ = 1} h.0 z), omega (arith, ap (λ t. t * k) h.1))

pub cost-published : (f n : ℕ) (s u v : ℕ → ℕ) → 0 < f → cost f n s u v is 2 * f times distance n (weighted f s u) v
cost-published f zero s u v z = (omega arith, omega arith)
cost-published f (suc n) s u v z =
    let h = cost-published f n s u v z in
    let q = distance n (weighted f s u) v in
    rw (cell-published f (s n) (u n) (v n)) (times_more (2 * f) (cost f n s u v) (cell f (s n) (u n) (v n)) q (omega arith) h)

pub photo_weighed : (C : Code) (P s u F : List ℕ) → Photograph C P s u →
    Weighed (full P) (2 * full P) C P s u F (reading_of C P s u F)
unfolding reading_of margin
photo_weighed C P s u F h = record {
  uncertain = λ c l. (full-some P, (h.doubt c l).0);
  cost = cost-published (full P) (cells C P) (at s) (at u) (value C P F) (full-some P);
  margin = refl;
}
