-- A record against its own mark with all doubts 0.
--
--   own_cost, own_differing   it costs 0, and no cell differs
--   own_reading               so its reading is clean
--   own_photo                 the mark is a photograph of the plan
--   radius_positive           the radius is above 0
--   own_read                  read back, it is the record
--   same-record               records whose marks have the same values are one
--
-- What this file is for: demand 2 follows from demand 3, and two different records differ in some cell. Assumes nothing.
use mathlib.Core.Path.{◌≡◌, refl, ap, ◌∙◌}
use mathlib.Core.Logic.{inl}
use mathlib.Core.Bool.{true}
use mathlib.Core.List.{List}
use Prim.Native.Nat.{ℕ, zero, suc, ◌-◌, ◌≤◌, ◌<◌}
use native.Mathlib.Omega.{arith}
use native.Mathlib.Nat.{add-zero, mul-le-mul}
use lib.Dec.{eqb}
use lib.IntN.{pos}
use lib.ListN.{length, replicate}
use borrow.Author.Tests.{eq-eqb}
use Rattle.bounded.specs.Bounded.{at, sum}
use Rattle.bounded.proofs.Sum.{sum-eq, sum_const}
use Rattle.polynomial.specs.Sides.{least, others, distance}
use Rattle.definitions.specs.Plan.{side, degree}
use Rattle.definitions.specs.Code.{Code, strip, oblong, more, cells, value, mark, IsRecord}
use Rattle.definitions.specs.Cost.{full, radius, margin}
use Rattle.distance.specs.Cost.{cell, hamming}
use Rattle.definitions.specs.Calls.{cost_of, changed_of, unread_of, reading_of, read_reading, read_buffer}
use Rattle.definitions.specs.Sound.{Sound}
use Rattle.definitions.specs.Photograph.{Photograph, sure}
use Rattle.definitions.specs.Demands.{Nearest, clean}
use Rattle.definitions.proofs.Full.{full-some}
use Rattle.definitions.proofs.Counts.{value-below, differing_split}
use Rattle.definitions.proofs.Written.{mark-length, mark-at}
use Rattle.definitions.proofs.Nearest.{cost-within}
use Rattle.definitions.proofs.Unique.{at_most_one}

zeros-at : (n c : ℕ) → at (replicate n 0) c ≡ 0
zeros-at zero c = refl
zeros-at (suc n) zero = refl
zeros-at (suc n) (suc c) = zeros-at n c

zeros-length : (n : ℕ) → length {A = ℕ} (replicate n 0) ≡ n
zeros-length zero = refl
zeros-length (suc n) = ap suc (zeros-length n)

module _ (C : Code) (P F : List ℕ) where
  equal : (c : ℕ) → c < cells C P → eqb (at (mark C P F) c) (value C P F c) ≡ true
  equal c l = eq-eqb _ _ (mark-at C P F c l)

  pub own_cost : cost_of C P (mark C P F) (sure (cells C P)) F ≡ 0
  own_cost = sum-eq (cells C P) {g = λ c. 0} own ∙ none (cells C P)
    where
      own : (c : ℕ) → c < cells C P → cell (full P) (at (mark C P F) c) (at (sure (cells C P)) c) (value C P F c) ≡ 0
      own c l = rw (equal c l) (zeros-at (cells C P) c)

      none : (n : ℕ) → sum n (λ c. 0) ≡ 0
      none n = sum_const n 0 ∙ omega arith

  pub own_differing : hamming (cells C P) (at (mark C P F)) (value C P F) ≡ 0
  own_differing = sum-eq (cells C P) {g = λ c. 0} (λ c l. rw (equal c l)) ∙ sum_const (cells C P) 0 ∙ omega arith

module _ (P : List ℕ) (S : Sound P) where
  pub own_photo : (C : Code) (F : List ℕ) → Photograph C P (mark C P F) (sure (cells C P))
  own_photo C F = record {
    sound = S;
    symbols = mark-length C P F;
    doubts = zeros-length (cells C P);
    symbol = λ c l. inl (rw (mark-at C P F c l) (value-below S C F c));
    doubt = λ c l. (
      omega (arith, zeros-at (cells C P) c),
      λ z. absurd (omega (arith, z, mark-at C P F c l, value-below S C F c, S.small)),
    );
  }

  pub own_reading : (C : Code) (F : List ℕ) → reading_of C P (mark C P F) (sure (cells C P)) F ≡ clean C P
  unfolding reading_of margin
  own_reading C F =
      let split = differing_split S C (mark C P F) F in
      let changed : changed_of C P (mark C P F) F ≡ 0 = omega (arith, split, own_differing C P F) in
      let unread : unread_of C P (mark C P F) ≡ 0 = omega (arith, split, own_differing C P F) in
      rw (own_cost C P F, changed, unread)
      (ap (λ m. record { number = 0; cost = 0; margin = pos m; changed = 0; unread = 0; class = 0 }) (add-zero (radius C P)))

  distance_positive : (C : Code) → 1 ≤ distance (more C) (side P) (degree P)
  distance_positive strip = omega (arith, S.low)
  distance_positive oblong = omega (
    arith,
    mul-le-mul {n₁ = 1} {m₁ = 1} {n₂ = others 1 (side P)} {m₂ = least 1 (side P) - degree P} (omega (arith, S.low))
        (omega (arith, S.low)),
  )

  pub radius_positive : (C : Code) → 0 < radius C P
  radius_positive C = mul-le-mul {n₁ = 1} {m₁ = 1} (full-some P) (distance_positive C)

  -- reading it back
  pub own_read : (C : Code) (F B : List ℕ) → IsRecord C P F → Nearest C P (mark C P F) (sure (cells C P)) B →
      (read_reading C P (mark C P F) (sure (cells C P)) B ≡ clean C P) × (read_buffer C P (mark C P F) (sure (cells C P)) B ≡ F)
  own_read C F B r h =
      let z : cost_of C P (mark C P F) (sure (cells C P)) F < radius C P = omega (arith, own_cost C P F, radius_positive C) in
      let t = h.returned F r z in
      (t.0 ∙ own_reading C F, t.1)

  pub same-record : (C : Code) (F G : List ℕ) → IsRecord C P F → IsRecord C P G →
      ((c : ℕ) → c < cells C P → value C P F c ≡ value C P G c) → F ≡ G
  same-record C F G f g e =
      let s = mark C P F in
      let u = sure (cells C P) in
      let none = own_cost C P F in
      let same = sum-eq (cells C P) λ c l. ap (cell (full P) (at s c) (at u c)) (e c l) in
      at_most_one C P s u (own_photo C F) F G f g
      (cost-within C P s u F (omega (arith, none, radius_positive C)))
      (cost-within C P s u G (omega (arith, none, same, radius_positive C)))
