-- At most one record of a sound plan is within the radius, of a strip and of a mark alike.
--
--   AtMostOne C P s u   of two records of the plan within the radius one is the other
--   at_most_one         it is so for every photograph
--
-- What this file is for: the law of the distance, which holds for any number of coordinates, in the words of the plan. Assumes
-- nothing.
use mathlib.Core.Path.{◌≡◌, sym, ap, ◌∙◌}
use mathlib.Core.Bool.{true}
use mathlib.Core.List.{List}
use Prim.Native.Nat.{ℕ, suc, ◌*◌, ◌-◌, ◌%◌, ◌<◌}
use native.Mathlib.Omega.{arith}
use native.Mathlib.Numerals.{add-one}
use Rattle.bounded.specs.Bounded.{at}
use Rattle.bounded.proofs.Sum.{sum-eq}
use Rattle.field.specs.Word.{Word}
use Rattle.distance.specs.Cost.{cell, cost}
use Rattle.polynomial.specs.Sides.{distance, cell_point}
use Rattle.polynomial.specs.Layout.{start}
use Rattle.polynomial.specs.Poly.{Poly, in_cell, word, coefs}
use Rattle.polynomial.proofs.Poly.{value-eval, eval-cell, record-one}
use Rattle.polynomial.proofs.Far.{poly_one}
use Rattle.definitions.specs.Plan.{modulus, degree, side, point}
use Rattle.definitions.specs.Code.{Code, more, cells, value, IsRecord}
use Rattle.definitions.specs.Cost.{full}
use Rattle.definitions.specs.Calls.{within}
use Rattle.definitions.specs.Sound.{Sound}
use Rattle.definitions.specs.Photograph.{Photograph}
use Rattle.definitions.proofs.Plan.{plan-modulus, plan-apart, plan-low}
use Rattle.definitions.proofs.Nearest.{within-cost}

abbrev pub AtMostOne : Code → (P s u : List ℕ) → Type 0
AtMostOne C P s u = (F G : List ℕ) → IsRecord C P F → IsRecord C P G → within C P s u F ≡ true → within C P s u G ≡ true → F ≡ G

module _ (C : Code) (P s u : List ℕ) (h : Photograph C P s u) where
  S : Sound P
  S = h.sound

  -- the record's polynomial
  abbrev polynomial : List ℕ → Poly (more C)
  polynomial F = coefs (more C) (start (more C)) F

  values : (F : List ℕ) (c : ℕ) →
      value C P F c ≡ word (modulus P - 1) (more C) (degree P) (side P) (point P) (polynomial F) c
  values F c = value-eval (more C) (modulus P) (degree P) F (cell_point (more C) (side P) (point P) c)
      ∙ ap (λ v. v % modulus P) (eval-cell (more C) (degree P) (side P) (point P) (polynomial F) c)
      ∙ ap (λ p. in_cell (more C) (degree P) (side P) (point P) (polynomial F) c % p) (sym (plan-modulus S))

  near : (F : List ℕ) → within C P s u F ≡ true →
      cost (full P) (cells C P) (at s) (at u) (word (modulus P - 1) (more C) (degree P) (side P) (point P) (polynomial F))
      < full P * distance (more C) (side P) (degree P)
  near F t = omega (
    arith,
    within-cost C P s u F t,
    sum-eq (cells C P) λ c _. ap (cell (full P) (at s c) (at u c)) (values F c),
  )

  residues : (F : List ℕ) → IsRecord C P F → Word (suc (modulus P - 1)) (start (more C) (suc (degree P))) F
  residues F f = rw (plan-modulus S) (rw (add-one (degree P)) at f)

  pub at_most_one : AtMostOne C P s u
  at_most_one F G f g i j = record-one (more C) (degree P) F G (residues F f) (residues G g)
      (poly_one (more C) (λ k _. plan-apart S k) (full P) (degree P) (plan-low S C) (at s) (at u) (λ c l. (h.doubt c l).0)
      (polynomial F) (polynomial G) (near F i) (near G j))
