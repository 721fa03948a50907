-- Polynomials in the first coordinate and m more, by powers of the last one: h t is what stands before its power t, a polynomial
-- with one coordinate fewer and degree d - t. In X alone h i is the coefficient of X^i. suc q is the modulus.
--
--   Poly m              such polynomials; their degree is named where they are used
--   eval m d h z        the value at the point z, not reduced
--   in_cell m d n x h c  the value in cell c of the grid of points x, not reduced: the last coordinate's point is c % n m, and
--                       c / n m is the cell with one coordinate fewer
--   word q m d n x h    the word of h: its values cell after cell, modulo suc q
--   Same q m d g h      the coefficients up to total degree d are congruent
--   coefs m P F         the polynomial whose groups stand in the list F, that of degree k from P k on
--
-- What this file is for: laws go by induction on m, and each step is a law over lines.
use Rattle.std.specs.Prelude.{List, ℕ, zero, suc, ◌+◌, ◌-◌, ◌/◌, ◌%◌, ◌≤◌}
use Rattle.bounded.specs.Bounded.{at}
use Rattle.field.specs.Congruence.{Cong}
use Rattle.polynomial.specs.Eval as one
use Rattle.polynomial.specs.Layout.{skip}

abbrev pub Poly : ℕ → Type 0
Poly zero = ℕ → ℕ
Poly (suc m) = ℕ → Poly m

abbrev pub eval : (m d : ℕ) → Poly m → (ℕ → ℕ) → ℕ
eval zero d h z = one.eval (suc d) h (z 0)
eval (suc m) d h z = one.eval (suc d) (λ t. eval m (d - t) (h t) z) (z (suc m))

abbrev pub in_cell : (m d : ℕ) (n : ℕ → ℕ) (x : ℕ → ℕ → ℕ) → Poly m → ℕ → ℕ
in_cell zero d n x h c = one.eval (suc d) h (x 0 c)
in_cell (suc m) d n x h c =
    one.eval (suc d) (λ t. in_cell m (d - t) n x (h t) (c / n (suc m))) (x (suc m) (c % n (suc m)))

abbrev pub word : (q m d : ℕ) (n : ℕ → ℕ) (x : ℕ → ℕ → ℕ) → Poly m → ℕ → ℕ
word q m d n x h c = in_cell m d n x h c % suc q

abbrev pub Same : (q m d : ℕ) → (g h : Poly m) → Type 0
Same q zero d g h = (i : ℕ) → i ≤ d → Cong q (g i) (h i)
Same q (suc m) d g h = (t : ℕ) → t ≤ d → Same q m (d - t) (g t) (h t)

abbrev pub coefs : (m : ℕ) (P : ℕ → ℕ) (F : List ℕ) → Poly m
coefs zero P F = λ i. at F (P i)
coefs (suc m) P F = λ t. coefs m (λ k. P (k + t) + skip m (k + t) t) F
