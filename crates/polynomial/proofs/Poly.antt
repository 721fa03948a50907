-- From the flat record to the polynomial by powers of the last coordinate.
--
--   value-eval   the record's value at a point is the polynomial's
--   eval-cell    a polynomial's value at the point of a cell is its value in the cell
--   sum-place    a place before the end of a sum is in one of its terms
--   sum_inside   and a place in one of its terms is before its end
--   record-one   records with congruent coefficients are one
--
-- What this file is for: laws of polynomials say what holds of records. A record's value is a sum by total degree, and the
-- triangle of its terms is summed by powers of the last coordinate instead. Assumes nothing.
use mathlib.Core.Path.{◌≡◌, refl, sym, ap, ap₂, ◌∙◌}
use mathlib.Core.List.{List}
use mathlib.Core.Bool.{cond}
use Prim.Native.Nat.{ℕ, zero, suc, ◌+◌, ◌*◌, ◌-◌, ◌/◌, ◌%◌, ◌^◌, ◌≤◌, ◌<◌}
use native.Mathlib.Omega.{arith}
use native.Mathlib.Decide.{ℕ_discrete, dec_lt}
use native.Mathlib.Numerals.{add-one}
use native.Mathlib.Nat.{add-zero, add_assoc, mod-eq_of_lt}
use borrow.Author.Tests.{eq-eqb, ne_eqb}
use Rattle.bounded.specs.Bounded.{at, sum}
use Rattle.bounded.proofs.Sum.{sum-eq, sum-add, sum-mul}
use Rattle.bounded.proofs.Tab.{list_eq}
use Rattle.field.specs.Congruence.{Cong}
use Rattle.field.specs.Word.{Word}
use Rattle.field.proofs.Congruence.{to-mod}
use Rattle.polynomial.specs.Sides.{cell_point}
use Rattle.polynomial.specs.Layout.{count, skip, start, group, value}
use Rattle.polynomial.specs.Poly.{Poly, eval, in_cell, Same, coefs}

-- a triangle summed by diagonals and by columns
triangle : (d : ℕ) (f : ℕ → ℕ → ℕ) →
    sum (suc d) (λ k. sum (suc k) λ j. f (k - j) j) ≡ sum (suc d) (λ t. sum (suc (d - t)) λ i. f i t)
triangle zero f = refl
triangle (suc d) f = omega (
  arith,
  triangle d f,
  last,
  sum-eq (suc d) longer,
  sum-add (suc d) (λ t. sum (suc (d - t)) λ i. f i t) (λ j. f (suc d - j) j),
)
  where
    longer : (t : ℕ) → t < suc d → sum (suc (suc d - t)) (λ i. f i t) ≡ sum (suc (d - t)) (λ i. f i t) + f (suc d - t) t
    longer t l = let e : suc d - t ≡ suc (d - t) = omega arith in rw e

    last : sum (suc (suc d - suc d)) (λ i. f i (suc d)) ≡ f (suc d - suc d) (suc d)
    last = let e : suc d - suc d ≡ 0 = omega arith in rw e (omega arith)

-- a group looks at its coefficients alone
group-eq : (m k : ℕ) {f g : ℕ → ℕ} (z : ℕ → ℕ) → ((i : ℕ) → f i ≡ g i) → group m k f z ≡ group m k g z
group-eq zero k z e = ap (λ v. v * z 0 ^ k) (e 0)
group-eq (suc m) k z e = sum-eq (suc k) λ j _. ap (λ v. v * z (suc m) ^ j) (group-eq m (k - j) z λ i. e (skip m k j + i))

-- groups that stand in F, that of degree k from P k on
groups_eval : (m d : ℕ) (P : ℕ → ℕ) (F : List ℕ) (z : ℕ → ℕ) →
    sum (suc d) (λ k. group m k (λ i. at F (P k + i)) z) ≡ eval m d (coefs m P F) z
groups_eval zero d P F z = sum-eq (suc d) λ k _. ap (λ v. at F v * z 0 ^ k) (add-zero (P k))
groups_eval (suc m) d P F z =
    sum-eq (suc d) (λ k _. sum-eq (suc k) λ j l. diagonal k j (omega arith))
    ∙ triangle d (λ i t. term i t * z (suc m) ^ t)
    ∙ sum-eq (suc d) λ t _. column t (groups_eval m (d - t) (begin t) F z)
  where
    -- what stands before the power t of the last coordinate begins there
    begin : ℕ → ℕ → ℕ
    begin t k = P (k + t) + skip m (k + t) t

    term : ℕ → ℕ → ℕ
    term i t = group m i (λ l. at F (begin t i + l)) z

    diagonal : (k j : ℕ) → j ≤ k →
        group m (k - j) (λ l. at F (P k + (skip m k j + l))) z * z (suc m) ^ j ≡ term (k - j) j * z (suc m) ^ j
    diagonal k j l =
        let e : k - j + j ≡ k = omega arith in
        rw e (ap (λ v. v * z (suc m) ^ j) (group-eq m (k - j) z λ l. ap (at F) (sym (add_assoc (P k) (skip m k j) l))))

    column : (t : ℕ) → sum (suc (d - t)) (λ i. term i t) ≡ eval m (d - t) (coefs (suc m) P F t) z →
        sum (suc (d - t)) (λ i. term i t * z (suc m) ^ t) ≡ eval m (d - t) (coefs (suc m) P F t) z * z (suc m) ^ t
    column t e =
        sum-eq (suc (d - t)) {g = λ i. z (suc m) ^ t * term i t} (λ i _. omega arith)
        ∙ sum-mul (suc (d - t)) (z (suc m) ^ t) (λ i. term i t)
        ∙ omega (arith, ap (λ v. v * z (suc m) ^ t) e)

pub value-eval : (m p d : ℕ) (F : List ℕ) (z : ℕ → ℕ) → value m p d F z ≡ eval m d (coefs m (start m) F) z % p
unfolding value
value-eval m p d F z = ap (λ v. v % p)
    (ap (λ n. sum n λ k. group m k (λ i. at F (start m k + i)) z) (add-one d) ∙ groups_eval m d (start m) F z)

-- a value looks at the coordinates 0 .. m alone
eval-point : (m d : ℕ) (h : Poly m) {z w : ℕ → ℕ} → ((i : ℕ) → i ≤ m → z i ≡ w i) → eval m d h z ≡ eval m d h w
eval-point zero d h e = sum-eq (suc d) λ i _. ap (λ v. h i * v ^ i) (e 0 (omega arith))
eval-point (suc m) d h e = sum-eq (suc d) λ t _.
    ap₂ (λ v y. v * y ^ t) (eval-point m (d - t) (h t) λ i l. e i (omega arith)) (e (suc m) (omega arith))

pub eval-cell : (m d : ℕ) (n : ℕ → ℕ) (x : ℕ → ℕ → ℕ) (h : Poly m) (c : ℕ) →
    eval m d h (cell_point m n x c) ≡ in_cell m d n x h c
eval-cell zero d n x h c = refl
eval-cell (suc m) d n x h c = sum-eq (suc d) λ t _. ap₂ (λ v y. v * y ^ t)
    (eval-point m (d - t) (h t) (λ i l. first i l) ∙ eval-cell m (d - t) n x (h t) (c / n (suc m)))
    last
  where
    first : (i : ℕ) → i ≤ m → cell_point (suc m) n x c i ≡ cell_point m n x (c / n (suc m)) i
    first i l = ap (λ b. cond b (x (suc m) (c % n (suc m))) (cell_point m n x (c / n (suc m)) i))
        (ne_eqb i (suc m) (λ e. omega arith))

    last : cell_point (suc m) n x c (suc m) ≡ x (suc m) (c % n (suc m))
    last = ap (λ b. cond b (x (suc m) (c % n (suc m))) (cell_point m n x (c / n (suc m)) (suc m)))
        (eq-eqb (suc m) (suc m) refl)

pub sum-place : (n : ℕ) (f : ℕ → ℕ) (i : ℕ) → i < sum n f → (j l : ℕ) × (j < n) × (l < f j) × (i ≡ sum j f + l)
sum-place zero f i h = absurd (omega arith)
sum-place (suc n) f i h = elim (dec_lt i (sum n f)) [
  | yes k ↦ let (j, l, a, b, e) = sum-place n f i k in (j, l, omega arith, b, e)
  | no k ↦ (n, i - sum n f, omega arith, omega arith, omega arith)
]

pub sum_inside : (n : ℕ) (f : ℕ → ℕ) (j l : ℕ) → j < n → l < f j → sum j f + l < sum n f
sum_inside zero f j l h k = absurd (omega arith)
sum_inside (suc n) f j l h k = elim (ℕ_discrete j n) [
  | yes e ↦ rw e (omega (arith, rw e at k))
  | no e ↦ omega (arith, sum_inside n f j l (omega arith) k)
]

-- every coefficient of a group
covered : {q : ℕ} (m : ℕ) {d : ℕ} (P : ℕ → ℕ) (F G : List ℕ) → Same q m d (coefs m P F) (coefs m P G) → (k i : ℕ) → k ≤ d →
    i < count m k → Cong q (at F (P k + i)) (at G (P k + i))
covered zero P F G s k i l h = let e : P k + i ≡ P k = omega arith in rw e (s k l)
covered {q} (suc m) P F G s k i l h =
    let (j, i', a, b, e) = sum-place (suc k) (λ j. count m (k - j)) i h in
    let back : k - j + j ≡ k = omega arith in
    let c : Cong q (at F (P (k - j + j) + skip m (k - j + j) j + i')) (at G (P (k - j + j) + skip m (k - j + j) j + i')) =
    covered m (λ k. P (k + j) + skip m (k + j) j) F G (s j (omega arith)) (k - j) i' (omega arith) b in
    let there : P k + i ≡ P k + skip m k j + i' = omega arith in
    rw there (rw back at c)

-- two records with the same coefficients modulo p
pub record-one : {q : ℕ} (m d : ℕ) (F G : List ℕ) → Word (suc q) (start m (suc d)) F → Word (suc q) (start m (suc d)) G →
    Same q m d (coefs m (start m) F) (coefs m (start m) G) → F ≡ G
record-one {q} m d F G a b s = list_eq F G (a.size ∙ sym b.size) λ i l.
    let n : i < start m (suc d) = omega (arith, a.size) in
    let (k, i', h, j, e) = sum-place (suc d) (count m) i n in
    let c = covered m (start m) F G s k i' (omega arith) j in
    sym (mod-eq_of_lt (a.below i n)) ∙ rw e (to-mod c) ∙ mod-eq_of_lt (b.below i n)
