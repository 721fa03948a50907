-- The laws of bounded sums.
--
--   sum-eq, sum-le          equal terms have equal sums, terms that are at most others a sum that is at most theirs
--   sum-add, sum-mul        a sum of sums of terms, and of multiples of terms
--   sum_const               n times k is n k
--   sum_swap                a sum of sums in either order
--   sum_more                one term more, as a loop adds it
--   sum-short               terms that are 0 from i on do not count
--   sum-append              a sum in two parts
--   sum_rows                a sum over n rows of m cells each
--   cell_row, cell-column   the row and the column of cell r m + c
--   sum-put                 two sums of terms that differ at one place only
--   sum-some                the pigeonhole: a sum below n k has a term below k
--   find                    a value is one of n terms, or none of them has it
--
-- What this file is for: a loop adds up term by term, and what it added is a sum. Assumes nothing.
use mathlib.Core.Logic.{◌≢◌, ◌⊎◌, inl, inr}
use mathlib.Core.Path.{◌≡◌, refl, ap, ap₂, ◌∙◌}
use Prim.Native.Nat.{ℕ, zero, suc, ◌+◌, ◌*◌, ◌/◌, ◌%◌, ◌≤◌, ◌<◌}
use native.Mathlib.Numerals.{add-one}
use native.Mathlib.Omega.{arith}
use native.Mathlib.Decide.{ℕ_discrete, dec_lt}
use native.Mathlib.Nat.{add-zero, add-suc, zero-mul, suc-mul, mul-add-div_right, mul-add-mod_self_right, div-eq_of_lt}
use native.Mathlib.Nat.{mod-eq_of_lt}
use Rattle.bounded.specs.Bounded.{sum}

pub sum-eq : (n : ℕ) {f g : ℕ → ℕ} → ((i : ℕ) → i < n → f i ≡ g i) → sum n f ≡ sum n g
sum-eq zero h = refl
sum-eq (suc n) h = ap₂ ◌+◌ (sum-eq n λ i l. h i (omega arith)) (h n (omega arith))

pub sum-le : (n : ℕ) {f g : ℕ → ℕ} → ((i : ℕ) → i < n → f i ≤ g i) → sum n f ≤ sum n g
sum-le zero h = omega arith
sum-le (suc n) h = omega (arith, sum-le n λ i l. h i (omega arith), h n (omega arith))

pub sum-add : (n : ℕ) (f g : ℕ → ℕ) → sum n (λ i. f i + g i) ≡ sum n f + sum n g
sum-add zero f g = refl
sum-add (suc n) f g = omega (arith, sum-add n f g)

pub sum-mul : (n k : ℕ) (f : ℕ → ℕ) → sum n (λ i. k * f i) ≡ k * sum n f
sum-mul zero k f = omega arith
sum-mul (suc n) k f = omega (arith, sum-mul n k f)

pub sum_const : (n k : ℕ) → sum n (λ i. k) ≡ n * k
sum_const zero k = omega arith
sum_const (suc n) k = omega (arith, sum_const n k)

pub sum_swap : (n m : ℕ) (f : ℕ → ℕ → ℕ) → sum n (λ i. sum m (f i)) ≡ sum m (λ j. sum n (λ i. f i j))
sum_swap zero m f = omega (arith, sum_const m 0)
sum_swap (suc n) m f = omega (arith, sum_swap n m f, sum-add m (λ j. sum n (λ i. f i j)) (f n))

-- one term more, as a loop has it
pub sum_more : (n : ℕ) (f : ℕ → ℕ) → sum (n + 1) f ≡ sum n f + f n
sum_more n f = rw (add-one n)

-- terms that are 0 from i on
pub sum-short : (i n : ℕ) (f : ℕ → ℕ) → i ≤ n → ((j : ℕ) → i ≤ j → f j ≡ 0) → sum n f ≡ sum i f
sum-short i zero f h z = let e : i ≡ zero = omega arith in rw e
sum-short i (suc n) f h z = elim (ℕ_discrete i (suc n)) [
  | yes e ↦ rw e
  | no e ↦ let b : i ≤ n = omega arith in omega (arith, sum-short i n f b z, z n b)
]

-- a sum in two parts
pub sum-append : (a b : ℕ) (f : ℕ → ℕ) → sum (a + b) f ≡ sum a f + sum b (λ i. f (a + i))
sum-append a zero f = rw (add-zero a) (omega arith)
sum-append a (suc b) f = rw (add-suc a b) (omega (arith, sum-append a b f))

-- a sum over the cells of a grid, row by row
pub sum_rows : (n m : ℕ) (f : ℕ → ℕ) → sum (n * m) f ≡ sum n (λ r. sum m λ c. f (r * m + c))
sum_rows zero m f = rw (zero-mul m)
sum_rows (suc n) m f = ap (λ t. sum t f) (suc-mul n m) ∙ sum-append (n * m) m f
    ∙ ap (λ t. t + sum m (λ c. f (n * m + c))) (sum_rows n m f)

-- row and column of the cell at r * m + c
pub cell_row : (m r c : ℕ) → c < m → (r * m + c) / m ≡ r
cell_row m r c l = mul-add-div_right (omega arith) r c ∙ rw (div-eq_of_lt l) (add-zero r)

pub cell-column : (m r c : ℕ) → c < m → (r * m + c) % m ≡ c
cell-column m r c l = mul-add-mod_self_right r m c ∙ mod-eq_of_lt l

-- a sum one of whose terms is another
pub sum-put : (n r : ℕ) {f g : ℕ → ℕ} → r < n → ((j : ℕ) → j ≢ r → g j ≡ f j) → sum n g + f r ≡ sum n f + g r
sum-put zero r l h = absurd (omega arith)
sum-put (suc n) r {f} {g} l h = elim (ℕ_discrete r n) [
  | yes e ↦ omega (arith, sum-eq n {f = g} {g = f} (λ i m. h i (omega arith)), ap f e, ap g e)
  | no e ↦ omega (arith, sum-put n r {f = f} {g = g} (omega arith) h, h n (omega arith))
]

-- the pigeonhole: a sum below n * k has a term below k
pub sum-some : (n k : ℕ) (f : ℕ → ℕ) → sum n f < n * k → (i : ℕ) × (i < n) × (f i < k)
sum-some zero k f h = absurd (omega arith)
sum-some (suc n) k f h = elim (dec_lt (f n) k) [
  | yes l ↦ (n, omega arith, l)
  | no l ↦ let r = sum-some n k f (omega arith) in (r.0, omega arith, r.2)
]

-- a bounded search for a value
pub find : (n : ℕ) (f : ℕ → ℕ) (x : ℕ) → ((k : ℕ) × (k < n) × (f k ≡ x)) ⊎ ((i : ℕ) → i < n → f i ≢ x)
find zero f x = inr λ i l. absurd (omega arith)
find (suc n) f x = elim (ℕ_discrete (f n) x) [
  | yes e ↦ inl (n, omega arith, e)
  | no e ↦ elim (find n f x) [
    | inl r ↦ inl (r.0, omega arith, r.2)
    | inr r ↦ inr λ i l. elim (ℕ_discrete i n) [ yes p ↦ rw p e | no p ↦ r i (omega arith) ]
  ]
]
