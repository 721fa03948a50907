-- Decimal digits as a reader expects them, and how long a printed line is at most.
--
--   decimal_digit, decimal-more     a number below 10 is its digit, any other the digits of a tenth of it and its last digit
--   decimal-length, signed-length   a number below 10^(k + 1) has at most k + 1 digits, and a sign
--   spaced-length                   n such numbers, each after a space
--   spaced-append, spaced-one       two lists of numbers one after the other; one number
--   number-length                   a number of 32 bits after a space
--   costs-length, record-length     the end of a line with a cost, and the line of a record
--   line-length                     a line of a word and a number
--
-- What this file is for: text is put digit by digit, into a buffer of a known size. Assumes nothing.
use mathlib.Core.Path.{◌≡◌, refl, sym}
use mathlib.Core.List.{List, [], ◌∷◌, ◌++◌, append_assoc, append-nil}
use Prim.Native.Nat.{ℕ, zero, suc, ◌+◌, ◌*◌, ◌/◌, ◌%◌, ◌^◌, ◌≤◌, ◌<◌}
use native.Mathlib.Omega.{arith}
use native.Mathlib.Decide.{dec_lt}
use native.Mathlib.Nat.{pow-succ'}
use lib.IntN.{ℤ, pos, negsuc, nat_abs}
use lib.ListN.{length, length-append}
use Rattle.bounded.specs.Bounded.{at}
use Rattle.definitions.specs.declared.Reading.{Reading}
use Rattle.definitions.specs.Printed.{digit, digits, decimal, signed, space, spaced, costs, record_line, number_line}

digits-zero : (k : ℕ) → digits k 0 ≡ []
digits-zero zero = refl
digits-zero (suc k) = refl

-- more room than there are digits changes nothing
digits_same : (j k n : ℕ) → n ≤ j → n ≤ k → digits j n ≡ digits k n
digits_same zero k zero g h = sym (digits-zero k)
digits_same (suc j) k zero g h = sym (digits-zero k)
digits_same zero k (suc m) g h = absurd (omega arith)
digits_same (suc j) zero (suc m) g h = absurd (omega arith)
digits_same (suc j) (suc k) (suc m) g h = rw (digits_same j k (suc m / 10) (omega arith) (omega arith))

digits_decimal : (k n : ℕ) → 0 < n → n ≤ k → digits k n ≡ decimal n
unfolding decimal
digits_decimal k zero l h = absurd (omega arith)
digits_decimal k (suc m) l h = digits_same k (suc m) (suc m) h (omega arith)

pub decimal_digit : (n : ℕ) → n < 10 → decimal n ≡ digit n ∷ []
unfolding decimal
decimal_digit zero h = refl
decimal_digit (suc m) h =
    let q : suc m / 10 ≡ 0 = omega arith in let r : suc m % 10 ≡ suc m = omega arith in rw (q, r, digits-zero m)

pub decimal-more : (n : ℕ) → 10 ≤ n → decimal n ≡ decimal (n / 10) ++ (digit (n % 10) ∷ [])
unfolding decimal
decimal-more zero h = absurd (omega arith)
decimal-more (suc m) h = rw (digits_decimal m (suc m / 10) (omega arith) (omega arith))

pub decimal-length : (k n : ℕ) → n < 10 ^ suc k → length (decimal n) ≤ suc k
decimal-length zero n h = rw (decimal_digit n h) (omega arith)
decimal-length (suc k) n h = go (dec_lt n 10) (decimal-length k (n / 10))
  where
    go : Dec (n < 10) → (n / 10 < 10 ^ suc k → length (decimal (n / 10)) ≤ suc k) → length (decimal n) ≤ suc (suc k)
    go (yes l) f = rw (decimal_digit n l) (omega arith)
    go (no l) f =
        let m : 10 ≤ n = omega arith in
        let b : n / 10 < 10 ^ suc k = omega (arith, pow-succ' 10 (suc k)) in
        rw (decimal-more n m, length-append) (omega (arith, f b))

pub signed-length : (k : ℕ) (z : ℤ) → nat_abs z < 10 ^ suc k → length (signed z) ≤ suc (suc k)
unfolding signed
signed-length k (pos n) h = omega (arith, decimal-length k n h)
signed-length k (negsuc n) h = omega (arith, decimal-length k (suc n) h)

-- numbers of at most k + 1 digits
pub spaced-length : (k : ℕ) (ns : List ℕ) → ((i : ℕ) → at ns i < 10 ^ suc k) → length (spaced ns) ≤ (k + 2) * length ns
unfolding spaced
spaced-length k [] h = omega arith
spaced-length k (n ∷ ns) h =
    rw (length-append (decimal n) (spaced ns)) (omega (arith, decimal-length k n (h 0), spaced-length k ns (λ i. h (suc i))))

pub spaced-append : (a b : List ℕ) → spaced (a ++ b) ≡ spaced a ++ spaced b
unfolding spaced
spaced-append [] b = refl
spaced-append (n ∷ a) b = rw (spaced-append a b, append_assoc (decimal n) (spaced a) (spaced b))

pub spaced-one : (n : ℕ) → spaced (n ∷ []) ≡ space ∷ decimal n
unfolding spaced
spaced-one n = rw append-nil

-- numbers of 32 bits, of which the margin has a sign; a line of bytes
pub number-length : (n : ℕ) → n < 2 ^ 32 → length (spaced (n ∷ [])) ≤ 11
number-length n h = rw (spaced-one n) (omega (arith, decimal-length 9 n (omega arith)))

pub costs-length : (r : Reading) → r.cost < 2 ^ 32 → nat_abs r.margin < 2 ^ 32 → length (costs r) ≤ 24
unfolding costs
costs-length r h m =
    simp length-append (omega (arith, number-length r.cost h, signed-length 9 r.margin (omega arith)))

pub record-length : (F : List ℕ) → ((i : ℕ) → at F i < 256) → length (record_line F) ≤ 7 + 4 * length F
unfolding record_line
record-length F h = simp length-append (omega (arith, spaced-length 2 F (λ i. omega (arith, h i))))

pub line-length : (w : List ℕ) (k : ℕ) → k < 2 ^ 32 → length (number_line w k) ≤ length w + 12
unfolding number_line
line-length w k h = simp length-append (omega (arith, number-length k h))
