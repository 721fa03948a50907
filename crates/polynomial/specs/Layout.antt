-- The layout of a record in m coordinates after the first: by total degree k, and within one degree by rising power j of the last
-- coordinate; what stands before that power is the group of degree k - j with one coordinate fewer. In X alone a group is one
-- coefficient.
--
--   count m k         how many coefficients the group of total degree k has
--   skip m k j        how many stand before those of the last coordinate's power j in the group of degree k with one
--                     coordinate more
--   start m k         where the group of degree k begins; so a record of degree d has start m (d + 1) places
--   group m k f z     the value of one group at the point z: f i is its i-th coefficient, z i is coordinate i. 0^0 is 1
--   value m p d F z   the value of the record F at the point z, modulo p; d bounds the total degree
--
-- What this file is for: records in X, and in X and Y, are the layouts m = 0 and m = 1 of one definition.
use Rattle.std.specs.Prelude.{List, ℕ, zero, suc, ◌+◌, ◌*◌, ◌-◌, ◌%◌, ◌^◌}
use Rattle.bounded.specs.Bounded.{at, sum}

abbrev pub count : (m k : ℕ) → ℕ
count zero k = 1
count (suc m) k = sum (suc k) λ j. count m (k - j)

abbrev pub skip : (m k j : ℕ) → ℕ
skip m k j = sum j λ i. count m (k - i)

abbrev pub start : (m k : ℕ) → ℕ
start m k = sum k (count m)

abbrev pub group : (m k : ℕ) (f z : ℕ → ℕ) → ℕ
group zero k f z = f 0 * z 0 ^ k
group (suc m) k f z = sum (suc k) λ j. group m (k - j) (λ i. f (skip m k j + i)) z * z (suc m) ^ j

unfoldable pub value : (m p d : ℕ) (F : List ℕ) (z : ℕ → ℕ) → ℕ
value m p d F z = sum (d + 1) (λ k. group m k (λ i. at F (start m k + i)) z) % p
