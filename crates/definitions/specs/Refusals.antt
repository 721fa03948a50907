-- Refusals in order.
--
--   k when b               a row of the table "What is returned": the number k and the test when it applies
--   first rows             the number of the first row whose test holds, and 0 where none does
--   table                  the numbers in the table's order: 13 stands between 3 and 4, 17 and 18 between 6 and 7
--   rank order k           how many numbers stand before k in an order
--   Applies rows k         a row numbered k applies: its test holds
--   Earliest order rows k  of the numbers that apply, k is the first in the order, and 0 where none applies
--   accepted k a b         what a call with the number k does: a where k is 0, else b
--
-- What this file is for: every call's number is `first` of the rows that concern the call, in the table's order. "The lowest
-- number that applies" is the first in that order. A number whose condition has several tests may have a row for each.
use Rattle.std.specs.Prelude.{◌≡◌, ◌≢◌, ◌⊎◌, Bool, true, false, List, [], ◌∷◌, ℕ, zero, suc, ◌≤◌, ◌<◌, eqb, length}
use Rattle.bounded.specs.Bounded.{at, index}

infix 20 ◌when◌
pub data Refusal : Type 0 where
  ◌when◌ : ℕ → Bool → Refusal

unfoldable pub first : List Refusal → ℕ
first [] = 0
first ((k when true) ∷ rows) = k
first ((k when false) ∷ rows) = first rows

abbrev pub table : List ℕ
table = 1 ∷ 2 ∷ 3 ∷ 13 ∷ 4 ∷ 5 ∷ 6 ∷ 17 ∷ 18 ∷ 7 ∷ 8 ∷ 9 ∷ 10 ∷ 11 ∷ 12 ∷ 14 ∷ 15 ∷ 16 ∷ []

abbrev pub rank : (order : List ℕ) (k : ℕ) → ℕ
rank order k = index (length order) λ i. eqb (at order i) k

abbrev pub Applies : List Refusal → ℕ → Type 0
Applies [] k = ⊥
Applies ((j when b) ∷ rows) k = ((j ≡ k) × (b ≡ true)) ⊎ Applies rows k

pub record Earliest (order : List ℕ) (rows : List Refusal) (k : ℕ) : Type 0 where
  pub none : k ≡ 0 → (j : ℕ) → ¬ (Applies rows j)
  pub applies : k ≢ 0 → Applies rows k
  -- it stands in the order, and no other that applies stands before it
  pub listed : k ≢ 0 → rank order k < length order
  pub before : (j : ℕ) → Applies rows j → rank order k ≤ rank order j

abbrev pub accepted {ℓ} : {A : Type ℓ} → ℕ → A → A → A
accepted zero a b = a
accepted (suc k) a b = b
