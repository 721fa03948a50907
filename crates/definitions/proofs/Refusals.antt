-- The laws of refusals in order.
--
--   Numbered rows                 no row has the number 0
--   first-append, first_both      rows after rows: the number, and that both are passed
--   first-refuses, first_passes   the number of the first rows, where they refuse; of the others, where they do not
--   test_at, number_at rows i      the test and the number of row i
--   first-clear                   where the number is 0 every test is false
--   Stops rows i, first-at        the tests before row i are false and its own is true; then its number is the first
--   ◌&◌                           pairs to the right, as `Stops` has them
--   first-none, first-applies     0 where no row applies, else the number of one that does
--   ordered order k rows, first_earliest
--                                 where the numbers stand in an order, from the k-th on, it is the earliest
--   absent k rows, first_absent   a number that no row has is not the first
--   otherwise                     what a refused call does: `accepted`, where the number is not 0
--   equal, unequal                a code's test of two numbers
--   answered                      a test that a function has answered
--   holds                         a test that is not false is true
--   not-true, turned_true         a test turned round
--
-- What this file is for: a call tests row by row and stops at the first that refuses: its number is the definition's, and of
-- those that apply the first in the table's order. Assumes nothing.
use mathlib.Core.Path.{◌≡◌, refl, sym, ap, ◌∙◌}
use mathlib.Core.Logic.{◌≢◌, inl, inr}
use mathlib.Core.Bool.{Bool, true, false, not, ◌&&◌, false≢true}
use mathlib.Core.List.{List, [], ◌∷◌, ◌++◌}
use Prim.Native.Nat.{ℕ, zero, suc, ◌≤◌, ◌<◌}
use native.Mathlib.Omega.{arith}
use native.Mathlib.Nat.{le_of_eq}
use lib.Dec.{eqb, ltb, leb}
use lib.ListN.{length}
use borrow.Author.Tests.{eq-eqb, ne_eqb, leb-true, ltb-true}
use Rattle.bounded.proofs.Parts.{both}
use Rattle.definitions.specs.Refusals.{Refusal, ◌when◌, first, rank, Applies, Earliest, accepted}

-- no row has the number 0
abbrev pub Numbered : List Refusal → Type 0
Numbered [] = Unit
Numbered ((zero when b) ∷ rows) = ⊥
Numbered ((suc k when b) ∷ rows) = Numbered rows

pub first-append : (a b : List Refusal) → Numbered a → first (a ++ b) ≡ accepted (first a) (first b) (first a)
unfolding first
first-append [] b h = refl
first-append ((zero when t) ∷ a) b h = absurd h
first-append ((suc k when true) ∷ a) b h = refl
first-append ((suc k when false) ∷ a) b h = first-append a b h

-- rows before refuse, or they pass and rows after decide
pub first-refuses : (a b : List Refusal) → Numbered a → (k : ℕ) → k ≡ first a → (k ≡ 0 → ⊥) → k ≡ first (a ++ b)
first-refuses a b h zero e n = absurd (n refl)
first-refuses a b h (suc k) e n = sym (first-append a b h ∙ rw (← e))

pub first_passes : (a b : List Refusal) → Numbered a → first a ≡ 0 → first b ≡ first (a ++ b)
first_passes a b h e = sym (first-append a b h ∙ rw e)

pub first_both : (a b : List Refusal) → Numbered a → first (a ++ b) ≡ 0 → (first a ≡ 0) × (first b ≡ 0)
first_both a b h e = go (first a) refl (sym (first-append a b h) ∙ e)
  where
    go : (k : ℕ) → first a ≡ k → accepted (first a) (first b) (first a) ≡ 0 → (first a ≡ 0) × (first b ≡ 0)
    go zero f g = (f, rw f at g)
    go (suc k) f g = absurd (omega (arith, rw f at g))

-- where the number is 0, no row's test holds
abbrev pub test_at : List Refusal → ℕ → Bool
test_at [] i = false
test_at ((k when b) ∷ rows) zero = b
test_at ((k when b) ∷ rows) (suc i) = test_at rows i

pub first-clear : (rows : List Refusal) → Numbered rows → first rows ≡ 0 → (i : ℕ) → test_at rows i ≡ false
unfolding first
first-clear [] h e i = refl
first-clear ((zero when b) ∷ rows) h e i = absurd h
first-clear ((suc k when true) ∷ rows) h e i = absurd (omega arith)
first-clear ((suc k when false) ∷ rows) h e zero = refl
first-clear ((suc k when false) ∷ rows) h e (suc i) = first-clear rows h e i

-- the number of row i; the first test to hold is that of row i, and beyond the rows none holds
abbrev pub number_at : List Refusal → ℕ → ℕ
number_at [] i = 0
number_at ((k when b) ∷ rows) zero = k
number_at ((k when b) ∷ rows) (suc i) = number_at rows i

abbrev pub Stops : List Refusal → ℕ → Type 0
Stops [] i = Unit
Stops ((k when b) ∷ rows) zero = b ≡ true
Stops ((k when b) ∷ rows) (suc i) = (b ≡ false) × Stops rows i

-- pairs to the right, as `Stops` has them
infixr 2 ◌&◌
abbrev pub ◌&◌ : {A B : Type 0} → A → B → A × B
a & b = (a, b)

pub first-at : (rows : List Refusal) (i : ℕ) → Stops rows i → number_at rows i ≡ first rows
unfolding first
first-at [] i h = refl
first-at ((k when b) ∷ rows) zero h = rw h
first-at ((k when b) ∷ rows) (suc i) h = rw h.0 (first-at rows i h.1)

-- the first row to apply, whatever the order of the numbers: 0 where none applies, else the number of one that does
pub first-none : (rows : List Refusal) → Numbered rows → first rows ≡ 0 → (j : ℕ) → ¬ (Applies rows j)
unfolding first
first-none [] h e j a = elim a [ ]
first-none ((zero when b) ∷ rows) h e j a = h
first-none ((suc k when true) ∷ rows) h e j a = omega arith
first-none ((suc k when false) ∷ rows) h e j (inl a) = false≢true a.1
first-none ((suc k when false) ∷ rows) h e j (inr a) = first-none rows h e j a

pub first-applies : (rows : List Refusal) → first rows ≢ 0 → Applies rows (first rows)
unfolding first
first-applies [] n = n refl
first-applies ((k when true) ∷ rows) n = inl (refl, refl)
first-applies ((k when false) ∷ rows) n = inr (first-applies rows n)

module _ (order : List ℕ) where
  -- the numbers of the rows stand in the order, from its m-th on: none is before the one ahead of it
  abbrev pub ordered : ℕ → List Refusal → Bool
  ordered m [] = true
  ordered m ((k when b) ∷ rows) = leb m (rank order k) && (ltb (rank order k) (length order) && ordered (rank order k) rows)

  in_order : (m k : ℕ) (b : Bool) (rows : List Refusal) → ordered m ((k when b) ∷ rows) ≡ true →
      (m ≤ rank order k) × (rank order k < length order) × (ordered (rank order k) rows ≡ true)
  in_order m k b rows r =
      let h = both (leb m (rank order k)) _ r in
      let i = both (ltb (rank order k) (length order)) (ordered (rank order k) rows) h.1 in
      (leb-true m (rank order k) h.0, ltb-true (rank order k) (length order) i.0, i.1)

  ordered_after : (m : ℕ) (rows : List Refusal) → ordered m rows ≡ true → (j : ℕ) → Applies rows j → m ≤ rank order j
  ordered_after m [] r j a = elim a [ ]
  ordered_after m ((k when b) ∷ rows) r j (inl a) = omega (arith, (in_order m k b rows r).0, ap (rank order) a.0)
  ordered_after m ((k when b) ∷ rows) r j (inr a) =
      let h = in_order m k b rows r in omega (arith, h.0, ordered_after (rank order k) rows h.2 j a)

  first-before : (m : ℕ) (rows : List Refusal) → ordered m rows ≡ true → (j : ℕ) → Applies rows j →
      rank order (first rows) ≤ rank order j
  unfolding first
  first-before m [] r j a = elim a [ ]
  first-before m ((k when true) ∷ rows) r j (inl a) = le_of_eq (ap (rank order) a.0)
  first-before m ((k when true) ∷ rows) r j (inr a) = ordered_after (rank order k) rows (in_order m k true rows r).2 j a
  first-before m ((k when false) ∷ rows) r j (inl a) = absurd (false≢true a.1)
  first-before m ((k when false) ∷ rows) r j (inr a) = first-before (rank order k) rows (in_order m k false rows r).2 j a

  first-listed : (m : ℕ) (rows : List Refusal) → ordered m rows ≡ true → first rows ≢ 0 → rank order (first rows) < length order
  unfolding first
  first-listed m [] r n = absurd (n refl)
  first-listed m ((k when true) ∷ rows) r n = (in_order m k true rows r).1
  first-listed m ((k when false) ∷ rows) r n = first-listed (rank order k) rows (in_order m k false rows r).2 n

  -- the first is the earliest
  pub first_earliest : (rows : List Refusal) → Numbered rows → ordered 0 rows ≡ true → Earliest order rows (first rows)
  first_earliest rows h r = record {
    none = first-none rows h;
    applies = first-applies rows;
    listed = first-listed 0 rows r;
    before = first-before 0 rows r;
  }

-- a number that no row has is not given
abbrev pub absent : ℕ → List Refusal → Bool
absent k [] = true
absent k ((j when b) ∷ rows) = not (eqb j k) && absent k rows

pub first_absent : (k : ℕ) (rows : List Refusal) → k ≢ 0 → absent k rows ≡ true → first rows ≢ k
unfolding first
first_absent k [] z h e = z (sym e)
first_absent k ((j when true) ∷ rows) z h e =
    false≢true (rw (eq-eqb j k e) at (both (not (eqb j k)) (absent k rows) h).0)
first_absent k ((j when false) ∷ rows) z h e = first_absent k rows z (both (not (eqb j k)) (absent k rows) h).1 e

-- the choice of a refused call
pub otherwise : {A : Type 0} (k : ℕ) (a b : A) → k ≢ 0 → accepted k a b ≡ b
otherwise zero a b h = absurd (h refl)
otherwise (suc k) a b h = refl

-- a code's tests as the definitions' tests; `search tests` finds them in what is known at a return
pub equal : (a b : ℕ) → a ≡ b → not (eqb a b) ≡ false
equal a b e = rw (eq-eqb a b e)

pub unequal : (a b : ℕ) → (a ≡ b → ⊥) → not (eqb a b) ≡ true
unequal a b e = rw (ne_eqb a b e)

pub answered : {r b t : Bool} → r ≡ b → r ≡ t → b ≡ t
answered e h = sym e ∙ h

-- a test that is not false is true
pub holds : (b : Bool) → (b ≡ false → ⊥) → b ≡ true
holds true h = refl
holds false h = absurd (h refl)

pub not-true : {b : Bool} → b ≡ true → not b ≡ false
not-true e = rw e

pub turned_true : {b : Bool} → b ≡ false → not b ≡ true
turned_true e = rw e
