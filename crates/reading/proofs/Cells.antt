-- Grids of loaded cells, row by row.
--
--   cell_at_lem               a cell of the grid is a byte of the flat photograph
--   part_line, no_line        a row from its own part of the bytes; below the grid there is nothing
--   residues_part, no_residues   those of a row from its own part of the bytes; below the grid there are none
--   differing_more            a row more of the cells that differ
--   flag-differ               a cell's flag says whether its symbol is the value
--
-- What this file is for: loading a mark, and counting, from what the decoder left, the cells that differ. Assumes nothing.
use mathlib.Core.Path.{◌≡◌, refl, sym, ap, ◌∙◌}
use mathlib.Core.Logic.{◌⊎◌, inl, inr}
use mathlib.Core.Bool.{Bool, true, false, cond}
use mathlib.Core.List.{List}
use Prim.Native.Nat.{ℕ, ◌+◌, ◌*◌, ◌-◌, ◌≤◌, ◌<◌}
use native.Mathlib.Omega.{arith}
use native.Mathlib.Decide.{ℕ_discrete, dec_lt}
use native.Mathlib.Nat.{mul-le-mul_right}
use lib.Dec.{eqb}
use lib.ListN.{length, replicate, length-replicate, get_or-replicate}
use borrow.Author.Tests.{eqb-true, eqb-false, eq-eqb, ne_eqb, lt-ltb, le-ltb}
use Rattle.bounded.specs.Bounded.{at}
use Rattle.bounded.proofs.Sum.{sum-eq, sum_more}
use Rattle.bounded.proofs.Tab.{tab-eq, tab-is}
use Rattle.field.specs.Congruence.{Cong}
use Rattle.field.specs.Row.{row}
use Rattle.field.proofs.Congruence.{same, below_eq, cancel, ◌⨾◌}
use Rattle.field.proofs.Row.{row_at, beyond}
use Rattle.definitions.specs.Cost.{unread}
use Rattle.distance.specs.Cost.{hamming}
use Rattle.bounded.proofs.Part.{part_at, part_length}
use Rattle.grid.specs.Loops.{cell_at}
use Rattle.reading.specs.Loading.{residue, grid_cell, line}
use Rattle.reading.specs.Differing.{flag, differing_cells}

pub cell_at_lem : (n : ℕ) (s : List ℕ) (r c : ℕ) → c < n → grid_cell n s r c ≡ at s (r * n + c)
cell_at_lem n s r c l = rw (lt-ltb c n l)

-- row r of the grid s of n columns, from its own part of the bytes
pub part_line : (n r : ℕ) (s : List ℕ) {l : List ℕ} → l ≡ row (at (line n r s)) → r * n + n ≤ length s → l ≡ row (grid_cell n s r)
part_line n r s e h = e ∙ tab-eq 16 λ c _. elim (dec_lt c n) [
  | yes m ↦ part_at (r * n) n s c m ∙ sym (cell_at_lem n s r c m)
  | no m ↦ beyond (line n r s) c (omega (arith, part_length (r * n) n s h)) ∙ sym (rw (le-ltb c n (omega arith)))
]

-- below the grid there is nothing
pub no_line : (a n r : ℕ) (s : List ℕ) → a ≤ r → length s ≡ a * n → replicate 16 0 ≡ row (grid_cell n s r)
no_line a n r s h e = tab-is 16 (grid_cell n s r) (replicate 16 0) (length-replicate {A = ℕ} 16 0) λ c l.
    get_or-replicate {A = ℕ} 16 c 0 0 l ∙ sym (elim (dec_lt c n) [
      | yes m ↦ cell_at_lem n s r c m ∙ beyond s (r * n + c) (omega (arith, mul-le-mul_right n h))
      | no m ↦ rw (le-ltb c n (omega arith))
    ])

-- the number at a place of a row that is named
row_is : (f : ℕ → ℕ) {l : List ℕ} → l ≡ row f → (j : ℕ) → j < 16 → at l j ≡ f j
row_is f e j k = rw e (row_at f j k)

pub no_residues : (a n r : ℕ) (s : List ℕ) → a ≤ r → length s ≡ a * n → replicate 16 0 ≡ row (λ c. residue (grid_cell n s r c))
no_residues a n r s h e = tab-is 16 (λ c. residue (grid_cell n s r c)) (replicate 16 0) (length-replicate {A = ℕ} 16 0) λ c l.
    let zero = get_or-replicate {A = ℕ} 16 c 0 0 l in
    zero ∙ ap residue (sym zero ∙ row_is (grid_cell n s r) (no_line a n r s h e) c l)

-- the residues of row r, from its own part of the bytes
pub residues_part : (n r : ℕ) (s : List ℕ) {l : List ℕ} → l ≡ row (λ j. residue (at (line n r s) j)) → r * n + n ≤ length s →
    l ≡ row (λ c. residue (grid_cell n s r c))
residues_part n r s e h = e ∙ tab-eq 16 λ c m.
    ap residue (sym (row_at (at (line n r s)) c m) ∙ row_is (grid_cell n s r) (part_line n r s refl h) c m)

-- a row more of the cells that differ, from its own part of the bytes
pub differing_more : (n r : ℕ) (s : List ℕ) (left : List (List ℕ)) {k : ℕ} → r * n + n ≤ length s →
    k ≡ hamming (length (line n r s)) (λ c. flag (at (line n r s) c) (cell_at left r c)) (λ _. 0) →
    differing_cells (r + 1) n s left ≡ differing_cells r n s left + k
differing_more n r s left h e = sum_more r _ ∙ ap (λ k. differing_cells r n s left + k)
    (sum-eq n (λ c m.
    ap (λ v. cond (eqb (flag v (cell_at left r c)) 0) 0 1) (cell_at_lem n s r c m ∙ sym (part_at (r * n) n s c m)))
    ∙ sym (e ∙ ap (λ m. hamming m (λ c. flag (at (line n r s) c) (cell_at left r c)) (λ _. 0)) (part_length (r * n) n s h)))

-- a cell differs where its flag is set: its value v and what is left of it make its residue
pub flag-differ : {p s l v : ℕ} → p ≤ 251 → (s < p) ⊎ (s ≡ unread) → l < p → v < p → Cong (p - 1) (l + v) (residue s) →
    ◌≡◌ {A = ℕ} (cond (eqb (flag s l) 0) 0 1) (cond (eqb s v) 0 1)
flag-differ {p} {s} {l} {v} most known small value whole = go (eqb s unread) refl whole
  where
    unequal : s ≡ unread → s ≡ v → ⊥
    unequal h i = omega arith

    read : s < p → Cong (p - 1) (l + v) s → Dec (l ≡ 0) → ◌≡◌ {A = ℕ} (cond (eqb l 0) 0 1) (cond (eqb s v) 0 1)
    read b C (yes z) =
        let e : v ≡ s = below_eq {q = p - 1} (omega arith) (omega arith) (same (omega arith) ⨾ C) in
        rw (eq-eqb l 0 z, eq-eqb s v (sym e))
    read b C (no z) = rw (
      ne_eqb l 0 z,
      ne_eqb s v (λ i. z (below_eq {q = p - 1} (omega arith) (omega arith)
          (cancel {a = l} {b = 0} {e = v} {f = v} (same refl) (C ⨾ same (omega arith))))),
    )

    below : (s < p) ⊎ (s ≡ unread) → eqb s unread ≡ false → s < p
    below (inl h) e = h
    below (inr h) e = absurd (eqb-false s unread e h)

    go : (b : Bool) → eqb s unread ≡ b → Cong (p - 1) (l + v) (cond b 0 s) →
        ◌≡◌ {A = ℕ} (cond (eqb (cond b 1 l) 0) 0 1) (cond (eqb s v) 0 1)
    go true e C = rw (ne_eqb s v (unequal (eqb-true s unread e)))
    go false e C = read (below known e) C (ℕ_discrete l 0)
