-- The laws of masking.
--
--   back W                    the other way
--   shift-below, shift_back   a shifted residue is a residue; shifted back it is as it was
--   was_read                  a symbol of the plan that is not that of an unread cell is a residue
--   cell-read                 and a residue is no unread cell: it is shifted
--   cell-fits, cell_back      so a masked symbol is one of the plan, and masked back it is as it was, read or not
--   mask-keeps, mask_fills    a refused call leaves the symbols, an accepted one masks them
--   masked-at                 what masking leaves in a cell
--   masked-fits, masked_back  masked symbols can be masked again; masked back they are as they were
--   mask_undone               each way undoes the other, whatever the bytes are
--
-- What this file is for: masking and unmasking are one call with two ways, each of which undoes the other. Assumes nothing.
use mathlib.Core.Path.{◌≡◌, refl, sym, ap, ◌∙◌}
use mathlib.Core.Logic.{◌⊎◌, inl, inr}
use mathlib.Core.List.{List}
use Prim.Native.Nat.{ℕ, ◌+◌, ◌-◌, ◌≤◌, ◌<◌}
use native.Mathlib.Omega.{arith}
use native.Mathlib.Decide.{ℕ_discrete}
use native.Mathlib.Nat.{mod-lt, mod-eq_of_lt}
use borrow.Author.Tests.{ne_eqb}
use Rattle.bounded.specs.Bounded.{at}
use Rattle.bounded.proofs.Tab.{length-tab, tab-at, tab-is}
use Rattle.field.proofs.Congruence.{same, ◌⨾◌, ~add, less, mod_cong, cong_mod}
use Rattle.definitions.specs.Refusals.{accepted}
use Rattle.definitions.specs.Plan.{modulus}
use Rattle.definitions.specs.Code.{Code, cells, value}
use Rattle.definitions.specs.Cost.{unread}
use Rattle.definitions.specs.Accepted.{Masking}
use Rattle.definitions.specs.Masking.{Way, on, off, shift, mask_cell, masked, mask_number, mask_buffer}
use Rattle.definitions.specs.Masks.{Undone}
use Rattle.definitions.proofs.Refusals.{otherwise}
use Rattle.definitions.proofs.Counts.{value-below}
use Rattle.definitions.proofs.Accepted.{accepted_masking, masking_accepted}

abbrev pub back : Way → Way
back on = off
back off = on

pub was_read : {p s : ℕ} → (s < p) ⊎ (s ≡ unread) → (s ≡ unread → ⊥) → s < p
was_read (inl l) n = l
was_read (inr e) n = absurd (n e)

module _ {p : ℕ} (pos : 0 < p) where
  pub shift-below : (W : Way) (a b : ℕ) → shift W p a b < p
  shift-below on a b = mod-lt (a + b) pos
  shift-below off a b = mod-lt (a + (p - b)) pos

  pub shift_back : (W : Way) (a b : ℕ) → a < p → b ≤ p → shift (back W) p (shift W p a b) b ≡ a
  shift_back on a b h l =
      cong_mod pos (~add (mod_cong pos (a + b)) (same {a = p - b} refl) ⨾ less 1 (omega arith)) ∙ mod-eq_of_lt h
  shift_back off a b h l =
      cong_mod pos (~add (mod_cong pos (a + (p - b))) (same {a = b} refl) ⨾ less 1 (omega arith)) ∙ mod-eq_of_lt h

  module _ (small : p ≤ 251) where
    pub cell-read : (W : Way) (a b : ℕ) → a < p → mask_cell W p a b ≡ shift W p a b
    cell-read W a b l = rw (ne_eqb a unread (λ e. omega arith))

    cell-fits : (W : Way) (s v : ℕ) → (s < p) ⊎ (s ≡ unread) → (mask_cell W p s v < p) ⊎ (mask_cell W p s v ≡ unread)
    cell-fits W s v (inl l) = inl (rw (cell-read W s v l) (shift-below W s v))
    cell-fits W s v (inr e) = inr (rw e)

    cell_back : (W : Way) (s v : ℕ) → (s < p) ⊎ (s ≡ unread) → v ≤ p → mask_cell (back W) p (mask_cell W p s v) v ≡ s
    cell_back W s v (inl l) h =
        rw (cell-read W s v l) (cell-read (back W) (shift W p s v) v (shift-below W s v) ∙ shift_back W s v l h)
    cell_back W s v (inr e) h = rw e

module _ (C : Code) (P F s : List ℕ) where
  module _ (W : Way) {k : ℕ} (e : k ≡ mask_number C P F s) where
    pub mask-keeps : (k ≡ 0 → ⊥) → s ≡ mask_buffer W C P F s
    unfolding mask_buffer
    mask-keeps h = sym (otherwise k (masked W C P F s) s h) ∙ ap (λ k. accepted k (masked W C P F s) s) e

    pub mask_fills : k ≡ 0 → masked W C P F s ≡ mask_buffer W C P F s
    unfolding mask_buffer
    mask_fills z = ap (λ k. accepted k (masked W C P F s) s) (sym z ∙ e)

module _ {C : Code} {P F s : List ℕ} (m : Masking C P F s) (W : Way) where
  abbrev p : ℕ
  p = modulus P

  some : 0 < p
  some = omega (arith, m.sound.prime.least)

  pub masked-at : (c : ℕ) → c < cells C P → at (masked W C P F s) c ≡ mask_cell W p (at s c) (value C P F c)
  unfolding masked
  masked-at c l = tab-at (cells C P) _ c l

  -- what is masked can be masked again, with the same record
  pub masked-fits : Masking C P F (masked W C P F s)
  unfolding masked
  masked-fits = record {
    sound = m.sound;
    given = m.given;
    whole = length-tab (cells C P) _;
    symbol = λ c l. rw (masked-at c l) (cell-fits some m.sound.small W (at s c) (value C P F c) (m.symbol c l));
  }

  pub masked_back : masked (back W) C P F (masked W C P F s) ≡ s
  unfolding masked
  masked_back = sym (tab-is (cells C P) _ s m.whole λ c l.
      let v = value-below m.sound C F c in
      rw (masked-at c l) (sym (cell_back some m.sound.small W (at s c) (value C P F c) (m.symbol c l) (omega (arith, v)))))

module _ (C : Code) (P F s : List ℕ) where
  -- what is left has the number that was given
  number : (W : Way) → mask_number C P F (mask_buffer W C P F s) ≡ mask_number C P F s
  number W = elim (ℕ_discrete (mask_number C P F s) 0) [
    | yes e ↦
        rw (← mask_fills C P F s W refl e, e) (masking_accepted C P F _ (masked-fits (accepted_masking C P F s e) W))
    | no n ↦ ap (mask_number C P F) (sym (mask-keeps C P F s W refl n))
  ]

  undone : (W : Way) → mask_buffer (back W) C P F (mask_buffer W C P F s) ≡ s
  undone W = elim (ℕ_discrete (mask_number C P F s) 0) [
    | yes e ↦ sym (mask_fills C P F (mask_buffer W C P F s) (back W) refl (number W ∙ e))
        ∙ ap (masked (back W) C P F) (sym (mask_fills C P F s W refl e))
        ∙ masked_back (accepted_masking C P F s e) W
    | no n ↦ sym (mask-keeps C P F (mask_buffer W C P F s) (back W) refl (λ z. n (sym (number W) ∙ z)))
        ∙ sym (mask-keeps C P F s W refl n)
  ]

  pub mask_undone : Undone C P F s
  mask_undone = record { masked = undone on; unmasked = undone off; number = number }
