-- What `trayread` takes of an input, what it prints of one that it refuses, and the room in which it reads.
--
--   photo_parts                what stands after the first a bytes is taken for symbols and doubts
--   tray_parts                 a plan, the symbols of its mark, and what follows are taken for plan, symbols and doubts
--   buffer-zeros               as many of some zeros as the record has coefficients are its buffer
--   short-plan, whole-plan     an input of fewer than 40 bytes has a short plan, and a sound plan is whole
--   plan-text                  the plan's own number, whatever follows
--   count-text                 6 where another count of bytes follows a sound plan
--   tray_refused               both, and 1 for a short input
--   room-text                  one byte more than the longest input decides, for any input, what is printed
--
-- What this file is for: the program reads into a fixed room, and says of any input what the definition says. Assumes nothing.
use mathlib.Core.Path.{◌≡◌, refl, sym, ap, ◌∙◌}
use mathlib.Core.List.{List, ◌∷◌, ◌++◌}
use Prim.Native.Nat.{ℕ, zero, suc, ◌+◌, ◌*◌, ◌≤◌, ◌<◌}
use native.Mathlib.Omega.{arith}
use lib.ListN.{length, take, drop, replicate, length-take, length-drop}
use lib.Seq.{take_at, drop_at, drop-drop}
use Rattle.definitions.specs.Plan.{plan_bytes, check_number}
use Rattle.definitions.specs.Code.{oblong, size, cells}
use Rattle.definitions.specs.Calls.{read_number, read_reading}
use Rattle.definitions.specs.Tray.{plan_of, symbols_of, doubts_of, buffer_of, tray_reading, longest}
use Rattle.definitions.specs.Room.{HoldsFirst}
use Rattle.definitions.specs.Printed.{refused_line, answer_text, tray_text}
use Rattle.definitions.specs.Demands.{LengthsFit, TrayParts, TrayRefused}
use Rattle.definitions.proofs.Room.{plan_decides}
use Rattle.definitions.proofs.Sound.{sound, checked_exactly, cells-most}
use Rattle.definitions.proofs.Accepted.{plan-first, taken-exactly}

pub photo_parts : (a : ℕ) (input s u : List ℕ) → drop a input ≡ s ++ u → length s ≡ cells oblong (plan_of input) →
    (symbols_of a input ≡ s) × (doubts_of a input ≡ u)
photo_parts a input s u e h = (rw e (take_at s u _ h), rw (← drop-drop, e) (drop_at s u _ h))

pub tray_parts : (P s u : List ℕ) → length P ≡ plan_bytes → length s ≡ cells oblong P → TrayParts P s u
tray_parts P s u e h =
    let plan : plan_of (P ++ (s ++ u)) ≡ P = take_at P (s ++ u) plan_bytes e in
    let photo = photo_parts plan_bytes (P ++ (s ++ u)) s u (drop_at P (s ++ u) plan_bytes e) (rw plan h) in
    record { plan = plan; symbols = photo.0; doubts = photo.1 }

zeros : (n m : ℕ) → n ≤ m → take {A = ℕ} n (replicate m 0) ≡ replicate n 0
zeros zero m l = refl
zeros (suc n) zero l = absurd (omega arith)
zeros (suc n) (suc m) l = ap (λ s. 0 ∷ s) (zeros n m (omega arith))

module _ (input : List ℕ) where
  pub buffer-zeros : (n m : ℕ) → n ≡ size oblong (plan_of input) → size oblong (plan_of input) ≤ m →
      take {A = ℕ} n (replicate m 0) ≡ buffer_of input
  buffer-zeros n m e l = rw e (zeros (size oblong (plan_of input)) m l)

  pub short-plan : length input < plan_bytes → 1 ≡ check_number (plan_of input)
  short-plan l = sym ((checked_exactly (plan_of input)).one (λ w. omega (arith, simp length-take at w.0)))

  pub whole-plan : check_number (plan_of input) ≡ 0 → plan_bytes ≤ length input
  whole-plan e = omega (arith, simp length-take at (sound (plan_of input) e).whole)

  number-text : (k : ℕ) →
      k ≡ read_number oblong (plan_of input) (symbols_of plan_bytes input) (doubts_of plan_bytes input) (buffer_of input) →
      (k ≡ 0 → ⊥) → refused_line k ≡ tray_text input
  unfolding tray_text answer_text tray_reading read_reading
  number-text zero e h = absurd (h refl)
  number-text (suc k) e h = rw (← e)

  -- the plan's own number, whatever follows
  pub plan-text : (k : ℕ) → k ≡ check_number (plan_of input) → (k ≡ 0 → ⊥) → refused_line k ≡ tray_text input
  plan-text k e h = number-text k (e ∙ sym ((plan-first (plan_of input)).read oblong _ _ _ (λ z. h (e ∙ z)))) h

  module _ (e : check_number (plan_of input) ≡ 0) where
    -- another count of bytes after a sound plan: the symbols are short, or the doubts have another length
    pub count-text : (length input ≡ plan_bytes + 2 * cells oblong (plan_of input) → ⊥) → refused_line 6 ≡ tray_text input
    count-text h = number-text 6 (sym ((taken-exactly oblong _ e _ _ _).six wrong).1) (λ z. omega arith)
      where
        wrong : ¬ (LengthsFit oblong (plan_of input) (symbols_of plan_bytes input) (doubts_of plan_bytes input) (buffer_of input))
        wrong (a, (b, f)) = h (omega (arith, simp (length-take, length-drop) at a, simp length-drop at b, whole-plan e))

    excess_text : longest < length input → refused_line 6 ≡ tray_text input
    excess_text l = count-text λ h. omega (arith, cells-most oblong (sound (plan_of input) e))

  pub tray_refused : TrayRefused input
  tray_refused = record {
    short = λ l. sym (plan-text 1 (short-plan l) (λ z. omega arith));
    unsound = λ n. sym (plan-text _ refl n);
    count = λ e n. sym (count-text e n);
  }

-- so a room with one byte more than the longest input decides what is printed
pub room-text : (input room : List ℕ) (came : ℕ) → longest < length room → HoldsFirst input room came →
    tray_text (take came room) ≡ tray_text input
room-text = plan_decides tray_text longest (omega arith) plan-text excess_text
