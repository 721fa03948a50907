-- What `traywhy` takes of an input, what it prints of one that it refuses, and the room in which it reads.
--
--   why_parts      a plan, a record of its size, the symbols of its mark, and what follows are taken for what they are
--   plan_why       the plan's own number, whatever follows
--   count_why      6 where another count of bytes follows a sound plan
--   why_refused    both, and 1 for a short input
--   room_why       one byte more than the longest input decides, for any input, what is printed
--
-- What this file is for: the program reads into a fixed room, and says of any input what the definition says. Assumes nothing.
use mathlib.Core.Path.{◌≡◌, refl, sym, ◌∙◌}
use mathlib.Core.List.{List, ◌++◌}
use Prim.Native.Nat.{ℕ, ◌+◌, ◌*◌, ◌<◌}
use native.Mathlib.Omega.{arith}
use lib.ListN.{length, take, drop, length-take, length-drop}
use lib.Seq.{take_at, drop_at, drop-drop}
use Rattle.definitions.specs.Plan.{plan_bytes, degree, check_number}
use Rattle.definitions.specs.Code.{oblong, size, cells}
use Rattle.definitions.specs.Explaining.{explain_number}
use Rattle.definitions.specs.Room.{HoldsFirst}
use Rattle.definitions.specs.Tray.{plan_of, buffer_of}
use Rattle.definitions.specs.Why.{expected_of, shown_symbols, shown_doubts, why_reason, longest}
use Rattle.definitions.specs.Printed.{refused_line, why_text}
use Rattle.definitions.specs.Demands.{LengthsFit, places, WhyParts, WhyRefused}
use Rattle.definitions.proofs.Room.{plan_decides}
use Rattle.definitions.proofs.Plan.{mark_size_lem, plan-longest}
use Rattle.definitions.proofs.Sound.{sound, cells-most}
use Rattle.definitions.proofs.Accepted.{plan-first, explain-six}
use Rattle.definitions.proofs.Explaining.{explains_refused}
use Rattle.definitions.proofs.Tray.{photo_parts, short-plan, whole-plan}

pub why_parts : (P F s u : List ℕ) → length P ≡ plan_bytes → length F ≡ size oblong P → length s ≡ cells oblong P →
    WhyParts P F s u
why_parts P F s u e f h =
    let input = P ++ (F ++ (s ++ u)) in
    let plan : plan_of input ≡ P = take_at P (F ++ (s ++ u)) plan_bytes e in
    let rest : drop plan_bytes input ≡ F ++ (s ++ u) = drop_at P (F ++ (s ++ u)) plan_bytes e in
    let shown : drop (plan_bytes + size oblong (plan_of input)) input ≡ s ++ u =
    rw (plan, ← drop-drop, rest) (drop_at F (s ++ u) _ f) in
    let photo = photo_parts (plan_bytes + size oblong (plan_of input)) input s u shown (rw plan h) in
    record { plan = plan; expected = rw (plan, rest) (take_at F (s ++ u) _ f); symbols = photo.0; doubts = photo.1 }

module _ (input : List ℕ) where
  number_why : (k : ℕ) →
      k ≡ explain_number oblong (plan_of input) (shown_symbols input) (shown_doubts input) (expected_of input) (buffer_of input) →
      (k ≡ 0 → ⊥) → refused_line k ≡ why_text input
  unfolding why_text why_reason
  number_why k e h = rw (← (explains_refused oblong _ _ _ _ _ k e h).reason)

  -- the plan's own number, whatever follows
  pub plan_why : (k : ℕ) → k ≡ check_number (plan_of input) → (k ≡ 0 → ⊥) → refused_line k ≡ why_text input
  plan_why k e h = number_why k (e ∙ sym ((plan-first (plan_of input)).explain oblong _ _ _ _ (λ z. h (e ∙ z)))) h

  module _ (e : check_number (plan_of input) ≡ 0) where
    -- another count of bytes after a sound plan: the record or the symbols are short, or the doubts have another length
    pub count_why : (length input ≡ plan_bytes + size oblong (plan_of input) + 2 * cells oblong (plan_of input) → ⊥) →
        refused_line 6 ≡ why_text input
    count_why h = number_why 6 (sym (explain-six oblong _ _ _ _ _ e (λ f. wrong f.0))) (λ z. omega arith)
      where
        wrong : ¬ (LengthsFit oblong (plan_of input) (shown_symbols input) (shown_doubts input) (expected_of input))
        wrong (a, (b, f)) = h (omega (
          arith,
          simp (length-take, length-drop) at a,
          simp length-drop at b,
          simp (length-take, length-drop) at f,
          whole-plan input e,
        ))

    excess_why : longest < length input → refused_line 6 ≡ why_text input
    excess_why l =
        let S = sound (plan_of input) e in count_why λ h. omega (arith, cells-most oblong S, plan-longest S)

  pub why_refused : WhyRefused input
  why_refused = record {
    short = λ l. sym (plan_why 1 (short-plan input l) (λ z. omega arith));
    unsound = λ n. sym (plan_why _ refl n);
    count = λ e n.
        let k : size oblong (plan_of input) ≡ places (degree (plan_of input)) = mark_size_lem (plan_of input) ∙ omega arith in
        sym (count_why e (rw k n));
  }

-- so a room with one byte more than the longest input decides what is printed
pub room_why : (input room : List ℕ) (came : ℕ) → longest < length room → HoldsFirst input room came →
    why_text (take came room) ≡ why_text input
room_why = plan_decides why_text longest (omega arith) plan_why excess_why
