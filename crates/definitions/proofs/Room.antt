-- Programs read into a room of a fixed size, and answer the whole input.
--
--   holds-whole, holds-first   every input has its rooms: one that it leaves space in, and one that it is too long for
--   room_decides               a room with one byte more than the longest input that is not refused decides every answer, if
--                              longer inputs that begin with the same n bytes are answered alike
--   plan_decides               so it does where an unsound plan gets its number, whatever follows, and a longer input else gets 6
--
-- What this file is for: what is printed is said of any input, and a smaller room would not do. Assumes nothing.
use mathlib.Core.Path.{◌≡◌, refl, sym, ap, ◌∙◌}
use mathlib.Core.List.{List, ◌++◌}
use Prim.Native.Nat.{ℕ, zero, suc, ◌≤◌, ◌<◌}
use native.Mathlib.Omega.{arith}
use native.Mathlib.Decide.{dec_le}
use lib.ListN.{length, take, length-append, length-take}
use lib.Seq.{take_all, take-append_seam, take-take}
use Rattle.definitions.specs.Plan.{plan_bytes, check_number}
use Rattle.definitions.specs.Room.{HoldsFirst}
use Rattle.definitions.specs.Tray.{plan_of}
use Rattle.definitions.specs.Printed.{refused_line}

pub holds-whole : (input space : List ℕ) → HoldsFirst input (input ++ space) (length input)
holds-whole input space = record {
  count = simp length-append (omega arith);
  bytes = take-append_seam input space ∙ sym (take_all (length input) input (omega arith));
}

pub holds-first : (room more : List ℕ) → HoldsFirst (room ++ more) room (length room)
holds-first room more = record {
  count = simp length-append (omega arith);
  bytes = take_all (length room) room (omega arith) ∙ sym (take-append_seam room more);
}

module _ (text : List ℕ → List ℕ) (n longest : ℕ) (h : n ≤ longest)
    (long : (a b : List ℕ) → take n a ≡ take n b → longest < length a → longest < length b → text a ≡ text b) where
  pub room_decides : (input room : List ℕ) (came : ℕ) → longest < length room → HoldsFirst input room came →
      text (take came room) ≡ text input
  room_decides input room came l held = rw held.bytes (go (dec_le (length input) came))
    where
      go : Dec (length input ≤ came) → text (take came input) ≡ text input
      go (yes m) = rw (take_all came input m)
      go (no m) =
          let c : longest < came = omega (arith, held.count) in
          long (take came input) input (take-take n came input (omega arith)) (simp length-take (omega arith)) (omega arith)

-- beyond the longest input only the plan counts
module _ (text : List ℕ → List ℕ) (longest : ℕ) (h : plan_bytes ≤ longest)
    (unsound : (input : List ℕ) (k : ℕ) → k ≡ check_number (plan_of input) → (k ≡ 0 → ⊥) → refused_line k ≡ text input)
    (excess : (input : List ℕ) → check_number (plan_of input) ≡ 0 → longest < length input → refused_line 6 ≡ text input) where
  long_text : (a b : List ℕ) → plan_of a ≡ plan_of b → longest < length a → longest < length b → text a ≡ text b
  long_text a b p l m = go (check_number (plan_of b)) refl
    where
      go : (k : ℕ) → check_number (plan_of b) ≡ k → text a ≡ text b
      go zero e = sym (excess a (ap check_number p ∙ e) l) ∙ excess b e m
      go (suc k) e =
          sym (unsound a (suc k) (sym (ap check_number p ∙ e)) (λ z. omega arith)) ∙ unsound b (suc k) (sym e) (λ z. omega arith)

  pub plan_decides : (input room : List ℕ) (came : ℕ) → longest < length room → HoldsFirst input room came →
      text (take came room) ≡ text input
  plan_decides = room_decides text plan_bytes longest h long_text
