-- Bytes put into lent memory.
--
--   put_back                         what a callee left in the part that it was lent is put there
--   length-put                       the memory stays as long
--   at_before, at-within, at_behind  its bytes before what was put there, those that were put, and those behind
--   put_parts                        three parts one after another that are the whole memory
--
-- What this file is for: the memory after a call, byte by byte. Assumes nothing.
use mathlib.Core.Path.{◌≡◌, sym, ap, ◌∙◌}
use mathlib.Core.List.{List, ◌++◌, append-nil, append_assoc}
use Prim.Native.Nat.{ℕ, ◌+◌, ◌≤◌, ◌<◌}
use native.Mathlib.Omega.{arith}
use lib.ListN.{length, take, drop, length-append, length-drop, drop_of_length-le, get_or-append}
use lib.Seq.{take_at, drop_at, drop-drop, length-take-le, get_or-append-add, get_or-drop, get_or-take}
use borrow.Rule.Slice.PartMut.{put_mid}
use Rattle.bounded.specs.Bounded.{at}
use Rattle.lent.specs.Put.{put}

pub put_back : (S s : List ℕ) (a n : ℕ) → n ≡ length s → put_mid a n S s ≡ put S a s
put_back S s a n e = rw (e, drop-drop)

module _ (S s : List ℕ) (a : ℕ) where
  pub length-put : a + length s ≤ length S → length (put S a s) ≡ length S
  length-put h = length-append (take a S) (s ++ drop (a + length s) S) ∙ omega (
    arith,
    length-take-le a S (omega arith),
    length-append s (drop (a + length s) S),
    length-drop (a + length s) S,
  )

  pub at_before : (i : ℕ) → a ≤ length S → i < a → at (put S a s) i ≡ at S i
  at_before i h l = get_or-append (take a S) _ 0 i (omega (arith, length-take-le a S h)) ∙ get_or-take a S i 0 l

  after_front : (j : ℕ) → a ≤ length S → at (put S a s) (a + j) ≡ at (s ++ drop (a + length s) S) j
  after_front j h = go (take a S) (length-take-le a S h)
    where
      go : (p : List ℕ) → length p ≡ a → at (p ++ (s ++ drop (a + length s) S)) (a + j) ≡ at (s ++ drop (a + length s) S) j
      go p e = ap (λ n. at (p ++ (s ++ drop (a + length s) S)) (n + j)) (sym e)
          ∙ get_or-append-add p (s ++ drop (a + length s) S) j 0

  pub at-within : (j : ℕ) → a ≤ length S → j < length s → at (put S a s) (a + j) ≡ at s j
  at-within j h l = after_front j h ∙ get_or-append s _ 0 j l

  pub at_behind : (j : ℕ) → a ≤ length S → at (put S a s) (a + (length s + j)) ≡ at S (a + length s + j)
  at_behind j h =
      after_front (length s + j) h ∙ get_or-append-add s (drop (a + length s) S) j 0 ∙ get_or-drop (a + length s) S j 0

-- a part put behind what the memory begins with
put_next : (p q s : List ℕ) (a : ℕ) → length p ≡ a → put (p ++ q) a s ≡ p ++ (s ++ drop (length s) q)
put_next p q s a e = rw (take_at p q a e, ← drop-drop (length s) a (p ++ q), drop_at p q a e)

pub put_parts : (S p z u : List ℕ) (a b : ℕ) → length p ≡ a → a + length z ≡ b → b + length u ≡ length S →
    put (put (put S 0 p) a z) b u ≡ p ++ (z ++ u)
put_parts S p z u a b e f h =
    ap (λ l. put l b u) (put_next p rest z a e ∙ sym (append_assoc p z (drop (length z) rest)))
    ∙ put_next (p ++ z) (drop (length z) rest) u b (length-append p z ∙ omega arith)
    ∙ append_assoc p z (u ++ drop (length u) (drop (length z) rest))
    ∙ ap (λ l. p ++ (z ++ l)) (ap (λ l. u ++ l) (drop_of_length-le (drop (length z) rest) none) ∙ append-nil u)
  where
    rest : List ℕ
    rest = drop (0 + length p) S

    none : length (drop (length z) rest) ≤ length u
    none = simp length-drop (omega arith)
