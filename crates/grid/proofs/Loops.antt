-- The loop over elements in pairs with numbers, both changed where they stand.
--
--   both_step   the element and the number at i are set
--   both_pass   the number is set, the element stays as it is
--
-- What this file is for: the loop over the lines, of which some are read and some are known. Assumes nothing.
use mathlib.Core.Logic.{◌≢◌}
use mathlib.Core.Path.{◌∙◌}
use mathlib.Core.List.{List}
use Prim.Native.Nat.{ℕ, ◌+◌, ◌<◌}
use native.Mathlib.Omega.{arith}
use native.Mathlib.Decide.{ℕ_discrete}
use lib.ListN.{length, get_or, set, length-set}
use lib.Seq.{get_or-set_same, get_or-set_other}
use Rattle.grid.specs.Loops.{Both}

module _ {A : Type 0} {n : ℕ} {z : A} {U : ℕ → A → Type 0} {T : ℕ → A → ℕ → Type 0} where
  pub both_step : {l : List A} {k : List ℕ} {i : ℕ} (v : A) (w : ℕ) → i < 16 → T i v w → Both n z U T l k i →
      Both n z U T (set l i v) (set k i w) (i + 1)
  both_step {l} {k} {i} v w b t p = record {
    size = length-set l i v ∙ p.size;
    numbers = length-set k i w ∙ p.numbers;
    done = λ j m. elim (ℕ_discrete j i) [
      | yes e ↦ let h : i < length l = omega (arith, p.size) in let h' : i < length k = omega (arith, p.numbers) in
          rw (e, get_or-set_same l i v z h, get_or-set_same k i w 0 h') t
      | no e ↦ rw (get_or-set_other l i j v z e, get_or-set_other k i j w 0 e) (p.done j (omega arith))
    ];
    todo = λ j m o. let e : j ≢ i = omega arith in rw (get_or-set_other l i j v z e) (p.todo j (omega arith) o);
  }

  pub both_pass : {l : List A} {k : List ℕ} {i : ℕ} (w : ℕ) → i < 16 → T i (get_or l i z) w → Both n z U T l k i →
      Both n z U T l (set k i w) (i + 1)
  both_pass {l} {k} {i} w b t p = record {
    size = p.size;
    numbers = length-set k i w ∙ p.numbers;
    done = λ j m. elim (ℕ_discrete j i) [
      | yes e ↦ let h : i < length k = omega (arith, p.numbers) in rw (e, get_or-set_same k i w 0 h) t
      | no e ↦ rw (get_or-set_other k i j w 0 e) (p.done j (omega arith))
    ];
    todo = λ j m o. p.todo j (omega arith) o;
  }
