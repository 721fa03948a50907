-- The loop over an array.
--
--   upto_start     before the first element nothing is asked
--   upto_step      element i is set, and T holds up to i + 1
--   upto_put       an element is set anew, anywhere
--   upto_less      what holds up to i holds up to less
--   passed_step    element i is changed where it stands
--   passed_over    element i is as it should be already
--   passed_rest    those that stay zeros are as they should be too
--
-- What this file is for: one law a step for every loop over one array; the facts T and U are the loop's own. Assumes nothing.
use mathlib.Core.Logic.{◌≢◌}
use mathlib.Core.Path.{◌≡◌, ◌∙◌}
use mathlib.Core.List.{List}
use Prim.Native.Nat.{ℕ, ◌+◌, ◌≤◌, ◌<◌}
use native.Mathlib.Omega.{arith}
use native.Mathlib.Decide.{ℕ_discrete, dec_lt}
use lib.ListN.{length, get_or, set, length-set}
use lib.Seq.{get_or-set_same, get_or-set_other}
use Rattle.field.specs.Loop.{Upto, Passed}

module _ {A : Type 0} {n : ℕ} {z : A} {T : ℕ → A → Type 0} where
  pub upto_start : {l : List A} → length l ≡ n → Upto n z T l 0
  upto_start e = record { size = e; done = λ j k. absurd (omega arith) }

  pub upto_step : {l : List A} {i : ℕ} (v : A) → i < n → T i v → Upto n z T l i → Upto n z T (set l i v) (i + 1)
  upto_step {l} {i} v b t p = record {
    size = length-set l i v ∙ p.size;
    done = λ j k. elim (ℕ_discrete j i) [
      | yes e ↦ let h : i < length l = omega (arith, p.size) in rw (e, get_or-set_same l i v z h) t
      | no e ↦ rw (get_or-set_other l i j v z e) (p.done j (omega arith))
    ];
  }

  pub upto_put : {l : List A} {i m : ℕ} (v : A) → i < n → T i v → Upto n z T l m → Upto n z T (set l i v) m
  upto_put {l} {i} v b t p = record {
    size = length-set l i v ∙ p.size;
    done = λ j k. elim (ℕ_discrete j i) [
      | yes e ↦ let h : i < length l = omega (arith, p.size) in rw (e, get_or-set_same l i v z h) t
      | no e ↦ rw (get_or-set_other l i j v z e) (p.done j k)
    ];
  }

  pub upto_less : {l : List A} {i m : ℕ} → m ≤ i → Upto n z T l i → Upto n z T l m
  upto_less h p = record { size = p.size; done = λ j k. p.done j (omega arith) }

module _ {A : Type 0} {n : ℕ} {z : A} {U T : ℕ → A → Type 0} where
  pub passed_step : {l : List A} {i : ℕ} (v : A) → i < 16 → T i v → Passed n z U T l i → Passed n z U T (set l i v) (i + 1)
  passed_step {l} {i} v b t p = record {
    size = length-set l i v ∙ p.size;
    done = λ j k. elim (ℕ_discrete j i) [
      | yes e ↦ let h : i < length l = omega (arith, p.size) in rw (e, get_or-set_same l i v z h) t
      | no e ↦ rw (get_or-set_other l i j v z e) (p.done j (omega arith))
    ];
    todo = λ j k m. let e : j ≢ i = omega arith in rw (get_or-set_other l i j v z e) (p.todo j (omega arith) m);
  }

  -- an element that is as it should be
  pub passed_over : {l : List A} {i : ℕ} → T i (get_or l i z) → Passed n z U T l i → Passed n z U T l (i + 1)
  passed_over {i} t p = record {
    size = p.size;
    done = λ j k. elim (ℕ_discrete j i) [ yes e ↦ rw e t | no e ↦ p.done j (omega arith) ];
    todo = λ j k m. p.todo j (omega arith) m;
  }

-- an array of zeros, of which the first are set; a row of zeros is the zero of an array of rows
module _ {A : Type 0} {z zero : A} {T : ℕ → A → Type 0} where
  pub passed_rest : {l : List A} {i : ℕ} → Passed 16 z (λ j v. v ≡ zero) T l i → ((j : ℕ) → i ≤ j → T j zero) → Upto 16 z T l 16
  passed_rest {i} p h = record {
    size = p.size;
    done = λ j l. elim (dec_lt j i) [ yes k ↦ p.done j k | no k ↦ let m : i ≤ j = omega arith in rw (p.todo j m l) (h j m) ];
  }
