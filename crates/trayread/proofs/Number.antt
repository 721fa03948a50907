-- The text of an answer by the number of its reading.
--
--   refused-text   a refusal's line
--   read-text      the two lines of a reading
--
-- What this file is for: the program tests the number, the definition chooses by it. Assumes nothing.
use mathlib.Core.Path.{◌≡◌}
use mathlib.Core.List.{List, ◌++◌}
use Prim.Native.Nat.{ℕ}
use Rattle.definitions.specs.declared.Reading.{Reading}
use Rattle.definitions.specs.Printed.{read_line, record_line, refused_line, answer_text}
use Rattle.definitions.proofs.Refusals.{otherwise}

module _ (y : ℕ) (r : Reading) (F : List ℕ) where
  pub refused-text : (r.number ≡ 0 → ⊥) → answer_text y r F ≡ refused_line r.number
  unfolding answer_text
  refused-text h = otherwise r.number (read_line y r ++ record_line F) (refused_line r.number) h

  pub read-text : r.number ≡ 0 → answer_text y r F ≡ read_line y r ++ record_line F
  unfolding answer_text
  read-text e = rw e
