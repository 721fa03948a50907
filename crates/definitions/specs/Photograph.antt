-- A photograph as facts: what the plan's refusals and 6 to 8 leave.
--
--   SymbolsFit C P s       a symbol of the strip or mark is below p, or 255
--   DoubtsFit f C P s u    a doubt is 0 to f, and exactly f where the cell is unread
--   Photograph C P s u     the plan P is sound, and s and u are symbols and doubts of its strip or mark, in buffers of the right
--                          lengths; f is the full doubt of its season
--   sure n                 n doubts of 0
--
-- What this file is for: "every photograph in buffers of the right lengths, whatever the points, symbols and doubts".
use Rattle.std.specs.Prelude.{◌≡◌, ◌⊎◌, List, ℕ, ◌≤◌, ◌<◌, length, replicate}
use Rattle.bounded.specs.Bounded.{at}
use Rattle.definitions.specs.Plan.{modulus}
use Rattle.definitions.specs.Code.{Code, cells}
use Rattle.definitions.specs.Cost.{full, unread}
use Rattle.definitions.specs.Sound.{Sound}

abbrev pub SymbolsFit : Code → (P s : List ℕ) → Type 0
SymbolsFit C P s = (c : ℕ) → c < cells C P → (at s c < modulus P) ⊎ (at s c ≡ unread)

abbrev pub DoubtsFit : ℕ → Code → (P s u : List ℕ) → Type 0
DoubtsFit f C P s u = (c : ℕ) → c < cells C P → (at u c ≤ f) × (at s c ≡ unread → at u c ≡ f)

pub record Photograph (C : Code) (P s u : List ℕ) : Type 0 where
  pub sound : Sound P
  pub symbols : length s ≡ cells C P
  pub doubts : length u ≡ cells C P
  pub symbol : SymbolsFit C P s
  pub doubt : DoubtsFit (full P) C P s u

abbrev pub sure : ℕ → List ℕ
sure n = replicate n 0
