-- The flat record, written group by group.
--
--   flat_more   one group more: those before it stay, and the coefficients are those of the columns
--
-- What this file is for: the record of what the steps found. Assumes nothing.
use mathlib.Core.Path.{◌∙◌}
use mathlib.Core.List.{List}
use Prim.Native.Nat.{ℕ, ◌+◌}
use native.Mathlib.Omega.{arith}
use native.Mathlib.Decide.{ℕ_discrete}
use Rattle.polynomial.specs.Record.{place}
use Rattle.polynomial.proofs.Record.{place-below}
use Rattle.reed_muller.specs.Groups.{Grouped, Flat}

pub flat_more : {columns : List (List ℕ)} {k : ℕ} {old r : List ℕ} → Grouped columns k (k + 1) old r → Flat columns k old →
    Flat columns (k + 1) r
flat_more {columns} {k} {old} {r} G f = record {
  size = G.size;
  is = λ t i h. elim (ℕ_discrete (i + t) k) [
    | yes e ↦ G.group t i e (omega arith)
    | no e ↦ G.kept (place i t) (place-below i t k (omega arith)) ∙ f.is t i (omega arith)
  ];
}
