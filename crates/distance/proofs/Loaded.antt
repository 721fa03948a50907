-- Loaded cells cost what the cells cost for which they stand.
--
--   cell_loaded   one cell
--   cost_loaded   n cells
--
-- What this file is for: a reader may put any symbol where the doubt is full. Assumes nothing.
use mathlib.Core.Logic.{◌⊎◌, inl, inr}
use mathlib.Core.Path.{◌≡◌, sym, ◌∙◌}
use Prim.Native.Nat.{ℕ, ◌<◌}
use Rattle.bounded.proofs.Sum.{sum-eq}
use Rattle.distance.specs.Cost.{cell, cost}
use Rattle.distance.specs.Loaded.{Loaded}
use Rattle.distance.proofs.Cost.{cell_full}

pub cell_loaded : {full s u s' u' : ℕ} (v : ℕ) → Loaded full s u s' u' → cell full s u v ≡ cell full s' u' v
cell_loaded {full} {s} {u} {s'} v L = rw L.doubt (go L.symbol)
  where
    go : (s' ≡ s) ⊎ (u ≡ full) → cell full s u v ≡ cell full s' u v
    go (inl e) = rw e
    go (inr e) = rw e (cell_full full s v ∙ sym (cell_full full s' v))

pub cost_loaded : {full n : ℕ} {s u s' u' : ℕ → ℕ} (v : ℕ → ℕ) → ((i : ℕ) → i < n → Loaded full (s i) (u i) (s' i) (u' i)) →
    cost full n s u v ≡ cost full n s' u' v
cost_loaded {n} v L = sum-eq n λ i l. cell_loaded (v i) (L i l)
