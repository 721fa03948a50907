-- The bytes of a plan.
--
--   said season g   the 40 bytes that say this season and this grid: the table "The season plan", written out
--
-- What this file is for: in the code a plan is the struct that its bytes are read into; what is proved of it is said of the
-- bytes.
use Rattle.std.specs.Prelude.{List, [], ◌∷◌, ◌++◌, ℕ, ◌/◌, ◌%◌}
use Rattle.polynomial.specs.declared.Grid.{Grid}

unfoldable pub said : (season : ℕ) → Grid → List ℕ
said season g =
    season / 256 ∷ season % 256 ∷ g.modulus.p ∷ g.a ∷ g.b ∷ g.d ∷ (g.x ++ (g.y ++ 0 ∷ 0 ∷ []))
