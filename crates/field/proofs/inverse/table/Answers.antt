-- `field::inverse::table` meets its contract: one test, which antt computes over the table. Assumes nothing.
use mathlib.Core.Path.{◌≡◌, refl}
use mathlib.Core.Bool.{Bool, true, false, not, ◌&&◌, false≢true}
use mathlib.Core.List.{List}
use Prim.Native.Nat.{ℕ, zero, suc, ◌*◌, ◌%◌, ◌<◌}
use native.Mathlib.Omega.{arith}
use lib.Dec.{eqb, ltb}
use lib.ListN.{length}
use borrow.Author.Tests.{eqb-true, ltb-true, not-false}
use Rattle.bounded.specs.Bounded.{at, any}
use Rattle.bounded.proofs.Any.{any_none}
use Rattle.field.specs.Prime.{Inverse, Inverses}
use Rattle.field.proofs.inverse.table.Goals as goal

-- the rule of the entry r at the place a: at 0 it is 0, elsewhere the inverse
rule : (a r : ℕ) → Bool
rule zero r = eqb r 0
rule (suc a) r = ltb r 251 && eqb (r * suc a % 251) 1

wrong : (t : List ℕ) (a : ℕ) → Bool
wrong t a = not (rule a (at t a))

inverse : (a r : ℕ) → ltb r 251 && eqb (r * a % 251) 1 ≡ true → Inverse 251 a r
inverse a r h = go (ltb r 251) (eqb (r * a % 251) 1) refl refl h
  where
    go : (x y : Bool) → ltb r 251 ≡ x → eqb (r * a % 251) 1 ≡ y → x && y ≡ true → Inverse 251 a r
    go true true l e h = record { below = ltb-true _ _ l; one = eqb-true _ _ e }
    go true false l e h = absurd (false≢true h)
    go false y l e h = absurd (false≢true h)

-- a table in which the test finds nothing wrong
tested : (t : List ℕ) → length t ≡ 251 → any 251 (wrong t) ≡ false → Inverses 251 t
unfolding rule wrong
tested t s e = record { size = s; zero = eqb-true _ _ (right 0 (omega arith)); each = each }
  where
    right : (a : ℕ) → a < 251 → rule a (at t a) ≡ true
    right a l = not-false _ (any_none 251 (wrong t) e a l)

    each : (a : ℕ) → 0 < a → a < 251 → Inverse 251 a (at t a)
    each zero z l = absurd (omega arith)
    each (suc a) z l = inverse (suc a) (at t (suc a)) (right (suc a) l)

pub returns : goal.returns
unfolding any rule wrong
returns c = tested _ refl refl
