-- `field::scalar::is_prime` meets its contract: one test, which antt computes for every byte. Assumes nothing.
use mathlib.Core.Path.{◌≡◌, refl}
use mathlib.Core.Bool.{Bool, true, false, cond, not, ◌&&◌, ◌||◌, true≢false}
use Prim.Native.Nat.{ℕ, ◌%◌, ◌<◌}
use native.Mathlib.Omega.{arith}
use lib.Dec.{eqb, ltb}
use Rattle.bounded.specs.Bounded.{any}
use Rattle.bounded.proofs.Any.{any_none}
use Rattle.field.specs.Prime.{is_prime}
use Rattle.field.proofs.scalar.is_prime.Goals as goal

abbrev splits : (d p : ℕ) → Bool
splits d p = eqb (p % d) 0 && not (eqb p d)

-- what is returned for p
answer : ℕ → Bool
answer p = ltb 1 p && not (((((splits 2 p || splits 3 p) || splits 5 p) || splits 7 p) || splits 11 p) || splits 13 p)

wrong : ℕ → Bool
wrong p = cond (answer p) (not (is_prime p)) (is_prime p)

right : any 256 wrong ≡ false → (p : ℕ) → p < 256 → answer p ≡ is_prime p
unfolding wrong
right e p l = go (answer p) (is_prime p) (any_none 256 wrong e p l)
  where
    go : (a b : Bool) → cond a (not b) b ≡ false → a ≡ b
    go true true e = refl
    go true false e = absurd (true≢false e)
    go false true e = absurd (true≢false e)
    go false false e = refl

pub returns : goal.returns
unfolding any is_prime answer wrong
returns c =
    let none : any 256 wrong ≡ false = refl in
    rw (
      c.splits.ensures,
      c.splits-2.ensures,
      c.splits-3.ensures,
      c.splits-4.ensures,
      c.splits-5.ensures,
      c.splits-6.ensures,
    )
    (right none c.args.p (omega arith))
