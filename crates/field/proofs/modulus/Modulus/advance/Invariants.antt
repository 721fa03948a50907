-- `field::modulus::Modulus::advance` meets its contract: the places below j hold a + c b and b w, the others are as they were.
-- Assumes nothing.
use mathlib.Core.Path.{◌≡◌}
use Prim.Native.Nat.{◌+◌, ◌*◌, ◌%◌}
use Rattle.bounded.specs.Bounded.{at}
use Rattle.field.specs.Loop.{Passed}
use Rattle.field.proofs.modulus.Modulus.advance.Given as goal

abbrev pub invariant-loop-j : goal.invariant-loop-j
invariant-loop-j l =
    Passed 16 0 (λ k v. v ≡ at l.initial.a k) (λ k v. v ≡ (at l.initial.a k + l.c * at l.initial.b k) % l.self.p) l.a l.j
    × Passed 16 0 (λ k v. v ≡ at l.initial.b k) (λ k v. v ≡ at l.initial.b k * at l.w k % l.self.p) l.b l.j
