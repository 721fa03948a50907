-- The laws of degrees by values: `Lead q n x k c f` says that f has a degree of at most k, and c before X^k.
--
--   lead_eq          congruent values and leading coefficients
--   mix              m times the one and o times the other
--   wider, zero-to   a bound may grow, and then 0 leads
--   narrow           where 0 leads the degree is lower
--   shift            times X - x r the degree is one more
--   divide           less its value at x r, a polynomial is X - x r times one of a lower degree
--
-- What this file is for: polynomials that are known by their values only, as the interpolation keeps them. Assumes nothing.
use mathlib.Core.Path.{◌≡◌, refl}
use Prim.Native.Nat.{ℕ, zero, suc, ◌+◌, ◌*◌, ◌≤◌, ◌<◌}
use native.Mathlib.Omega.{arith}
use native.Mathlib.Decide.{ℕ_discrete}
use Rattle.field.specs.Congruence.{Cong, Agree}
use Rattle.field.proofs.Congruence.{same, ~sym, ◌⨾◌, ~add, ~mul, less}
use Rattle.polynomial.specs.Lead.{Lead, con, up}

div_step : {q f f' g : ℕ} (g' d c x x' : ℕ) → Cong q f (c + x * g) → Cong q f' (c + x' * g') → Cong q g (g' + (x + q * x') * d) →
    Cong q f (f' + (x + q * x') * (g + x' * d))
div_step {q} {f} {f'} {g} g' d c x x' h h' e = ~sym
    (~add {c = (x + q * x') * (g + x' * d)} h' (same refl)
    ⨾ same {b = c + (x + q * x') * g + x' * (g' + (x + q * x') * d)} (omega arith)
    ⨾ ~add {a = c + (x + q * x') * g} (same refl) (~mul x' (~sym e))
    ⨾ less (x' * g) (omega arith) ⨾ ~sym h)

module _ {q n : ℕ} {x : ℕ → ℕ} where
  pub lead_eq : {k c c' : ℕ} {f f' : ℕ → ℕ} → Cong q c c' → Agree q n f' f → Lead q n x k c f → Lead q n x k c' f'
  lead_eq e s (con h) = con λ j l. s j l ⨾ h j l ⨾ e
  lead_eq e s (up a G h) = up a (lead_eq e (λ j l. same refl) G) λ j l. s j l ⨾ h j l

  -- m times the one and o times the other
  pub mix : {k c e : ℕ} {f g f' : ℕ → ℕ} (m o : ℕ) → Lead q n x k c f → Lead q n x k e g → Agree q n f' (λ j. m * f j + o * g j) →
      Lead q n x k (m * c + o * e) f'
  mix m o (con h) (con i) s = con λ j l. s j l ⨾ ~add (~mul m (h j l)) (~mul o (i j l))
  mix m o (up a F h) (up b G i) s =
      up (m * a + o * b) (mix m o F G λ j l. same refl) λ j l. s j l ⨾ ~add (~mul m (h j l)) (~mul o (i j l)) ⨾ same (omega arith)

  -- a bound may grow
  pub wider : {k c : ℕ} {f : ℕ → ℕ} → Lead q n x k c f → Lead q n x (suc k) 0 f
  wider {c} (con h) = up {g = λ j. 0} c (con λ j l. same refl) λ j l. h j l ⨾ same (omega arith)
  wider (up a G h) = up a (wider G) h

  pub narrow : (k : ℕ) {f : ℕ → ℕ} → Lead q n x (suc k) 0 f → (c : ℕ) × Lead q n x k c f
  narrow zero (up a (con z) h) =
      (a, con {c = a} λ j l. h j l ⨾ ~add {a = a} (same refl) (~mul (x j) (z j l)) ⨾ same (omega arith))
  narrow (suc k) (up a G h) = let (c, D) = narrow k G in (c, up a D h)

  pub zero-to : {k : ℕ} {f : ℕ → ℕ} (m : ℕ) → k ≤ m → Lead q n x k 0 f → Lead q n x m 0 f
  zero-to {k} zero h F = let e : k ≡ zero = omega arith in rw e at F
  zero-to {k} (suc m) h F = elim (ℕ_discrete k (suc m)) [ yes e ↦ rw e at F | no e ↦ wider (zero-to m (omega arith) F) ]

  -- times x - x r
  pub shift : {k c : ℕ} {f f' : ℕ → ℕ} (r : ℕ) → Lead q n x k c f → Agree q n f' (λ j. (x j + q * x r) * f j) →
      Lead q n x (suc k) c f'
  shift {f} r F s = lead_eq (same (omega arith)) (λ j l. same refl)
      (mix {f = λ j. x j * f j} 1 (q * x r) (up 0 F λ j l. same (omega arith)) (wider F) λ j l. s j l ⨾ same (omega arith))

  -- f - f r is x - x r times a polynomial of a lower degree
  pub divide : (k r : ℕ) {c : ℕ} {f : ℕ → ℕ} → r < n → Lead q n x (suc k) c f →
      (g : ℕ → ℕ) × Lead q n x k c g × Agree q n f (λ j. f r + (x j + q * x r) * g j)
  divide zero r {c} i (up {g} a (con z) h) = (
    (λ j. c),
    con (λ j l. same refl),
    λ j l.
        div_step (g r) 0 a (x j) (x r) (h j l) (h r i) (z j l ⨾ ~sym (z r i) ⨾ same (omega arith))
        ⨾ ~add (same refl) (~mul (x j + q * x r) (same (omega arith) ⨾ z j l)),
  )
  divide (suc k) r i (up {g} a G h) =
      let (d, D, e) = divide k r i G in (
        (λ j. g j + x r * d j),
        lead_eq (same (omega arith)) (λ j l. same refl) (mix 1 (x r) G (wider D) (λ j l. same (omega arith))),
        λ j l. div_step (g r) (d j) a (x j) (x r) (h j l) (h r i) (e j l),
      )
