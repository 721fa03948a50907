-- Tests of two parts.
--
--   both, each-true         both parts are true where the whole is; and the other way round
--   not_both, both_false    a part is false where the whole is and the other part is true; and the other way round
--   first-false, first-true the first part decides
--   neither, nor            both parts are false where either would do; and the other way round
--
-- What this file is for: what a test of several parts says is said part by part. Assumes nothing.
use mathlib.Core.Path.{◌≡◌, refl, sym}
use mathlib.Core.Bool.{Bool, true, false, ◌&&◌, ◌||◌, false≢true, true≢false}

pub both : (a b : Bool) → a && b ≡ true → (a ≡ true) × (b ≡ true)
both true b e = (refl, e)
both false b e = absurd (false≢true e)

pub each-true : {a b : Bool} → a ≡ true → b ≡ true → a && b ≡ true
each-true e h = rw (e, h)

pub not_both : (a b : Bool) → a && b ≡ false → a ≡ true → b ≡ false
not_both true b e h = e
not_both false b e h = absurd (true≢false (sym h))

pub both_false : (a b : Bool) → (a ≡ true → b ≡ false) → a && b ≡ false
both_false true b h = h refl
both_false false b h = refl

pub first-false : (a b : Bool) → a ≡ false → a && b ≡ false
first-false a b e = rw e

pub first-true : (a b : Bool) → a ≡ true → a || b ≡ true
first-true a b e = rw e

pub neither : (a b : Bool) → a || b ≡ false → (a ≡ false) × (b ≡ false)
neither true b e = absurd (true≢false e)
neither false b e = (refl, e)

pub nor : {a b : Bool} → a ≡ false → b ≡ false → a || b ≡ false
nor e h = rw (e, h)
