-- The law of the search through all words.
--
--   SearchSays p k test o   the answer none says that no word passes; a word, that it is one and passes
--   search_says             the search's answer says so
--   search-none             where no word passes it finds none
--   search-the              where at most one word passes it finds that one
--
-- What this file is for: the definition of reading finds the record under the radius, if there is one. Assumes nothing.
use mathlib.Core.Path.{◌≡◌, refl, sym, ap, ◌∙◌}
use mathlib.Core.Bool.{Bool, true, false, false≢true}
use mathlib.Core.List.{List, [], ◌∷◌}
use mathlib.Core.Option.{Option, some, none}
use Prim.Native.Nat.{ℕ, zero, suc, ◌≤◌, ◌<◌}
use native.Mathlib.Omega.{arith}
use native.Mathlib.Decide.{ℕ_discrete}
use Rattle.bounded.specs.Bounded.{at}
use Rattle.definitions.specs.Search.{first_of, put, search}
use Rattle.field.specs.Word.{Word}

-- what an answer says: none, that no word passes; a word, that it is one and passes
abbrev pub SearchSays : (p k : ℕ) → (List ℕ → Bool) → Option (List ℕ) → Type 0
SearchSays p k test none = (w : List ℕ) → Word p k w → test w ≡ false
SearchSays p k test (some w) = Word p k w × (test w ≡ true)

-- the same of the words whose first letter is below n
abbrev SaysBelow : (p k n : ℕ) → (List ℕ → Bool) → Option (List ℕ) → Type 0
SaysBelow p k n test none = (c : ℕ) (w : List ℕ) → c < n → Word p k w → test (c ∷ w) ≡ false
SaysBelow p k n test (some w) = Word p (suc k) w × (test w ≡ true)

word-cons : {p k c : ℕ} {w : List ℕ} → c < p → Word p k w → Word p (suc k) (c ∷ w)
word-cons {p} {k} {c} {w} l h = record { size = ap suc h.size; below = go }
  where
    go : (i : ℕ) → i < suc k → at (c ∷ w) i < p
    go zero m = l
    go (suc i) m = h.below i (omega arith)

pub search_says : (p k : ℕ) (test : List ℕ → Bool) → SearchSays p k test (search p k test)
unfolding search first_of
search_says p zero test = go (test []) refl
  where
    empty : (w : List ℕ) → Word p zero w → w ≡ []
    empty [] h = refl
    empty (c ∷ w) h = absurd (omega (arith, h.size))

    go : (b : Bool) → test [] ≡ b → SearchSays p zero test (elim b [ true ↦ some [] | false ↦ none ])
    go true e = (record { size = refl; below = λ i l. absurd (omega arith) }, e)
    go false e = λ w h. rw (empty w h) e
search_says p (suc k) test = finish (first_of p f) (tried (λ c. search_says p k λ w. test (c ∷ w)) p (omega arith))
  where
    f : ℕ → Option (List ℕ)
    f c = put c (search p k λ w. test (c ∷ w))

    next : (n : ℕ) → n < p → (a b : Option (List ℕ)) → SaysBelow p k n test a → SearchSays p k (λ w. test (n ∷ w)) b →
        SaysBelow p k (suc n) test (elim a [ some w ↦ some w | none ↦ put n b ])
    next n l (some w) b h g = h
    next n l none (some v) h g = (word-cons l g.0, g.1)
    next n l none none h g = λ c w m x. elim (ℕ_discrete c n) [ yes e ↦ rw e (g w x) | no e ↦ h c w (omega arith) x ]

    tried : ((c : ℕ) → SearchSays p k (λ w. test (c ∷ w)) (search p k λ w. test (c ∷ w))) → (n : ℕ) → n ≤ p →
        SaysBelow p k n test (first_of n f)
    tried r zero l = λ c w m. absurd (omega arith)
    tried r (suc n) l = next n l (first_of n f) (search p k λ w. test (n ∷ w)) (tried r n (omega arith)) (r n)

    apart : SaysBelow p k p test none → SearchSays p (suc k) test none
    apart h [] x = absurd (omega (arith, x.size))
    apart h (c ∷ w) x = h c w (x.below 0 (omega arith))
        (record { size = omega (arith, x.size); below = λ i l. x.below (suc i) (omega arith) })

    finish : (o : Option (List ℕ)) → SaysBelow p k p test o → SearchSays p (suc k) test o
    finish (some w) h = h
    finish none h = apart h

module _ (p k : ℕ) (test : List ℕ → Bool) where
  pub search-none : ((w : List ℕ) → Word p k w → test w ≡ false) → search p k test ≡ none
  search-none h = go (search p k test) (search_says p k test)
    where
      go : (o : Option (List ℕ)) → SearchSays p k test o → o ≡ none
      go none s = refl
      go (some w) s = absurd (false≢true (sym (h w s.0) ∙ s.1))

  pub search-the : ((v w : List ℕ) → Word p k v → Word p k w → test v ≡ true → test w ≡ true → v ≡ w) → (w : List ℕ) →
      Word p k w → test w ≡ true → search p k test ≡ some w
  search-the one w x t = go (search p k test) (search_says p k test)
    where
      go : (o : Option (List ℕ)) → SearchSays p k test o → o ≡ some w
      go none s = absurd (false≢true (sym (s w x) ∙ t))
      go (some v) s = ap some (one v w s.0 x s.1 t)
