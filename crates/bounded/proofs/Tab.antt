-- The laws of tables: the lists of f 0 .. f (n - 1).
--
--   length-tab, tab-at   a table has n entries, and entry i is f i
--   list_eq              lists of one length with the same entries are one list
--   tab-is               a list of n entries f i is the table
--   tab-eq               tables of the same entries are one
--   tab-append           a table in two parts
--   tab-next             in a list whose front is the table the next entry is still the list's
--   tab-more             the next entry written into such a list
--   tab-whole            nothing of the list is left behind n entries
--
-- What this file is for: a row is said by its entries, and so is a buffer that is written from the front. Assumes nothing.
use mathlib.Core.Path.{◌≡◌, refl, sym, ap₂, ◌∙◌}
use mathlib.Core.List.{List, [], ◌∷◌, ◌++◌, append_assoc, append-nil}
use Prim.Native.Nat.{ℕ, zero, suc, ◌+◌, ◌<◌}
use native.Mathlib.Numerals.{add-one}
use native.Mathlib.Omega.{arith}
use native.Mathlib.Decide.{ℕ_discrete}
use native.Mathlib.Nat.{add-zero, add-suc}
use lib.ListN.{length, set, drop, get_or, length-append, get_or-append}
use lib.Seq.{get_or_at, set_at, drop-cons, drop-length}
use Rattle.bounded.specs.Bounded.{at, tab}

pub length-tab : (n : ℕ) (f : ℕ → ℕ) → length (tab n f) ≡ n
unfolding tab
length-tab zero f = refl
length-tab (suc n) f = simp (length-append, length-tab n f) (omega arith)

pub tab-at : (n : ℕ) (f : ℕ → ℕ) (i : ℕ) → i < n → at (tab n f) i ≡ f i
unfolding tab
tab-at zero f i l = absurd (omega arith)
tab-at (suc n) f i l = elim (ℕ_discrete i n) [
  | yes e ↦ rw e (get_or_at (tab n f) (f n) [] 0 n (length-tab n f))
  | no e ↦ get_or-append (tab n f) _ 0 i (omega (arith, length-tab n f)) ∙ tab-at n f i (omega arith)
]

-- two lists of one length with the same bytes are one
pub list_eq : (v w : List ℕ) → length v ≡ length w → ((i : ℕ) → i < length v → at v i ≡ at w i) → v ≡ w
list_eq [] [] e h = refl
list_eq [] (b ∷ w) e h = absurd (omega arith)
list_eq (a ∷ v) [] e h = absurd (omega arith)
list_eq (a ∷ v) (b ∷ w) e h = ap₂ ◌∷◌ (h 0 (omega arith)) (list_eq v w (omega arith) λ i l. h (suc i) (omega arith))

-- a list of n bytes that are those of f is the table of f
pub tab-is : (n : ℕ) (f : ℕ → ℕ) (l : List ℕ) → length l ≡ n → ((i : ℕ) → i < n → at l i ≡ f i) → l ≡ tab n f
tab-is n f l e h = list_eq l (tab n f) (e ∙ sym (length-tab n f)) λ i m.
    let k : i < n = omega arith in h i k ∙ sym (tab-at n f i k)

-- tables of the same numbers are one
pub tab-eq : (n : ℕ) {f g : ℕ → ℕ} → ((i : ℕ) → i < n → f i ≡ g i) → tab n f ≡ tab n g
unfolding tab
tab-eq zero h = refl
tab-eq (suc n) h = ap₂ (λ l v. l ++ (v ∷ [])) (tab-eq n λ i l. h i (omega arith)) (h n (omega arith))

-- a table in two parts
pub tab-append : (a b : ℕ) (f : ℕ → ℕ) → tab (a + b) f ≡ tab a f ++ tab b (λ i. f (a + i))
unfolding tab
tab-append a zero f = rw (add-zero a) (sym (append-nil (tab a f)))
tab-append a (suc b) f = rw (add-suc a b, tab-append a b f) (append_assoc (tab a f) _ _)

-- a table written from the front of the list d: the entry before it is written, one entry more, and all
pub tab-next : (n : ℕ) (f : ℕ → ℕ) (d : List ℕ) → n < length d → at (tab n f ++ drop n d) n ≡ at d n
tab-next n f d h = rw (drop-cons d n 0 h) (get_or_at (tab n f) (get_or d n 0) (drop (suc n) d) 0 n (length-tab n f))

pub tab-more : (n : ℕ) (f : ℕ → ℕ) (d : List ℕ) → n < length d →
    set (tab n f ++ drop n d) n (f n) ≡ tab (n + 1) f ++ drop (n + 1) d
unfolding tab
tab-more n f d h =
    rw (add-one n, drop-cons d n 0 h) (set_at (tab n f) (get_or d n 0) (drop (suc n) d) (f n) n (length-tab n f)
    ∙ sym (append_assoc (tab n f) (f n ∷ []) (drop (suc n) d)))

pub tab-whole : (n : ℕ) (f : ℕ → ℕ) (d : List ℕ) → length d ≡ n → tab n f ++ drop n d ≡ tab n f
tab-whole n f d e = rw (← e, drop-length, append-nil)
