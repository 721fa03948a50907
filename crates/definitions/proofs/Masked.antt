-- Reading a masked photograph.
--
--   added-photo         what is a photograph stays one when a mark is added to its read cells
--   masked-cells        what masking and unmasking leave, cell by cell
--   value-plus          the values of a record plus another
--   masked-mark         a mark with another put on it is the mark of the sum of their records
--   masked_reads        its reading is the former one with the record plus the other
--   unmasked_reads      so a photograph is read as its unmasked symbols are, but for the record
--
-- What this file is for: request 9, from the definition of reading alone: what a record costs of a photograph, that record plus Q
-- costs of the masked one, so the nearest ones are the same up to Q. Assumes nothing.
use mathlib.Core.Path.{◌≡◌, refl, sym, ap, ◌∙◌}
use mathlib.Core.Logic.{◌≢◌, ◌⊎◌, inl, inr}
use mathlib.Core.Bool.{Bool, true, false, cond}
use mathlib.Core.List.{List}
use mathlib.Core.Option.{Option, some, none}
use Prim.Native.Nat.{ℕ, ◌+◌, ◌*◌, ◌-◌, ◌%◌, ◌≤◌, ◌<◌}
use native.Mathlib.Omega.{arith}
use native.Mathlib.Decide.{ℕ_discrete}
use native.Mathlib.Nat.{mod-lt, mod-eq_of_lt}
use lib.Dec.{eqb}
use lib.ListN.{length}
use borrow.Author.Tests.{ne_eqb}
use Rattle.bounded.specs.Bounded.{at, tab}
use Rattle.bounded.proofs.Sum.{sum-eq}
use Rattle.bounded.proofs.Tab.{length-tab, tab-at, tab-is, tab-eq}
use Rattle.field.proofs.Congruence.{~sym, mod_cong}
use Rattle.distance.specs.Cost.{cell, differ}
use Rattle.distance.proofs.Cost.{cell_full, cell-less}
use Rattle.polynomial.specs.Sides.{cell_point}
use Rattle.polynomial.proofs.Additive.{value-sum}
use Rattle.definitions.specs.Plan.{modulus, degree, side, point}
use Rattle.definitions.specs.Code.{Code, more, size, cells, value, mark, IsRecord}
use Rattle.definitions.specs.Cost.{full, radius, unread}
use Rattle.definitions.specs.Calls.{cost_of, changed_of, unread_of, reading_of, within, nearest, read_number}
use Rattle.definitions.specs.Sound.{Sound}
use Rattle.definitions.specs.Photograph.{Photograph}
use Rattle.definitions.specs.Accepted.{Masking}
use Rattle.definitions.specs.Demands.{Nearest}
use Rattle.definitions.specs.Masking.{Way, on, off, shift, masked, mask_number, mask_buffer}
use Rattle.definitions.specs.Masks.{Added, plus, less, MaskedReads, Masked}
use Rattle.definitions.proofs.Search.{SearchSays}
use Rattle.definitions.proofs.Plan.{plan-modulus}
use Rattle.definitions.proofs.Counts.{value-below}
use Rattle.definitions.proofs.Written.{mark-length, mark-at}
use Rattle.definitions.proofs.Photograph.{photo-accepted}
use Rattle.definitions.proofs.Nearest.{within-cost, without_cost, zero_or_ten, nearest_says}
use Rattle.definitions.proofs.Demands.{nearest-one}
use Rattle.definitions.proofs.Accepted.{accepted_masking, masking_accepted}
use Rattle.definitions.proofs.Masking.{back, shift-below, shift_back, was_read, cell-read}
use Rattle.definitions.proofs.Masking.{mask_fills, masked-at, masked-fits, masked_back}

-- what the calls leave, in the words of the statement
module _ {C : Code} {P Q s : List ℕ} (m : Masking C P Q s) where
  cells-added : Added C P Q s (masked on C P Q s)
  cells-added = record {
    whole = (masked-fits m on).whole;
    read = λ c l n. rw (masked-at m on c l, mark-at C P Q c l, ne_eqb (at s c) unread n);
    unread = λ c l e. rw (masked-at m on c l, e);
  }

pub masked-cells : (C : Code) (P Q s : List ℕ) → mask_number C P Q s ≡ 0 → Masked C P Q s
masked-cells C P Q s e =
    let m = accepted_masking C P Q s e in
    record {
      added = rw (← mask_fills C P Q s on refl e) (cells-added m);
      taken = rw (← mask_fills C P Q s off refl e) (rw (masked_back m off) at (cells-added (masked-fits m off)));
      whole = λ W. rw (← mask_fills C P Q s W refl e) (masked-fits m W).whole;
      symbols = λ W. rw (← mask_fills C P Q s W refl e) (masked-fits m W).symbol;
    }

-- a cell of doubt 0 costs 2 by the full doubt 1 where symbol and value differ
twice : (s v : ℕ) → cell 1 s 0 v ≡ 2 * differ s v
twice s v = go (eqb s v)
  where
    go : (b : Bool) → cond b 0 2 ≡ 2 * cond b 0 1
    go true = refl
    go false = refl

-- a reading of a photograph
module _ (C : Code) (P s u B : List ℕ) (photo : Photograph C P s u) (room : length B ≡ size C P) where
  accepted-number : (F : List ℕ) → IsRecord C P F → cost_of C P s u F < radius C P → read_number C P s u B ≡ 0
  accepted-number F f l = elim (zero_or_ten C P s u B (photo-accepted C P s u B photo room)) [
    | inl e ↦ e
    | inr e ↦ absurd (omega (arith, l, (nearest-one C P s u B photo room).exactly.0 e F f))
  ]

module _ {P : List ℕ} (S : Sound P) (C : Code) where
  abbrev p : ℕ
  p = modulus P

  positive : 0 < p
  positive = omega (arith, S.prime.least)

  -- records shifted coefficient by coefficient: `plus` and `less` of the statement
  abbrev shifted : Way → (F Q : List ℕ) → List ℕ
  shifted W F Q = tab (size C P) λ k. shift W p (at F k) (at Q k)

  shifted_at : (W : Way) (F Q : List ℕ) (k : ℕ) → k < size C P → at (shifted W F Q) k ≡ shift W p (at F k) (at Q k)
  shifted_at W F Q k l = tab-at (size C P) (λ k. shift W p (at F k) (at Q k)) k l

  shifted_record : (W : Way) (F Q : List ℕ) → IsRecord C P (shifted W F Q)
  shifted_record W F Q = record {
    size = length-tab (size C P) _;
    below = λ k l. rw (shifted_at W F Q k l) (shift-below positive W (at F k) (at Q k));
  }

  shifted_back : (W : Way) (F Q : List ℕ) → IsRecord C P F → IsRecord C P Q → shifted (back W) (shifted W F Q) Q ≡ F
  shifted_back W F Q f q = sym (tab-is (size C P) _ F f.size λ k l.
      let h : at Q k ≤ p = omega (arith, q.below k l) in
      rw (shifted_at W F Q k l) (sym (shift_back positive W (at F k) (at Q k) (f.below k l) h)))

  pub value-plus : (F Q : List ℕ) (c : ℕ) → value C P (plus C P F Q) c ≡ (value C P F c + value C P Q c) % p
  value-plus F Q c = rw (plan-modulus S) at (value-sum {q = p - 1} (more C) (degree P) F Q (plus C P F Q)
      (cell_point (more C) (side P) (point P) c) λ k l. rw (shifted_at on F Q k l) (mod_cong positive (at F k + at Q k)))

  pub masked-mark : (F Q : List ℕ) → IsRecord C P Q → mask_buffer on C P Q (mark C P F) ≡ mark C P (plus C P F Q)
  unfolding masked mark
  masked-mark F Q q = sym (mask_fills C P Q (mark C P F) on refl (masking_accepted C P Q (mark C P F) given))
      ∙ tab-eq (cells C P) λ c l.
      rw (mark-at C P F c l) (cell-read positive S.small on _ _ (value-below S C F c) ∙ sym (value-plus F Q c))
    where
      given : Masking C P Q (mark C P F)
      given = record {
        sound = S;
        given = q;
        whole = mark-length C P F;
        symbol = λ c l. inl (rw (mark-at C P F c l) (value-below S C F c));
      }

  module _ {Q s s' u : List ℕ} (photo : Photograph C P s u) (given : IsRecord C P Q) (added : Added C P Q s s') where
    -- a cell that was read, before and after
    symbol : (c : ℕ) → c < cells C P → at s c ≢ 255 → at s c < p
    symbol c l n = was_read (photo.symbol c l) n

    sum_is : (c : ℕ) → c < cells C P → at s c ≢ 255 → at s' c ≡ (at s c + value C P Q c) % p
    sum_is c l n = rw (mark-at C P Q c l) at (added.read c l n)

    symbol' : (c : ℕ) → c < cells C P → at s c ≢ 255 → at s' c < p
    symbol' c l n = rw (sum_is c l n) (mod-lt (at s c + value C P Q c) positive)

    -- a cell is unread afterwards only if it was
    was_unread : (c : ℕ) → c < cells C P → at s' c ≡ 255 → at s c ≡ 255
    was_unread c l e = elim (ℕ_discrete (at s c) 255) [
      | yes h ↦ h
      | no n ↦ absurd (omega (arith, e, symbol' c l n, S.small))
    ]

    pub added-photo : Photograph C P s' u
    added-photo = record {
      sound = S;
      symbols = added.whole;
      doubts = photo.doubts;
      symbol = λ c l. elim (ℕ_discrete (at s c) 255) [
        | yes e ↦ inr (added.unread c l e)
        | no n ↦ inl (symbol' c l n)
      ];
      doubt = λ c l. ((photo.doubt c l).0, λ e. (photo.doubt c l).1 (was_unread c l e));
    }

    same-unread : unread_of C P s' ≡ unread_of C P s
    same-unread = sum-eq (cells C P) λ c l. elim (ℕ_discrete (at s c) 255) [
      | yes e ↦ rw (added.unread c l e, e)
      | no n ↦ rw (ne_eqb (at s c) unread n, ne_eqb (at s' c) unread (λ e. n (was_unread c l e)))
    ]

    module _ (F : List ℕ) where
      abbrev G : List ℕ
      G = plus C P F Q

      -- a cell that was read costs the same, by any full doubt and doubt
      same-cell : (f d c : ℕ) → c < cells C P → at s c ≢ 255 →
          cell f (at s' c) d (value C P G c) ≡ cell f (at s c) d (value C P F c)
      same-cell f d c l n =
          let h = rw (plan-modulus S) at (cell-less {q = p - 1} f (at s' c) (at s c) d (value C P F c) (value C P Q c)
          (rw (plan-modulus S) (symbol' c l n)) (rw (plan-modulus S) (symbol c l n))
          (rw (sum_is c l n) (~sym (mod_cong positive (at s c + value C P Q c))))) in
          rw (value-plus F Q c) (sym h ∙ ap (cell f (at s c) d) (mod-eq_of_lt (value-below S C F c)))

      same-cost : cost_of C P s' u G ≡ cost_of C P s u F
      same-cost = sum-eq (cells C P) λ c l. elim (ℕ_discrete (at s c) 255) [
        | yes e ↦ rw (added.unread c l e, e, (photo.doubt c l).1 e)
            (cell_full (full P) 255 (value C P G c) ∙ sym (cell_full (full P) 255 (value C P F c)))
        | no n ↦ same-cell (full P) (at u c) c l n
      ]

      same-changed : changed_of C P s' G ≡ changed_of C P s F
      same-changed = sum-eq (cells C P) λ c l. elim (ℕ_discrete (at s c) 255) [
        | yes e ↦ rw (added.unread c l e, e)
        | no n ↦ rw (ne_eqb (at s c) unread n, ne_eqb (at s' c) unread (λ e. n (was_unread c l e))) (omega (
          arith,
          same-cell 1 0 c l n,
          twice (at s c) (value C P F c),
          twice (at s' c) (value C P G c),
        ))
      ]

      same-reading : reading_of C P s' u G ≡ reading_of C P s u F
      unfolding reading_of
      same-reading = rw (same-cost, same-changed, same-unread)

    module _ (B B' : List ℕ) (room : length B ≡ size C P) (room' : length B' ≡ size C P) where
      before : Nearest C P s u B
      before = nearest-one C P s u B photo room

      after : Nearest C P s' u B'
      after = nearest-one C P s' u B' added-photo room'

      numbers : (read_number C P s u B ≡ 0) ⊎ (read_number C P s u B ≡ 10)
      numbers = zero_or_ten C P s u B (photo-accepted C P s u B photo room)

      -- a record under the radius, and none
      near : (F : List ℕ) → IsRecord C P F → cost_of C P s u F < radius C P → MaskedReads C P Q s s' u B B'
      near F f l =
          let h = before.returned F f l in
          let i = after.returned (plus C P F Q) (shifted_record on F Q) (omega (arith, same-cost F, l)) in
          let e = accepted-number C P s u B photo room F f l in
          let e' = accepted-number C P s' u B' added-photo room' (plus C P F Q) (shifted_record on F Q)
          (omega (arith, same-cost F, l)) in
          record {
            numbers = numbers;
            number = e' ∙ sym e;
            reading = i.0 ∙ same-reading F ∙ sym h.0;
            sum = λ _. i.1 ∙ ap (λ R. plus C P R Q) (sym h.1);
            difference = λ _. h.1 ∙ sym (shifted_back on F Q f given) ∙ ap (λ R. less C P R Q) (sym i.1);
            none = λ z. absurd (omega (arith, z, e));
          }

      far : ((F : List ℕ) → IsRecord C P F → radius C P ≤ cost_of C P s u F) → MaskedReads C P Q s s' u B B'
      far z =
          let h = before.refuses z in
          let i = after.refuses z' in
          let e = before.exactly.1 z in
          record {
            numbers = numbers;
            number = after.exactly.1 z' ∙ sym e;
            reading = i.0 ∙ sym h.0;
            sum = λ o. absurd (omega (arith, o, e));
            difference = λ o. absurd (omega (arith, o, e));
            none = λ _. (h.1, i.1);
          }
        where
          z' : (G : List ℕ) → IsRecord C P G → radius C P ≤ cost_of C P s' u G
          z' G g =
              let F = less C P G Q in
              omega (
                arith,
                z F (shifted_record off G Q),
                same-cost F,
                ap (cost_of C P s' u) (shifted_back off G Q g given),
              )

      pub masked_reads : MaskedReads C P Q s s' u B B'
      masked_reads = go (nearest C P s u) (nearest_says C P s u)
        where
          go : (o : Option (List ℕ)) → SearchSays p (size C P) (within C P s u) o → MaskedReads C P Q s s' u B B'
          go (some F) (f, t) = near F f (within-cost C P s u F t)
          go none h = far λ F f. without_cost C P s u F (h F f)

-- a photograph t, and what unmasking it leaves
pub unmasked_reads : (C : Code) (P Q t u B B' : List ℕ) → Photograph C P t u → IsRecord C P Q → length B ≡ size C P →
    length B' ≡ size C P → MaskedReads C P Q (mask_buffer off C P Q t) t u B B'
unmasked_reads C P Q t u B B' photo given room room' = masked_reads photo.sound C unmasked given left.taken B B' room room'
  where
    left : Masked C P Q t
    left = masked-cells C P Q t (masking_accepted C P Q t
        (record { sound = photo.sound; given = given; whole = photo.symbols; symbol = photo.symbol }))

    unmasked : Photograph C P (mask_buffer off C P Q t) u
    unmasked = record {
      sound = photo.sound;
      symbols = left.whole off;
      doubts = photo.doubts;
      symbol = left.symbols off;
      doubt = λ c l. ((photo.doubt c l).0, λ e. (photo.doubt c l).1 (left.taken.unread c l e));
    }
