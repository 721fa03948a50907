-- A sound plan's strip that is loaded, decoded and stored.
--
--   axis_of          the row points, as the strip decoder takes them
--   strip_received   what is loaded is what the strip decoder takes
--   strip-refused    no answer of it is refusal 10
--   strip-under      the cost of an answer is under the radius
--   strip-reading    an answer, stored, is the reading of the one record within the radius; of the cells that differ from its
--                    strip, those that were not read are some
--
-- What this file is for: reading a strip is the reading that document 01 defines. Assumes nothing.
use mathlib.Core.Path.{◌≡◌, refl, sym, ap₂, ◌∙◌}
use mathlib.Core.Logic.{◌⊎◌, inl}
use mathlib.Core.Bool.{cond}
use mathlib.Core.List.{List}
use Prim.Native.Nat.{ℕ, ◌-◌, ◌≤◌, ◌<◌}
use native.Mathlib.Omega.{arith}
use native.Mathlib.Decide.{dec_lt}
use lib.Dec.{eqb}
use lib.ListN.{length}
use Rattle.std.specs.Prelude.{Option, Some, None}
use Rattle.bounded.specs.Bounded.{at, tab}
use Rattle.bounded.proofs.Sum.{sum-eq}
use Rattle.bounded.proofs.Tab.{length-tab, tab-at, tab-is}
use Rattle.field.specs.Row.{row}
use Rattle.field.proofs.Row.{row_at, row_of, beyond}
use Rattle.definitions.specs.Plan.{modulus, rows, degree, row_point}
use Rattle.definitions.specs.Code.{strip, size, cells, value, IsRecord}
use Rattle.definitions.specs.Cost.{full, unread, radius}
use Rattle.definitions.specs.Calls.{refused}
use Rattle.definitions.specs.Reads.{Reads}
use Rattle.distance.specs.Cost.{hamming}
use Rattle.distance.specs.Loaded.{Loaded}
use Rattle.polynomial.specs.declared.Grid.{Grid}
use Rattle.definitions.proofs.Plan.{strip_size_lem}
use Rattle.plan.specs.declared.season.Plan.{Plan}
use Rattle.plan.specs.Says.{Says}
use Rattle.plan.proofs.Said.{point_at}
use Rattle.plan.proofs.Values.{strip-values}
use Rattle.answers.specs.Summary.{unread_in, summary}
use Rattle.answers.proofs.Summary.{unread-within, summary-is}
use Rattle.reed_solomon.specs.declared.axis.Axis.{Axis}
use Rattle.reed_solomon.specs.declared.decoder.Decoded.{Decoded}
use Rattle.reed_solomon.specs.Axis.{Received}
use Rattle.reed_solomon.specs.Decoded.{found, message, cost, StripDecoded}
use Rattle.reed_solomon.specs.Strip.{Strip}
use Rattle.reading.proofs.StripReading.{strip-none, strip-cost, strip-found}
use Rattle.reading.specs.Loading.{residue, Taken}
use Rattle.reading.proofs.Loading.{residue-below, residue_loaded}

-- the row points, as the strip decoder takes them
abbrev pub axis_of : Grid → Axis
axis_of g = record { modulus = g.modulus; x = g.x; n = g.a; k = g.d; full = g.full }

module _ {P s u B s' u' : List ℕ} {plan : Plan} (says : Says P plan) (t : Taken strip P s u B)
    (es : s' ≡ row (λ j. residue (at s j))) (eu : u' ≡ row (at u)) where
  abbrev g : Grid
  g = plan.grid

  symbol_at_lem : (i : ℕ) → i < 16 → at s' i ≡ residue (at s i)
  symbol_at_lem i l = rw es (row_at (λ j. residue (at s j)) i l)

  doubt-at : (i : ℕ) → i < 16 → at u' i ≡ at u i
  doubt-at i l = rw eu (row_at (at u) i l)

  positive : 0 < modulus P
  positive = omega (arith, t.photo.sound.prime.least)

  symbols-below : (i : ℕ) → i < 16 → at s' i < modulus P
  symbols-below i l = rw (symbol_at_lem i l) (residue-below positive (known (dec_lt i (rows P))))
    where
      known : Dec (i < rows P) → (at s i < modulus P) ⊎ (at s i ≡ unread)
      known (yes k) = t.photo.symbol i k
      known (no k) = inl (rw (beyond s i (omega (arith, t.photo.symbols))) positive)

  symbols-length : length s' ≡ 16
  symbols-length = rw es (length-tab 16 _)

  pub strip_received : Received (axis_of g) s' u'
  strip_received = let h = g.fit in record {
    axis = record {
      prime = h.prime;
      points = h.row_points;
      apart = h.rows_apart;
      most = h.rows;
      low = h.low;
      full = omega (arith, h.full);
    };
    symbols = simp says.modulus (row_of positive symbols-length symbols-below);
    doubts = simp (says.rows, says.full) λ j l. rw (doubt-at j (omega (arith, t.photo.sound.tall.most))) (t.photo.doubt j l).0;
  }

  loaded : (c : ℕ) → c < rows P → Loaded (full P) (at s c) (at u c) (at s' c) (at u' c)
  loaded c l = let k : c < 16 = omega (arith, t.photo.sound.tall.most) in
      rw (symbol_at_lem c k, doubt-at c k) (residue_loaded (at s c) (at u c) (t.photo.doubt c l).1)

  points : (i : ℕ) → i < rows P → at g.x i ≡ row_point P i
  points i l = simp says.row_points (point_at says.sound 0 i l)

  answer : {r : Option Decoded} → StripDecoded (axis_of g) s' u' r →
      Strip (modulus P - 1) (full P) (rows P) (degree P) (at g.x) (at s') (at u') (found r) (at (message r)) (cost r)
  answer D = simp (says.modulus, says.full, says.rows, says.degree) at D.strip

  pub strip-refused : StripDecoded (axis_of g) s' u' None → Reads strip P s u B (refused 10) B
  strip-refused D = strip-none P s u B t.clear points loaded (answer D) refl

  module _ {d : Decoded} (D : StripDecoded (axis_of g) s' u' (Some d)) where
    pub strip-under : {R : ℕ} → R ≡ radius strip P → d.cost < R
    strip-under h = omega (arith, h, ((answer D).sound refl).1)

    module _ {W : List ℕ} (stored : W ≡ tab (length B) (at d.message)) where
      size_of : length W ≡ size strip P
      size_of = rw stored (length-tab (length B) (at d.message)) ∙ t.room

      word_at : (i : ℕ) → i < size strip P → at W i ≡ at d.message i
      word_at i l = rw stored (tab-at (length B) (at d.message) i (omega (arith, t.room)))

      word : IsRecord strip P W
      word = record { size = size_of; below = λ i l. rw (word_at i l) (simp says.modulus at (D.small.small i)) }

      coefficients : d.message ≡ row (at W)
      coefficients = tab-is 16 (at W) d.message D.small.size λ i l. elim (dec_lt i (size strip P)) [
        | yes m ↦ sym (word_at i m)
        | no m ↦ D.above i (omega (arith, says.degree, strip_size_lem P)) ∙ sym (beyond W i (omega (arith, size_of)))
      ]

      differing_of : {seen : List ℕ} {n : ℕ} → seen ≡ row (at s) → n ≡ hamming g.a (at seen) (at d.values) →
          n ≡ hamming (cells strip P) (at s) (value strip P W)
      differing_of e i = simp says.rows at i ∙ sum-eq (rows P) λ c l.
          ap₂ (λ a b. cond (eqb a b) 0 1) (rw e (row_at (at s) c (omega (arith, t.photo.sound.tall.most))))
          (strip-values says W coefficients (D.values refl) c l)

      pub strip-reading : {seen : List ℕ} {n R : ℕ} → seen ≡ row (at s) → n ≡ hamming g.a (at seen) (at d.values) →
          R ≡ radius strip P → (unread_in s ≤ n) × Reads strip P s u B (summary R d.cost n s) W
      strip-reading e i h =
          let paid = strip-cost P s u B t.clear points loaded (answer D) refl W word word_at in
          let differing = differing_of e i in (
            unread-within W t.photo differing,
            rw (h, summary-is W t.photo differing refl paid)
                (strip-found P s u B t.clear points loaded (answer D) refl W word word_at),
          )
