-- What stations rely on when they mask marks (document 02, request 9), as statements over the definitions. The crate `traymark`
-- proves them.
--
--   Added C P Q s s'        the mark of Q is added modulo p to all read cells of s, and unread cells are unchanged: that is s'
--   plus, less C P F Q      the record F plus Q, and less Q, coefficient by coefficient modulo p
--   MaskedReads C P Q s s' u B B'
--                           the photographs s and s' have the same doubts u. Reading s' into B' gives the numbers of reading s
--                           into B, and the record plus Q; 10 stays 10, and there is no other number
--   MaskLengths C P Q s     Q is as long as a record of the plan, and s has a symbol for each cell
--   MaskExactly C P Q s     under a sound plan masking and unmasking give 6 where a length is wrong, else 7 where a symbol is,
--                           else 9 where Q is no record of the plan, else 0
--   Masked C P Q s          what an accepted call leaves: after masking, s with the mark of Q added; after unmasking, what gives
--                           s when the mark of Q is added; either way symbols of the plan, one for each cell
--   Undone C P Q s          unmasking what was masked gives the bytes s back, masking what was unmasked too, and both calls have
--                           one number
--
-- What this file is for: a masked mark is read as well as an unmasked one, and nothing is lost by masking.
use Rattle.std.specs.Prelude.{◌≡◌, List, ◌≢◌, ◌⊎◌, ℕ, ◌+◌, ◌-◌, ◌%◌, ◌<◌, length}
use Rattle.bounded.specs.Bounded.{at, tab}
use Rattle.definitions.specs.Plan.{modulus}
use Rattle.definitions.specs.Code.{Code, size, cells, mark, IsRecord}
use Rattle.definitions.specs.Calls.{read_number, read_reading, read_buffer}
use Rattle.definitions.specs.Photograph.{SymbolsFit}
use Rattle.definitions.specs.Masking.{Way, on, off, mask_number, mask_buffer}

pub record Added (C : Code) (P Q s s' : List ℕ) : Type 0 where
  pub whole : length s' ≡ cells C P
  pub read : (c : ℕ) → c < cells C P → at s c ≢ 255 → at s' c ≡ (at s c + at (mark C P Q) c) % modulus P
  pub unread : (c : ℕ) → c < cells C P → at s c ≡ 255 → at s' c ≡ 255

abbrev pub plus : Code → (P F Q : List ℕ) → List ℕ
plus C P F Q = tab (size C P) λ k. (at F k + at Q k) % modulus P

abbrev pub less : Code → (P F Q : List ℕ) → List ℕ
less C P F Q = tab (size C P) λ k. (at F k + (modulus P - at Q k)) % modulus P

pub record MaskedReads (C : Code) (P Q s s' u B B' : List ℕ) : Type 0 where
  -- no other number can arise
  pub numbers : (read_number C P s u B ≡ 0) ⊎ (read_number C P s u B ≡ 10)
  pub number : read_number C P s' u B' ≡ read_number C P s u B
  -- the number again, the cost, the margin, the changed and the unread count, and the class
  pub reading : read_reading C P s' u B' ≡ read_reading C P s u B
  -- the former record plus Q; so that one is the record of the masked photograph less Q
  pub sum : read_number C P s u B ≡ 0 → read_buffer C P s' u B' ≡ plus C P (read_buffer C P s u B) Q
  pub difference : read_number C P s u B ≡ 0 → read_buffer C P s u B ≡ less C P (read_buffer C P s' u B') Q
  -- 10 stays 10, and then both buffers are as they were
  pub none : read_number C P s u B ≡ 10 → (read_buffer C P s u B ≡ B) × (read_buffer C P s' u B' ≡ B')

abbrev pub MaskLengths : Code → (P Q s : List ℕ) → Type 0
MaskLengths C P Q s = (length Q ≡ size C P) × (length s ≡ cells C P)

-- each where no row before it is broken
pub record MaskExactly (C : Code) (P Q s : List ℕ) : Type 0 where
  pub six : ¬ (MaskLengths C P Q s) → mask_number C P Q s ≡ 6
  pub seven : MaskLengths C P Q s → ¬ (SymbolsFit C P s) → mask_number C P Q s ≡ 7
  pub nine : MaskLengths C P Q s → SymbolsFit C P s → ¬ (IsRecord C P Q) → mask_number C P Q s ≡ 9
  pub zero : MaskLengths C P Q s → SymbolsFit C P s → IsRecord C P Q → mask_number C P Q s ≡ 0

pub record Masked (C : Code) (P Q s : List ℕ) : Type 0 where
  pub added : Added C P Q s (mask_buffer on C P Q s)
  pub taken : Added C P Q (mask_buffer off C P Q s) s
  pub whole : (W : Way) → length (mask_buffer W C P Q s) ≡ cells C P
  pub symbols : (W : Way) → SymbolsFit C P (mask_buffer W C P Q s)

-- whatever the bytes are: of refused ones nothing is changed, and the second call refuses them too
pub record Undone (C : Code) (P Q s : List ℕ) : Type 0 where
  pub masked : mask_buffer off C P Q (mask_buffer on C P Q s) ≡ s
  pub unmasked : mask_buffer on C P Q (mask_buffer off C P Q s) ≡ s
  pub number : (W : Way) → mask_number C P Q (mask_buffer W C P Q s) ≡ mask_number C P Q s
