-- `traymark::photographs::read_by` meets its contract: the combination is checked and read as any photograph. Assumes nothing.
use mathlib.Core.Path.{◌≡◌, refl, ap, ap₂, ◌∙◌}
use mathlib.Core.List.{List}
use Prim.Native.Nat.{ℕ}
use native.Mathlib.Omega.{arith}
use Rattle.bounded.specs.Bounded.{tab}
use Rattle.votes.specs.Votes.{symbol_of, doubt_of}
use Rattle.definitions.specs.declared.Reading.{Reading}
use Rattle.definitions.specs.Code.{oblong, cells}
use Rattle.definitions.specs.Cost.{full}
use Rattle.definitions.specs.Reads.{Reads}
use Rattle.definitions.specs.Sets.{set_plan, column, combined_symbols, combined_doubts}
use Rattle.definitions.proofs.Numbers.{number-some}
use Rattle.definitions.proofs.Sound.{cells-most}
use Rattle.plan.specs.Says.{bytes_of}
use Rattle.plan.specs.declared.season.Plan.{Plan}
use Rattle.plan.proofs.Said.{says}
use Rattle.traymark.proofs.Answer.{read-refuses, read_takes, handed_reading}
use Rattle.traymark.proofs.photographs.read_by.Goals as goal

-- a reading of what the buffers hold, once the cells are combined, is that of the combination
of_set : (S B : List ℕ) (plan : Plan) → bytes_of plan ≡ set_plan S → {n : ℕ} {s u : List ℕ} →
    s ≡ tab n (λ c. symbol_of (column S c) 9) → u ≡ tab n (λ c. doubt_of plan.grid.full (column S c) 9) →
    n ≡ cells oblong (set_plan S) → (r : Reading) (b : List ℕ) → Reads oblong (bytes_of plan) s u B r b →
    Reads oblong (set_plan S) (combined_symbols S) (combined_doubts S) B r b
unfolding combined_symbols combined_doubts
of_set S B plan own {n} {s} {u} e f l r b h =
    let symbols_are : s ≡ combined_symbols S = e ∙ ap (λ n. tab n λ c. symbol_of (column S c) 9) l in
    let full_is = (says plan).full ∙ ap full own in
    let doubts_are : u ≡ combined_doubts S = f ∙ ap₂ (λ n f. tab n λ c. doubt_of f (column S c) 9) l full_is in
    rw (own, symbols_are, doubts_are) at h

pub cells-requires : goal.cells-requires
cells-requires c =
    let (own, size, whole, same) = c.requires in
    let cell_count = rw (← own) at whole in
    (size, omega (arith, cell_count, cells-most oblong c.args.plan.sound), omega (arith, same))

pub returns-in_err-photograph : goal.returns-in_err-photograph
returns-in_err-photograph c =
    let (own, size, whole, same) = c.requires in
    let read = read-refuses _ _ _ _ _ c.in_err-photograph.ensures (number-some _) in
    let h = of_set _ _ c.args.plan own c.cells.ensures.symbols c.cells.ensures.doubts (omega (arith, whole, same)) _ _ read in
    record { reading = handed_reading _ _ c.from_residual.ensures.1 ∙ h.reading; bytes = h.buffer }

pub read-requires : goal.read-requires
read-requires c = read_takes _ _ _ _ _ c.in_ok-photograph.ensures refl

pub returns : goal.returns
returns c =
    let (own, size, whole, same) = c.requires in
    let h = of_set _ _ c.args.plan own c.cells.ensures.symbols c.cells.ensures.doubts (omega (arith, whole, same)) _ _
    c.read.ensures.reads in
    record { reading = h.reading; bytes = h.buffer }
