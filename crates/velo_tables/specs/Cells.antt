-- The last accesses of each cell, where the last reads of all stand in one list. Private contracts cite these words.
use Rattle.std.specs.Prelude.{◌≡◌, ℕ, ◌+◌, ◌≤◌, ◌⊎◌, List, Option, None, length, take, drop, slice_index_or}
use Rattle.velo_arena.specs.declared.step.Step.{Step}
use Rattle.velo_tables.specs.declared.cells.ReadSpan.{ReadSpan}
use Rattle.velo_tables.specs.declared.cells.CellAccesses.{CellAccesses}
use Rattle.velo_tables.specs.Readers.{AreReaders}
use Rattle.velo_tables.specs.LastAccesses.{Accesses}

-- the reads that stand there
abbrev pub reads_in : List (Option Step) → ReadSpan → List (Option Step)
reads_in entries reads = take reads.count (drop reads.start entries)

abbrev pub accesses_in : List (Option Step) → CellAccesses → Accesses
accesses_in entries cell = record { write = cell.write; reads = reads_in entries cell.reads }

abbrev pub blank_cell : CellAccesses
blank_cell = record { write = None; readers = 0; reads = record { start = 0; count = 0 } }

-- no read is one of both
abbrev pub AreApart : ReadSpan → ReadSpan → Type 0
AreApart v w = (v.start + v.count ≤ w.start) ⊎ (w.start + w.count ≤ v.start)

abbrev pub place_of : List CellAccesses → ℕ → ReadSpan
place_of cells i = (slice_index_or cells i blank_cell).reads

-- the reads of each cell are among those of all, none is one of two, and each that has a step has its bit
pub record AreReadsLaidOut (entries : List (Option Step)) (cells : List CellAccesses) : Type 0 where
  pub within : (i : ℕ) → (place_of cells i).start + (place_of cells i).count ≤ length entries
  pub apart : (i j : ℕ) → ¬ (i ≡ j) → AreApart (place_of cells i) (place_of cells j)
  pub readers : (i : ℕ) → AreReaders (slice_index_or cells i blank_cell).readers (reads_in entries (place_of cells i))
