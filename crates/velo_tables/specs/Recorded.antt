-- What a recorded event leaves in the tables, list by list. Private contracts cite these words: public ones say it place by place.
use Rattle.std.specs.Prelude.{ℕ, List, Option, None, map, option_map, slice_set}
use Rattle.velo_arena.specs.declared.step.Step.{Step}
use Rattle.velo_arena.specs.declared.step.Heir.{Heir}
use Rattle.velo_arena.specs.Heirs.{renamed}
use Rattle.velo_events.specs.declared.event.Event.{Event}
use Rattle.velo_events.specs.declared.event.Access.{Access}
use Rattle.velo_events.specs.declared.event.Access.TheVariants.{Shared, Exclusive}
use Rattle.velo_events.specs.Event.{thread_of, access_of}
use Rattle.velo_events.specs.Growth.{filled_up}
use Rattle.velo_tables.specs.declared.cells.CellAccesses.{CellAccesses}
use Rattle.velo_tables.specs.LastAccesses.{LastAccesses, Accesses, accesses_of}

abbrev pub with_write : Accesses → Option Step → Accesses
with_write accesses step = record { write = step; reads = accesses.reads }

abbrev pub with_read : Accesses → ℕ → Option Step → Accesses
with_read accesses t step = record { write = accesses.write; reads = slice_set accesses.reads t step }

-- with room for the reads of n threads
abbrev pub with_reads_of : ℕ → Accesses → Accesses
with_reads_of n accesses = record { write = accesses.write; reads = filled_up None n accesses.reads }

abbrev pub with_thread : LastAccesses → ℕ → Option Step → LastAccesses
with_thread kept t step = record { threads = slice_set kept.threads t step; cells = kept.cells }

abbrev pub with_cell : LastAccesses → ℕ → Accesses → LastAccesses
with_cell kept c accesses = record { threads = kept.threads; cells = slice_set kept.cells c accesses }

-- after what the operation of thread t records beside the last event of t
abbrev pub kept_after_beside : LastAccesses → ℕ → Access → Option Step → LastAccesses
kept_after_beside kept t (Shared c) step = with_cell kept c.0 (with_read (accesses_of kept c.0) t step)
kept_after_beside kept t (Exclusive c) step = with_cell kept c.0 (with_write (accesses_of kept c.0) step)
kept_after_beside kept t (Access.Fork u) step = with_thread kept u.0 step
kept_after_beside kept t _ step = kept

unfoldable pub kept_after : LastAccesses → Event → Option Step → LastAccesses
kept_after kept e step = kept_after_beside (with_thread kept (thread_of e) step) (thread_of e) (access_of e.kind) step

-- a cell with the step of its last write by its heir
abbrev pub with_write_by : List (Option Heir) → CellAccesses → CellAccesses
with_write_by heirs cell = record { write = option_map (renamed heirs) cell.write; readers = cell.readers; reads = cell.reads }

-- the accesses of a cell with each step by its heir
abbrev pub with_heirs : List (Option Heir) → Accesses → Accesses
with_heirs heirs accesses = record { write = option_map (renamed heirs) accesses.write; reads = map (option_map (renamed heirs)) accesses.reads }

abbrev pub kept_by : List (Option Heir) → LastAccesses → LastAccesses
kept_by heirs kept = record { threads = map (option_map (renamed heirs)) kept.threads; cells = map (with_heirs heirs) kept.cells }
