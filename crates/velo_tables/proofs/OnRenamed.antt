-- Tables whose steps are put by their heirs.
use Rattle.std.proofs.Common.{◌≡◌, ℕ, ◌+◌, ◌≤◌, List, [], ◌∷◌, Option, None, length, take, drop, get_or, map, refl, sym, ap, ◌∙◌, subst, arith}
use Rattle.std.specs.Prelude.{option_map}
use Rattle.std.proofs.Math.ListN.{get_or-map}
use Rattle.std.proofs.lemmas.List.{length-map, take-map, drop-map}
use Rattle.velo_events.specs.declared.event.Access.{Access}
use Rattle.velo_events.specs.declared.event.Access.TheVariants.{Shared, Exclusive}
use Rattle.velo_events.specs.Event.{thread_of, access_of}
use Rattle.velo_events.specs.Place.{Place, LastOf, LastWrite, LastRead}
use Rattle.velo_arena.specs.declared.step.Step.{Step}
use Rattle.velo_arena.specs.declared.step.Heir.{Heir}
use Rattle.velo_arena.specs.Heirs.{renamed}
use Rattle.velo_tables.specs.declared.cells.ReadSpan.{ReadSpan}
use Rattle.velo_tables.specs.declared.cells.CellAccesses.{CellAccesses}
use Rattle.velo_tables.specs.Readers.{AreReaders}
use Rattle.velo_tables.specs.Cells.{reads_in, accesses_in, blank_cell, place_of, AreApart, AreReadsLaidOut}
use Rattle.velo_tables.specs.LastAccesses.{Accesses, LastAccesses, no_accesses, accesses_of, entry, HasRoomBeside, IsRenamed}
use Rattle.velo_tables.specs.Recorded.{with_write_by, with_heirs, kept_by}

module _ (heirs : List (Option Heir)) where
  abbrev by_heir : Option Step → Option Step
  by_heir = option_map (renamed heirs)

  -- ---- the cells, where the last reads of all stand in one list

  pub reads_in-by : (entries : List (Option Step)) (v : ReadSpan) → reads_in (map by_heir entries) v ≡ map by_heir (reads_in entries v)
  reads_in-by entries v = ap (take v.count) (drop-map by_heir v.start entries) ∙ take-map by_heir v.count (drop v.start entries)

  cell-by : (cells : List CellAccesses) (i : ℕ) → get_or (map (with_write_by heirs) cells) i blank_cell ≡ with_write_by heirs (get_or cells i blank_cell)
  cell-by cells i = get_or-map (with_write_by heirs) cells i blank_cell

  AreReaders-by : (readers : ℕ) (reads : List (Option Step)) → AreReaders readers reads → AreReaders readers (map by_heir reads)
  AreReaders-by readers reads are = record {
    few = omega (arith, are.few, length-map reads by_heir);
    covers = λ t down. get_or-map by_heir reads t None ∙ ap by_heir (are.covers t down);
  }

  pub laid-by : (entries : List (Option Step)) (cells : List CellAccesses) → AreReadsLaidOut entries cells → AreReadsLaidOut (map by_heir entries) (map (with_write_by heirs) cells)
  laid-by entries cells laid = record {
    within = λ i. subst (λ (v : CellAccesses). v.reads.start + v.reads.count ≤ length (map by_heir entries)) (sym (cell-by cells i)) (omega (arith, laid.within i, length-map entries by_heir));
    apart = λ i j off. subst (λ (v : CellAccesses). AreApart v.reads (place_of (map (with_write_by heirs) cells) j)) (sym (cell-by cells i))
        (subst (λ (v : CellAccesses). AreApart (place_of cells i) v.reads) (sym (cell-by cells j)) (laid.apart i j off));
    readers = λ i. subst (λ (v : CellAccesses). AreReaders v.readers (reads_in (map by_heir entries) v.reads)) (sym (cell-by cells i))
        (subst (AreReaders (get_or cells i blank_cell).readers) (sym (reads_in-by entries (place_of cells i))) (AreReaders-by (get_or cells i blank_cell).readers (reads_in entries (place_of cells i)) (laid.readers i)));
  }

  accesses_in-by : (entries : List (Option Step)) (v : CellAccesses) → accesses_in (map by_heir entries) (with_write_by heirs v) ≡ with_heirs heirs (accesses_in entries v)
  accesses_in-by entries v = ap (λ reads. record { write = by_heir v.write; reads = reads }) (reads_in-by entries v.reads)

  pub accesses-by : (entries : List (Option Step)) (cells : List CellAccesses) → map (accesses_in (map by_heir entries)) (map (with_write_by heirs) cells) ≡ map (with_heirs heirs) (map (accesses_in entries) cells)
  accesses-by entries [] = refl
  accesses-by entries (v ∷ cells) = ap (λ (a : Accesses). a ∷ map (accesses_in (map by_heir entries)) (map (with_write_by heirs) cells)) (accesses_in-by entries v) ∙ ap (λ (rest : List Accesses). with_heirs heirs (accesses_in entries v) ∷ rest) (accesses-by entries cells)

  -- the same of equal lists
  module _ (entries entries' : List (Option Step)) (cells cells' : List CellAccesses) (lists : List Accesses) (entries_are : entries' ≡ map by_heir entries) (cells_are : cells' ≡ map (with_write_by heirs) cells) where
    pub laid-as : AreReadsLaidOut entries cells → AreReadsLaidOut entries' cells'
    laid-as laid =
        subst (λ (es : List (Option Step)). AreReadsLaidOut es cells') (sym entries_are) (subst (λ (cs : List CellAccesses). AreReadsLaidOut (map by_heir entries) cs) (sym cells_are) (laid-by entries cells laid))

    pub accesses-as : map (accesses_in entries) cells ≡ lists → map (accesses_in entries') cells' ≡ map (with_heirs heirs) lists
    accesses-as view =
        ap (λ (es : List (Option Step)). map (accesses_in es) cells') entries_are
        ∙ ap (map (accesses_in (map by_heir entries))) cells_are
        ∙ accesses-by entries cells
        ∙ ap (map (with_heirs heirs)) view

  -- ---- place by place

  accesses_of-by : (kept : LastAccesses) (x : ℕ) → accesses_of (kept_by heirs kept) x ≡ with_heirs heirs (accesses_of kept x)
  accesses_of-by kept x = get_or-map (with_heirs heirs) kept.cells x no_accesses

  entry-by : (kept : LastAccesses) (p : Place) → entry (kept_by heirs kept) p ≡ by_heir (entry kept p)
  entry-by kept (LastOf t) = get_or-map by_heir kept.threads t None
  entry-by kept (LastWrite x) = ap (λ (a : Accesses). a.write) (accesses_of-by kept x)
  entry-by kept (LastRead x t) = ap (λ (a : Accesses). get_or a.reads t None) (accesses_of-by kept x) ∙ get_or-map by_heir (accesses_of kept x).reads t None

  count-by : (kept : LastAccesses) (x : ℕ) → length (accesses_of (kept_by heirs kept) x).reads ≡ length (accesses_of kept x).reads
  count-by kept x = ap (λ (a : Accesses). length a.reads) (accesses_of-by kept x) ∙ length-map (accesses_of kept x).reads by_heir

  beside-by : (kept : LastAccesses) (t : ℕ) (a : Access) → HasRoomBeside kept t a → HasRoomBeside (kept_by heirs kept) t a
  beside-by kept t (Shared c) room = (omega (arith, room.0, length-map kept.cells (with_heirs heirs)), omega (arith, room.1, count-by kept c.0))
  beside-by kept t (Exclusive c) room = omega (arith, room, length-map kept.cells (with_heirs heirs))
  beside-by kept t (Access.Fork u) room = omega (arith, room, length-map kept.threads by_heir)
  beside-by kept t _ room = tt

  pub IsRenamed-by : (kept : LastAccesses) → IsRenamed kept heirs (kept_by heirs kept)
  IsRenamed-by kept = record {
    each = entry-by kept;
    room = λ e room. record { own = omega (arith, room.own, length-map kept.threads by_heir); beside = beside-by kept (thread_of e) (access_of e.kind) room.beside };
  }
