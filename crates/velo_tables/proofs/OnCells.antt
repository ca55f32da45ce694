-- The last accesses of each cell, where the last reads of all stand in one list: what becomes of them where one changes.
use Rattle.std.proofs.Common.{◌≡◌, ltb, ℕ, zero, suc, ◌+◌, ◌-◌, ◌<◌, ◌≤◌, List, ◌∷◌, ◌++◌, Option, None, length, take, drop, get_or, map, refl, sym, ap, ◌∙◌, subst, arith, length-append, length-drop, ⊎_elim, inl, inr}
use Rattle.std.specs.Prelude.{replicate, slice_range, IsTrue, ◌↔◌}
use Rattle.std.proofs.Math.ListN.{set, get_or-map}
use Rattle.std.proofs.Math.Seq.{take-set-lt}
use Rattle.std.proofs.lemmas.Bool.{cases_eq, cases_lt, ltb-true, lt-ltb}
use Rattle.std.proofs.lemmas.List.{ext_get_or, get_or-set_same, get_or-set_other, get_or_default, length-map, length-set, length-take-le, take-append-le, drop-append-le, drop_at, take_all, take-set-le, drop-set-lt, drop-set-add, set_past, set-get_or, map-append, append_assoc}
use Rattle.velo_arena.specs.declared.step.Step.{Step}
use Rattle.velo_tables.specs.declared.cells.ReadSpan.{ReadSpan}
use Rattle.velo_tables.specs.declared.cells.CellAccesses.{CellAccesses}
use Rattle.velo_events.specs.Growth.{filled_up}
use Rattle.velo_tables.specs.Readers.{AreReaders}
use Rattle.velo_tables.specs.LastAccesses.{Accesses, no_accesses}
use Rattle.velo_tables.specs.Recorded.{with_write, with_read, with_reads_of}
use Rattle.velo_tables.specs.Cells.{reads_in, accesses_in, blank_cell, AreApart, place_of, AreReadsLaidOut}
use Rattle.velo_events.proofs.OnFilling.{get_or-filled_up, length-filled_up, filled_up-long}
use Rattle.velo_tables.proofs.OnReaders.{AreReaders-filled_up}

abbrev Entries : Type 0
Entries = List (Option Step)

-- ---- the reads of one cell

abbrev Fits : Entries → ReadSpan → Type 0
Fits entries v = v.start + v.count ≤ length entries

pub length-reads_in : (entries : Entries) (v : ReadSpan) → Fits entries v → length (reads_in entries v) ≡ v.count
length-reads_in entries v fits = length-take-le v.count (drop v.start entries) (omega (arith, fits, length-drop v.start entries))

-- more behind change nothing
pub reads_in-append : (entries more : Entries) (v : ReadSpan) → Fits entries v → reads_in (entries ++ more) v ≡ reads_in entries v
reads_in-append entries more v fits =
    ap (take v.count) (drop-append-le v.start entries more (omega (arith, fits)))
    ∙ take-append-le v.count (drop v.start entries) more (omega (arith, fits, length-drop v.start entries))

pub length-longer : (entries : Entries) (v : ReadSpan) (count : ℕ) → Fits entries v → v.count ≤ count → length (filled_up None count (reads_in entries v)) ≡ count
length-longer entries v count fits longer = omega (arith, length-filled_up None count (reads_in entries v), length-reads_in entries v fits, longer)

-- they are appended once more, and then blanks
pub longer-appended : (entries more : Entries) (len : ℕ) (v : ReadSpan) (count end : ℕ) → Fits entries v → v.count ≤ count → end ≡ length entries + count → len ≡ length more → more ≡ entries ++ slice_range entries v.start (v.start + v.count)
    → take end more ++ replicate (end - len) None ≡ entries ++ filled_up None count (reads_in entries v)
unfolding filled_up
longer-appended entries more len v count end fits longer end_is len_is more_is =
    let old = reads_in entries v in
    let all : more ≡ entries ++ old = more_is ∙ ap (λ k. entries ++ take k (drop v.start entries)) (let e : v.start + v.count - v.start ≡ v.count = omega arith in e) in
    let whole : length more ≡ length entries + length old = ap length all ∙ length-append entries old in
    let left : end - len ≡ count - length old = omega (arith, whole, end_is, len_is) in
    ap (λ ns. ns ++ replicate (end - len) None) (take_all end more (omega (arith, whole, length-reads_in entries v fits, longer, end_is)))
    ∙ (ap (λ k. more ++ replicate k None) left
    ∙ (ap (λ ns. ns ++ replicate (count - length old) None) all
    ∙ append_assoc entries old (replicate (count - length old) None)))

-- one of its own is written
pub reads_in-set : (entries : Entries) (v : ReadSpan) (t : ℕ) (step : Option Step) → t < v.count → reads_in (set entries (v.start + t) step) v ≡ set (reads_in entries v) t step
reads_in-set entries v t step inside = ap (take v.count) (drop-set-add v.start entries t step) ∙ take-set-lt v.count (drop v.start entries) t step inside

-- one of another cell is written
pub reads_in-set_other : (entries : Entries) (v w : ReadSpan) (t : ℕ) (step : Option Step) → t < v.count → AreApart v w → reads_in (set entries (v.start + t) step) w ≡ reads_in entries w
reads_in-set_other entries v w t step inside apart =
    ⊎_elim
    (λ before. ap (take w.count) (drop-set-lt w.start entries (v.start + t) step (omega (arith, before, inside))))
    (λ behind.
    let beyond : v.start + t ≡ w.start + (v.start + t - w.start) = omega (arith, behind) in
    ap (λ k. take w.count (drop w.start (set entries k step))) beyond
    ∙ (ap (take w.count) (drop-set-add w.start entries (v.start + t - w.start) step)
    ∙ take-set-le w.count (drop w.start entries) (v.start + t - w.start) step (omega (arith, behind))))
    apart

-- ---- one cell is replaced

AreApart-sym : (v w : ReadSpan) → AreApart v w → AreApart w v
AreApart-sym v w apart = ⊎_elim (λ before. inr before) (λ behind. inl behind) apart

pub get_or-accesses : (entries : Entries) (cells : List CellAccesses) (i : ℕ) → get_or (map (accesses_in entries) cells) i no_accesses ≡ accesses_in entries (get_or cells i blank_cell)
get_or-accesses entries cells i = get_or-map (accesses_in entries) cells i blank_cell

-- nothing is changed in the reads of the others, and the new one is laid out like them
pub record Replaces (entries : Entries) (cells : List CellAccesses) (x : ℕ) (new : CellAccesses) (after : Entries) : Type 0 where
  pub there : x < length cells
  pub longer : length entries ≤ length after
  pub others : (j : ℕ) → ¬ (x ≡ j) → reads_in after (place_of cells j) ≡ reads_in entries (place_of cells j)
  pub fits : Fits after new.reads
  pub apart : (j : ℕ) → ¬ (x ≡ j) → AreApart new.reads (place_of cells j)
  pub readers : AreReaders new.readers (reads_in after new.reads)

module _ (entries : Entries) (cells : List CellAccesses) (x : ℕ) (new : CellAccesses) (after : Entries) (replaces : Replaces entries cells x new after) where
  abbrev replaced : List CellAccesses
  replaced = set cells x new

  here : get_or replaced x blank_cell ≡ new
  here = get_or-set_same cells x new blank_cell replaces.there

  other : (j : ℕ) → ¬ (x ≡ j) → get_or replaced j blank_cell ≡ get_or cells j blank_cell
  other j off = get_or-set_other cells x j new blank_cell (λ e. off (sym e))

  abbrev accesses_after : List Accesses
  accesses_after = set (map (accesses_in entries) cells) x (accesses_in after new)

  each-access : (j : ℕ) → get_or (map (accesses_in after) replaced) j no_accesses ≡ get_or accesses_after j no_accesses
  each-access j = get_or-accesses after replaced j ∙ ⊎_elim
      (λ at. subst (λ k. accesses_in after (get_or replaced k blank_cell) ≡ get_or accesses_after k no_accesses) at
      (ap (accesses_in after) here ∙ sym (get_or-set_same (map (accesses_in entries) cells) x (accesses_in after new) no_accesses (omega (arith, replaces.there, length-map cells (accesses_in entries))))))
      (λ off. ap (accesses_in after) (other j off)
      ∙ (ap (λ reads. accesses (get_or cells j blank_cell).write reads) (replaces.others j off)
      ∙ (sym (get_or-accesses entries cells j) ∙ sym (get_or-set_other (map (accesses_in entries) cells) x j (accesses_in after new) no_accesses (λ e. off (sym e))))))
      (cases_eq x j)
    where
      accesses : Option Step → Entries → Accesses
      accesses write reads = record { write = write; reads = reads }

  pub accesses-replaced : map (accesses_in after) replaced ≡ accesses_after
  accesses-replaced = ext_get_or no_accesses (map (accesses_in after) replaced) accesses_after
      (omega (arith, length-map replaced (accesses_in after), length-set cells x new, length-map cells (accesses_in entries), length-set (map (accesses_in entries) cells) x (accesses_in after new))) (λ j l. each-access j)

  module _ (laid : AreReadsLaidOut entries cells) where
    within-replaced : (j : ℕ) → Fits after (place_of replaced j)
    within-replaced j = ⊎_elim
        (λ at. subst (λ k. Fits after (place_of replaced k)) at (subst (λ (v : CellAccesses). Fits after v.reads) (sym here) replaces.fits))
        (λ off. subst (λ (v : CellAccesses). Fits after v.reads) (sym (other j off)) (omega (arith, laid.within j, replaces.longer)))
        (cases_eq x j)

    apart-replaced : (j k : ℕ) → ¬ (j ≡ k) → AreApart (place_of replaced j) (place_of replaced k)
    apart-replaced j k off = ⊎_elim
        (λ at. subst (λ m. AreApart (place_of replaced m) (place_of replaced k)) at
        (subst (λ (v : CellAccesses). AreApart v.reads (place_of replaced k)) (sym here)
        (subst (λ (v : CellAccesses). AreApart new.reads v.reads) (sym (other k (λ e. off (sym at ∙ e)))) (replaces.apart k (λ e. off (sym at ∙ e))))))
        (λ j_off. subst (λ (v : CellAccesses). AreApart v.reads (place_of replaced k)) (sym (other j j_off))
        (⊎_elim
        (λ at. subst (λ m. AreApart (place_of cells j) (place_of replaced m)) at
        (subst (λ (v : CellAccesses). AreApart (place_of cells j) v.reads) (sym here) (AreApart-sym new.reads (place_of cells j) (replaces.apart j j_off))))
        (λ k_off. subst (λ (v : CellAccesses). AreApart (place_of cells j) v.reads) (sym (other k k_off)) (laid.apart j k off))
        (cases_eq x k)))
        (cases_eq x j)

    readers-replaced : (j : ℕ) → AreReaders (get_or replaced j blank_cell).readers (reads_in after (place_of replaced j))
    readers-replaced j = ⊎_elim
        (λ at. subst (λ k. AreReaders (get_or replaced k blank_cell).readers (reads_in after (place_of replaced k))) at
        (subst (λ (v : CellAccesses). AreReaders v.readers (reads_in after v.reads)) (sym here) replaces.readers))
        (λ off. subst (λ (v : CellAccesses). AreReaders v.readers (reads_in after v.reads)) (sym (other j off))
        (subst (AreReaders (get_or cells j blank_cell).readers) (sym (replaces.others j off)) (laid.readers j)))
        (cases_eq x j)

    pub laid-replaced : AreReadsLaidOut after replaced
    laid-replaced = record { within = within-replaced; apart = apart-replaced; readers = readers-replaced }

-- ---- what the calls do, by place

abbrev written : CellAccesses → Option Step → CellAccesses
written v step = record { write = step; readers = v.readers; reads = v.reads }

abbrev with_readers : CellAccesses → ℕ → CellAccesses
with_readers v readers = record { write = v.write; readers = readers; reads = v.reads }

abbrev moved : ℕ → ℕ → CellAccesses → CellAccesses
moved start count v = record { write = v.write; readers = v.readers; reads = record { start = start; count = count } }

abbrev with_reads_in : Option Step → Entries → Accesses
with_reads_in write reads = record { write = write; reads = reads }

module _ (entries : Entries) (cells : List CellAccesses) (laid : AreReadsLaidOut entries cells) (x : ℕ) (there : x < length cells) where
  abbrev old : CellAccesses
  old = get_or cells x blank_cell

  -- a write is recorded
  Replaces-write : (step : Option Step) → Replaces entries cells x (written old step) entries
  Replaces-write step = record { there = there; longer = omega arith; others = λ j off. refl; fits = laid.within x; apart = λ j off. laid.apart x j off; readers = laid.readers x }

  -- a read is recorded, or forgotten
  Replaces-read : (t readers : ℕ) (step : Option Step) → t < old.reads.count → AreReaders readers (set (reads_in entries old.reads) t step) → Replaces entries cells x (with_readers old readers) (set entries (old.reads.start + t) step)
  Replaces-read t readers step inside are = record {
    there = there;
    longer = omega (arith, length-set entries (old.reads.start + t) step);
    others = λ j off. reads_in-set_other entries old.reads (place_of cells j) t step inside (laid.apart x j off);
    fits = omega (arith, laid.within x, length-set entries (old.reads.start + t) step);
    apart = λ j off. laid.apart x j off;
    readers = subst (AreReaders readers) (sym (reads_in-set entries old.reads t step inside)) are;
  }

  -- room for more reads is made
  module _ (count : ℕ) (longer : old.reads.count ≤ count) (few : count ≤ 64) where
    abbrev more : Entries
    more = entries ++ filled_up None count (reads_in entries old.reads)

    long : length (filled_up None count (reads_in entries old.reads)) ≡ count
    long = length-longer entries old.reads count (laid.within x) longer

    long_more : length more ≡ length entries + count
    long_more = omega (arith, length-append entries (filled_up None count (reads_in entries old.reads)), long)

    reads_in-moved : reads_in more (moved (length entries) count old).reads ≡ filled_up None count (reads_in entries old.reads)
    reads_in-moved =
        ap (take count) (drop_at entries (filled_up None count (reads_in entries old.reads)) (length entries) refl)
        ∙ take_all count (filled_up None count (reads_in entries old.reads)) (omega (arith, long))

    Replaces-more : Replaces entries cells x (moved (length entries) count old) more
    Replaces-more = record {
      there = there;
      longer = omega (arith, long_more);
      others = λ j off. reads_in-append entries (filled_up None count (reads_in entries old.reads)) (place_of cells j) (laid.within j);
      fits = omega (arith, long_more);
      apart = λ j off. inr (laid.within j);
      readers = subst (AreReaders old.readers) (sym reads_in-moved) (AreReaders-filled_up old.readers count (reads_in entries old.reads) few (laid.readers x));
    }

-- ---- what the calls do, as callers see it

module _ (entries : Entries) (cells : List CellAccesses) (lists : List Accesses) (laid : AreReadsLaidOut entries cells) (view : map (accesses_in entries) cells ≡ lists) where
  pub same_count : length cells ≡ length lists
  same_count = sym (length-map cells (accesses_in entries)) ∙ ap length view

  -- what a test of a number against their count tells
  pub there-tells : (n count : ℕ) → count ≡ length cells → IsTrue (ltb n count) ↔ (n < length lists)
  there-tells n count is = (λ said. omega (arith, ltb-true n count said, is, same_count), λ h. lt-ltb n count (omega (arith, h, is, same_count)))

  pub accesses-are : (i : ℕ) → get_or lists i no_accesses ≡ accesses_in entries (get_or cells i blank_cell)
  accesses-are i = ap (λ ls. get_or ls i no_accesses) (sym view) ∙ get_or-accesses entries cells i

  pub count-is : (i : ℕ) → length (get_or lists i no_accesses).reads ≡ (place_of cells i).count
  count-is i = ap (λ (a : Accesses). length a.reads) (accesses-are i) ∙ length-reads_in entries (place_of cells i) (laid.within i)

  module _ (x : ℕ) (inside : x < length lists) where
    pub there : x < length cells
    there = omega (arith, inside, same_count)

    pub found-is : (v : CellAccesses) → v ≡ get_or cells x v → v ≡ get_or cells x blank_cell
    found-is v at = at ∙ get_or_default cells x v blank_cell there

    pub found-fits : (v : CellAccesses) → v ≡ get_or cells x v → Fits entries v.reads
    found-fits v at = subst (λ (u : CellAccesses). Fits entries u.reads) (sym (found-is v at)) (laid.within x)

    -- the part that a call gives of them
    pub part-is : (v : CellAccesses) (now : Entries) → v ≡ get_or cells x v → now ≡ entries → take (v.reads.start + v.reads.count - v.reads.start) (drop v.reads.start now) ≡ (get_or lists x no_accesses).reads
    part-is v now at same =
        ap (λ k. take k (drop v.reads.start now)) (counted v)
        ∙ (ap (λ es. reads_in es v.reads) same ∙ (ap (λ (u : CellAccesses). reads_in entries u.reads) (found-is v at) ∙ sym (ap (λ (a : Accesses). a.reads) (accesses-are x))))
      where
        counted : (u : CellAccesses) → u.reads.start + u.reads.count - u.reads.start ≡ u.reads.count
        counted u = omega arith

    pub part-fits : (v : CellAccesses) (now : Entries) → v ≡ get_or cells x v → now ≡ entries → v.reads.start + v.reads.count ≤ length now
    part-fits v now at same = omega (arith, found-fits v at, ap length same)

    -- what a test of a thread against their count tells
    pub room-tells : (v : CellAccesses) → v ≡ get_or cells x v → (t : ℕ) → IsTrue (ltb t v.reads.count) ↔ ((x < length lists) × (t < length (get_or lists x no_accesses).reads))
    room-tells v at t =
        let same : v.reads.count ≡ length (get_or lists x no_accesses).reads = omega (arith, count-is x, ap (λ (u : CellAccesses). u.reads.count) (found-is v at)) in
        (λ said. (inside, omega (arith, ltb-true t v.reads.count said, same)), λ h. lt-ltb t v.reads.count (omega (arith, h.1, same)))

    accesses-set : (new : CellAccesses) (after : Entries) (accesses : Accesses) → Replaces entries cells x new after → accesses_in after new ≡ accesses → map (accesses_in after) (set cells x new) ≡ set lists x accesses
    accesses-set new after accesses replaces same = accesses-replaced entries cells x new after replaces ∙ (ap (set (map (accesses_in entries) cells) x) same ∙ ap (λ ls. set ls x accesses) view)

    -- a write
    module _ (v : CellAccesses) (at : v ≡ get_or cells x v) where
      pub laid-written : (step : Option Step) → AreReadsLaidOut entries (set cells x (written v step))
      laid-written step =
          subst (λ w. AreReadsLaidOut entries (set cells x (written w step))) (sym (found-is v at))
          (laid-replaced entries cells x _ entries (Replaces-write entries cells laid x there step) laid)

      pub accesses-written : (step : Option Step) → map (accesses_in entries) (set cells x (written v step)) ≡ set lists x (with_write (get_or lists x no_accesses) step)
      accesses-written step =
          ap (λ w. map (accesses_in entries) (set cells x (written w step))) (found-is v at)
          ∙ accesses-set _ entries _ (Replaces-write entries cells laid x there step) (ap (λ (a : Accesses). with_write a step) (sym (accesses-are x)))

    -- a read
    module _ (v w : CellAccesses) (at : v ≡ get_or cells x v) (at_too : w ≡ get_or cells x w) (t readers : ℕ) (step new : Option Step) (is_new : new ≡ step) (within : t < length (get_or lists x no_accesses).reads)
        (are : AreReaders readers (set (get_or lists x no_accesses).reads t step)) where
      abbrev place : ReadSpan
      place = place_of cells x

      counted : t < place.count
      counted = omega (arith, within, count-is x)

      are_here : AreReaders readers (set (reads_in entries place) t new)
      are_here = subst (λ s. AreReaders readers (set (reads_in entries place) t s)) (sym is_new) (subst (λ (a : Accesses). AreReaders readers (set a.reads t step)) (accesses-are x) are)

      read_replaces : Replaces entries cells x (with_readers (get_or cells x blank_cell) readers) (set entries (place.start + t) new)
      read_replaces = Replaces-read entries cells laid x there t readers new counted are_here

      pub place-inside : v.reads.start + t < length entries
      place-inside = subst (λ (u : CellAccesses). u.reads.start + t < length entries) (sym (found-is v at)) (omega (arith, counted, laid.within x))

      pub laid-read : AreReadsLaidOut (set entries (v.reads.start + t) new) (set cells x (with_readers w readers))
      laid-read =
          subst (λ (u : CellAccesses). AreReadsLaidOut (set entries (u.reads.start + t) new) (set cells x (with_readers w readers))) (sym (found-is v at))
          (subst (λ u. AreReadsLaidOut (set entries (place.start + t) new) (set cells x (with_readers u readers))) (sym (found-is w at_too))
          (laid-replaced entries cells x _ (set entries (place.start + t) new) read_replaces laid))

      pub accesses-read : map (accesses_in (set entries (v.reads.start + t) new)) (set cells x (with_readers w readers)) ≡ set lists x (with_read (get_or lists x no_accesses) t step)
      accesses-read =
          ap (λ (u : CellAccesses). map (accesses_in (set entries (u.reads.start + t) new)) (set cells x (with_readers w readers))) (found-is v at)
          ∙ (ap (λ u. map (accesses_in (set entries (place.start + t) new)) (set cells x (with_readers u readers))) (found-is w at_too)
          ∙ (accesses-set _ (set entries (place.start + t) new) _ read_replaces
          (ap (with_reads_in (get_or cells x blank_cell).write) (reads_in-set entries place t new counted) ∙ ap (λ (a : Accesses). with_read a t new) (sym (accesses-are x)))
          ∙ ap (λ s. set lists x (with_read (get_or lists x no_accesses) t s)) is_new))

    -- room for reads
    module _ (v w : CellAccesses) (at : v ≡ get_or cells x v) (at_too : w ≡ get_or cells x w) (count : ℕ) (longer : v.reads.count < count) (few : count ≤ 64)
        (start : ℕ) (from : start ≡ length entries) (after : Entries) (is : after ≡ entries ++ filled_up None count (reads_in entries v.reads)) where
      longer_too : (place_of cells x).count ≤ count
      longer_too = subst (λ (u : CellAccesses). u.reads.count ≤ count) (found-is v at) (omega (arith, longer))

      more_replaces : Replaces entries cells x (moved (length entries) count (get_or cells x blank_cell)) (entries ++ filled_up None count (reads_in entries (place_of cells x)))
      more_replaces = Replaces-more entries cells laid x there count longer_too few

      is-more : after ≡ entries ++ filled_up None count (reads_in entries (place_of cells x))
      is-more = is ∙ ap (λ (u : CellAccesses). entries ++ filled_up None count (reads_in entries u.reads)) (found-is v at)

      new-is : moved start count w ≡ moved (length entries) count (get_or cells x blank_cell)
      new-is = ap (λ n. moved n count w) from ∙ ap (moved (length entries) count) (found-is w at_too)

      pub laid-more : AreReadsLaidOut after (set cells x (moved start count w))
      laid-more =
          subst (λ es. AreReadsLaidOut es (set cells x (moved start count w))) (sym is-more)
          (subst (λ u. AreReadsLaidOut (entries ++ filled_up None count (reads_in entries (place_of cells x))) (set cells x u)) (sym new-is) (laid-replaced entries cells x _ _ more_replaces laid))

      pub accesses-more : map (accesses_in after) (set cells x (moved start count w)) ≡ set lists x (with_reads_of count (get_or lists x no_accesses))
      accesses-more =
          ap (λ es. map (accesses_in es) (set cells x (moved start count w))) is-more
          ∙ (ap (λ u. map (accesses_in (entries ++ filled_up None count (reads_in entries (place_of cells x)))) (set cells x u)) new-is
          ∙ accesses-set _ _ _ more_replaces
          (ap (with_reads_in (get_or cells x blank_cell).write) (reads_in-moved entries cells laid x there count longer_too few) ∙ ap (with_reads_of count) (sym (accesses-are x))))

  -- where there is room already
  pub had-room : (x count : ℕ) (v : CellAccesses) → x < length lists → v ≡ get_or cells x v → count ≤ v.reads.count → lists ≡ set lists x (with_reads_of count (get_or lists x no_accesses))
  had-room x count v inside at h =
      sym (ap (set lists x) (ap (with_reads_in (get_or lists x no_accesses).write) (filled_up-long None count (get_or lists x no_accesses).reads
      (omega (arith, h, count-is x, ap (λ (u : CellAccesses). u.reads.count) (found-is x inside v at))))) ∙ set-get_or lists x no_accesses)

-- where there is no room nothing is forgotten
pub none-forgotten : (lists : List Accesses) (x t : ℕ) → ¬ ((x < length lists) × (t < length (get_or lists x no_accesses).reads)) → lists ≡ set lists x (with_read (get_or lists x no_accesses) t None)
none-forgotten lists x t refused =
    ⊎_elim
    (λ within. sym (ap (set lists x) (ap (with_reads_in (get_or lists x no_accesses).write) (set_past (get_or lists x no_accesses).reads t None
    (⊎_elim (λ h. absurd (refused (within, h))) (λ h. h) (cases_lt t (length (get_or lists x no_accesses).reads))))) ∙ set-get_or lists x no_accesses))
    (λ past. sym (set_past lists x _ past))
    (cases_lt x (length lists))

-- blank cells are added
map-replicate : {X Y : Type 0} (f : X → Y) (n : ℕ) (x : X) → map f (replicate n x) ≡ replicate n (f x)
map-replicate f zero x = refl
map-replicate f (suc n) x = ap (λ ys. f x ∷ ys) (map-replicate f n x)

module _ (entries : Entries) (cells : List CellAccesses) (n : ℕ) where
  abbrev filled : List CellAccesses
  filled = filled_up blank_cell n cells

  pub laid-filled : AreReadsLaidOut entries cells → AreReadsLaidOut entries filled
  laid-filled laid = record {
    within = λ i. subst (λ (v : CellAccesses). Fits entries v.reads) (sym (get_or-filled_up blank_cell n cells i)) (laid.within i);
    apart = λ i j off. subst (λ (v : CellAccesses). AreApart v.reads (place_of filled j)) (sym (get_or-filled_up blank_cell n cells i))
        (subst (λ (v : CellAccesses). AreApart (place_of cells i) v.reads) (sym (get_or-filled_up blank_cell n cells j)) (laid.apart i j off));
    readers = λ i. subst (λ (v : CellAccesses). AreReaders v.readers (reads_in entries v.reads)) (sym (get_or-filled_up blank_cell n cells i)) (laid.readers i);
  }

  pub accesses-filled : map (accesses_in entries) filled ≡ filled_up no_accesses n (map (accesses_in entries) cells)
  unfolding filled_up
  accesses-filled =
      map-append (accesses_in entries) cells (replicate (n - length cells) blank_cell)
      ∙ ap (λ blanks. map (accesses_in entries) cells ++ blanks)
      (map-replicate (accesses_in entries) (n - length cells) blank_cell ∙ ap (λ k. replicate (n - k) no_accesses) (sym (length-map cells (accesses_in entries))))
