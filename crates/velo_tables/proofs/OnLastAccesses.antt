-- What the tables keep at each place: after an event was recorded, after room was made, and in the order of a look-up.
use Rattle.std.proofs.Common.{◌≡◌, ℕ, ◌+◌, ◌<◌, ◌≤◌, Bool, true, false, List, length, get_or, Option, Some, None, Result, refl, sym, ap, ◌∙◌, subst, arith, ⊎_elim, max}
use Rattle.std.specs.Prelude.{OnOk, OnErr}
use Rattle.std.specs.Prelude.{◌==◌, ◌||◌, ◌&&◌, if◌then◌else◌}
use Rattle.std.proofs.Math.ListN.{set}
use Rattle.std.proofs.lemmas.Bool.{cases_eq, ne_eqb, eq-eqb}
use Rattle.std.proofs.lemmas.List.{get_or-set_same, get_or-set_other, length-set, set-get_or}
use Rattle.velo_arena.specs.declared.step.Step.{Step}
use Rattle.velo_events.specs.declared.event.Event.{Event}
use Rattle.velo_events.specs.declared.event.Access.{Access}
use Rattle.velo_events.specs.declared.event.Access.TheVariants.{Shared, Exclusive, Nothing}
use Rattle.velo_events.specs.Event.{are_same, thread_of, access_of, cell_of, forked_of, is_exclusive, is_shared}
use Rattle.velo_events.specs.Place.{Place, LastOf, LastWrite, LastRead, is_recorded}
use Rattle.velo_events.specs.Growth.{filled_up}
use Rattle.velo_tables.specs.LastAccesses.{LastAccesses, Accesses, no_accesses, accesses_of, entry, HasRoomFor, HasRoomBeside, HasRoomToRead, IsRecorded, IsUnchanged}
use Rattle.velo_tables.specs.Recorded.{with_write, with_read, with_reads_of, with_thread, with_cell, kept_after, kept_after_beside}
use Rattle.velo_events.proofs.OnLists.{get_or-set}
use Rattle.velo_events.proofs.OnResults.{from_either, OnOk-weaker}
use Rattle.velo_events.proofs.OnFilling.{get_or-filled_up, length-filled_up}

or_false : {X : Type 0} (b : Bool) (v w : X) → (if b then v else w) ≡ (if b || false then v else w)
or_false true v w = refl
or_false false v w = refl

or_either : {X : Type 0} (a b : Bool) (v w : X) → (if b then v else (if a then v else w)) ≡ (if a || b then v else w)
or_either true true v w = refl
or_either true false v w = refl
or_either false true v w = refl
or_either false false v w = refl

-- the accesses of each cell, after those of one were replaced
accesses_of-set : (kept : LastAccesses) (y x : ℕ) (accesses : Accesses) → y < length kept.cells → accesses_of (with_cell kept y accesses) x ≡ (if y == x then accesses else accesses_of kept x)
accesses_of-set kept y x accesses within = get_or-set kept.cells y x accesses no_accesses within

-- what `is_recorded` says, by the access
abbrev is_recorded_by : ℕ → Access → Place → Bool
is_recorded_by by a (LastOf t) = (by == t) || are_same (forked_of a) (Some t)
is_recorded_by by a (LastWrite c) = is_exclusive a && are_same (cell_of a) (Some c)
is_recorded_by by a (LastRead c t) = is_shared a && are_same (cell_of a) (Some c) && (by == t)

-- ---- an event that was recorded

module _ (kept : LastAccesses) (by : ℕ) (step : Option Step) where
  after_own : (t : ℕ) → by < length kept.threads → get_or (set kept.threads by step) t None ≡ (if (by == t) || false then step else get_or kept.threads t None)
  after_own t within = get_or-set kept.threads by t step None within ∙ or_false (by == t) step (get_or kept.threads t None)

  after_fork : (u t : ℕ) → by < length kept.threads → u < length kept.threads → get_or (set (set kept.threads by step) u step) t None ≡ (if (by == t) || (u == t) then step else get_or kept.threads t None)
  after_fork u t within there =
      get_or-set (set kept.threads by step) u t step None (omega (arith, there, length-set kept.threads by step))
      ∙ (ap (λ o. if u == t then step else o) (get_or-set kept.threads by t step None within) ∙ or_either (by == t) (u == t) step (get_or kept.threads t None))

  -- a read leaves the writes, and a write the reads
  read_keeps_write : (y x : ℕ) → y < length kept.cells → (accesses_of (with_cell kept y (with_read (accesses_of kept y) by step)) x).write ≡ (accesses_of kept x).write
  read_keeps_write y x within =
      ⊎_elim
      (λ at. subst (λ k. (accesses_of (with_cell kept y (with_read (accesses_of kept y) by step)) k).write ≡ (accesses_of kept k).write) at
      (ap (λ (a : Accesses). a.write) (get_or-set_same kept.cells y (with_read (accesses_of kept y) by step) no_accesses within)))
      (λ off. ap (λ (a : Accesses). a.write) (get_or-set_other kept.cells y x (with_read (accesses_of kept y) by step) no_accesses (λ e. off (sym e))))
      (cases_eq y x)

  write_keeps_reads : (y x : ℕ) → y < length kept.cells → (accesses_of (with_cell kept y (with_write (accesses_of kept y) step)) x).reads ≡ (accesses_of kept x).reads
  write_keeps_reads y x within =
      ⊎_elim
      (λ at. subst (λ k. (accesses_of (with_cell kept y (with_write (accesses_of kept y) step)) k).reads ≡ (accesses_of kept k).reads) at
      (ap (λ (a : Accesses). a.reads) (get_or-set_same kept.cells y (with_write (accesses_of kept y) step) no_accesses within)))
      (λ off. ap (λ (a : Accesses). a.reads) (get_or-set_other kept.cells y x (with_write (accesses_of kept y) step) no_accesses (λ e. off (sym e))))
      (cases_eq y x)

  after_write : (y x : ℕ) → y < length kept.cells → (accesses_of (with_cell kept y (with_write (accesses_of kept y) step)) x).write ≡ (if y == x then step else (accesses_of kept x).write)
  after_write y x within =
      ap (λ (a : Accesses). a.write) (accesses_of-set kept y x (with_write (accesses_of kept y) step) within)
      ∙ elim (y == x) as (λ b. (if b then with_write (accesses_of kept y) step else accesses_of kept x).write ≡ (if b then step else (accesses_of kept x).write)) [ true ↦ refl | false ↦ refl ]

  after_read : (y x t : ℕ) → y < length kept.cells → by < length (accesses_of kept y).reads →
      get_or (accesses_of (with_cell kept y (with_read (accesses_of kept y) by step)) x).reads t None ≡ (if (y == x) && (by == t) then step else get_or (accesses_of kept x).reads t None)
  after_read y x t within room =
      ⊎_elim
      (λ at. subst (λ k. get_or (accesses_of (with_cell kept y read) k).reads t None ≡ (if (y == k) && (by == t) then step else get_or (accesses_of kept k).reads t None)) at
      (ap (λ (a : Accesses). get_or a.reads t None) (get_or-set_same kept.cells y read no_accesses within)
      ∙ (get_or-set (accesses_of kept y).reads by t step None room ∙ ap (λ b. if b && (by == t) then step else get_or (accesses_of kept y).reads t None) (sym (eq-eqb y y refl)))))
      (λ off. ap (λ (a : Accesses). get_or a.reads t None) (get_or-set_other kept.cells y x read no_accesses (λ e. off (sym e)))
      ∙ ap (λ b. if b && (by == t) then step else get_or (accesses_of kept x).reads t None) (sym (ne_eqb y x off)))
      (cases_eq y x)
    where
      read : Accesses
      read = with_read (accesses_of kept y) by step

module _ (kept : LastAccesses) (e : Event) (step : Option Step) where
  abbrev by : ℕ
  by = thread_of e

  -- the tables after an event of this access
  abbrev After : Access → Place → Type 0
  After a p = entry (kept_after_beside (with_thread kept by step) by a step) p ≡ (if is_recorded_by by a p then step else entry kept p)

  entry-after : (a : Access) → by < length kept.threads → HasRoomBeside kept by a → (p : Place) → After a p
  entry-after (Shared d) own room (LastOf t) = after_own kept by step t own
  entry-after (Shared d) own room (LastWrite c) = read_keeps_write kept by step d.0 c room.0
  entry-after (Shared d) own room (LastRead c t) = after_read kept by step d.0 c t room.0 room.1
  entry-after (Exclusive d) own room (LastOf t) = after_own kept by step t own
  entry-after (Exclusive d) own room (LastWrite c) = after_write kept by step d.0 c room
  entry-after (Exclusive d) own room (LastRead c t) = ap (λ reads. get_or reads t None) (write_keeps_reads kept by step d.0 c room)
  entry-after (Access.Fork u) own room (LastOf t) = after_fork kept by step u.0 t own room
  entry-after (Access.Fork u) own room (LastWrite c) = refl
  entry-after (Access.Fork u) own room (LastRead c t) = refl
  entry-after (Access.Join u) own room (LastOf t) = after_own kept by step t own
  entry-after (Access.Join u) own room (LastWrite c) = refl
  entry-after (Access.Join u) own room (LastRead c t) = refl
  entry-after Nothing own room (LastOf t) = after_own kept by step t own
  entry-after Nothing own room (LastWrite c) = refl
  entry-after Nothing own room (LastRead c t) = refl

-- ---- room

-- each list is as long as before, or longer
pub record IsRoomier (old new : LastAccesses) : Type 0 where
  pub threads : length old.threads ≤ length new.threads
  pub cells : length old.cells ≤ length new.cells
  pub reads : (x : ℕ) → length (accesses_of old x).reads ≤ length (accesses_of new x).reads

room_beside-kept : (old new : LastAccesses) (t : ℕ) (a : Access) → IsRoomier old new → HasRoomBeside old t a → HasRoomBeside new t a
room_beside-kept old new t (Shared c) more room = (omega (arith, more.cells, room.0), omega (arith, more.reads c.0, room.1))
room_beside-kept old new t (Exclusive c) more room = omega (arith, more.cells, room)
room_beside-kept old new t (Access.Fork u) more room = omega (arith, more.threads, room)
room_beside-kept old new t _ more room = tt

pub HasRoomFor-kept : (old new : LastAccesses) (e : Event) → IsRoomier old new → HasRoomFor old e → HasRoomFor new e
HasRoomFor-kept old new e more room = record { own = omega (arith, more.threads, room.own); beside = room_beside-kept old new (thread_of e) (access_of e.kind) more room.beside }

-- recording keeps the length of each list
reads-after : (kept : LastAccesses) (y x : ℕ) (accesses : Accesses) → length accesses.reads ≡ length (accesses_of kept y).reads → y < length kept.cells → length (accesses_of kept x).reads ≤ length (accesses_of (with_cell kept y accesses) x).reads
reads-after kept y x accesses same within =
    ⊎_elim
    (λ at. subst (λ k. length (accesses_of kept k).reads ≤ length (accesses_of (with_cell kept y accesses) k).reads) at
    (let here : length (accesses_of (with_cell kept y accesses) y).reads ≡ length accesses.reads = ap (λ (a : Accesses). length a.reads) (get_or-set_same kept.cells y accesses no_accesses within) in omega (arith, here, same)))
    (λ off. let there : length (accesses_of (with_cell kept y accesses) x).reads ≡ length (accesses_of kept x).reads = ap (λ (a : Accesses). length a.reads) (get_or-set_other kept.cells y x accesses no_accesses (λ e. off (sym e))) in omega (arith, there))
    (cases_eq y x)

module _ (kept : LastAccesses) (by : ℕ) (step : Option Step) where
  abbrev Roomier : Access → Type 0
  Roomier a = HasRoomBeside kept by a → IsRoomier kept (kept_after_beside (with_thread kept by step) by a step)

  one_thread : length kept.threads ≤ length (set kept.threads by step)
  one_thread = omega (arith, length-set kept.threads by step)

  roomier-after : (a : Access) → Roomier a
  roomier-after (Shared c) room = record {
    threads = one_thread;
    cells = omega (arith, length-set kept.cells c.0 (with_read (accesses_of kept c.0) by step));
    reads = λ x. reads-after kept c.0 x (with_read (accesses_of kept c.0) by step) (length-set (accesses_of kept c.0).reads by step) room.0;
  }
  roomier-after (Exclusive c) room = record {
    threads = one_thread;
    cells = omega (arith, length-set kept.cells c.0 (with_write (accesses_of kept c.0) step));
    reads = λ x. reads-after kept c.0 x (with_write (accesses_of kept c.0) step) refl room;
  }
  roomier-after (Access.Fork u) room = record { threads = omega (arith, length-set (set kept.threads by step) u.0 step, length-set kept.threads by step); cells = omega arith; reads = λ x. omega arith }
  roomier-after (Access.Join u) room = record { threads = one_thread; cells = omega arith; reads = λ x. omega arith }
  roomier-after Nothing room = record { threads = one_thread; cells = omega arith; reads = λ x. omega arith }

-- what the lists are after an event is what the places have after it
pub IsRecorded-kept_after : (kept : LastAccesses) (e : Event) (step : Option Step) → HasRoomFor kept e → IsRecorded kept e step (kept_after kept e step)
unfolding kept_after
IsRecorded-kept_after kept e step room = record {
  each = λ p. entry-after kept e step (access_of e.kind) room.own room.beside p ∙ ap (λ b. if b then step else entry kept p) (recorded p);
  room = λ f before. HasRoomFor-kept kept (kept_after kept e step) f (roomier-after kept (thread_of e) step (access_of e.kind) room.beside) before;
}
  where
    recorded : (p : Place) → is_recorded_by (thread_of e) (access_of e.kind) p ≡ is_recorded e p
    recorded (LastOf t) = refl
    recorded (LastWrite c) = refl
    recorded (LastRead c t) = refl

-- so it is where the thread's last event has the step already
pub IsRecorded-inside : (kept : LastAccesses) (e : Event) (step : Step) → HasRoomFor kept e → entry kept (LastOf (thread_of e)) ≡ Some step → IsRecorded kept e (Some step) (kept_after_beside kept (thread_of e) (access_of e.kind) (Some step))
unfolding kept_after
IsRecorded-inside kept e step room current =
    let same : with_thread kept (thread_of e) (Some step) ≡ kept =
    ap (with_thread kept (thread_of e)) (sym current) ∙ ap (λ threads. record { threads = threads; cells = kept.cells }) (set-get_or kept.threads (thread_of e) None) in
    subst (λ old. IsRecorded kept e (Some step) (kept_after_beside old (thread_of e) (access_of e.kind) (Some step))) same (IsRecorded-kept_after kept e (Some step) room)

-- ---- room that was made

pub IsUnchanged-trans : (a b c : LastAccesses) → IsUnchanged a b → IsUnchanged b c → IsUnchanged a c
IsUnchanged-trans a b c p q = record { each = λ place. q.each place ∙ p.each place; room = λ e h. q.room e (p.room e h) }

abbrev with_cells : LastAccesses → List Accesses → LastAccesses
with_cells kept cells = record { threads = kept.threads; cells = cells }

unchanged_from : (old new : LastAccesses) → IsRoomier old new → ((t : ℕ) → entry new (LastOf t) ≡ entry old (LastOf t)) → ((c : ℕ) → entry new (LastWrite c) ≡ entry old (LastWrite c)) →
    ((c t : ℕ) → entry new (LastRead c t) ≡ entry old (LastRead c t)) → IsUnchanged old new
unchanged_from old new more threads writes reads = record { each = each; room = λ e h. HasRoomFor-kept old new e more h }
  where
    each : (p : Place) → entry new p ≡ entry old p
    each (LastOf t) = threads t
    each (LastWrite c) = writes c
    each (LastRead c t) = reads c t

pub IsUnchanged-cells : (kept : LastAccesses) (n : ℕ) → IsUnchanged kept (with_cells kept (filled_up no_accesses n kept.cells))
IsUnchanged-cells kept n = unchanged_from kept _ (record {
  threads = omega arith;
  cells = omega (arith, length-filled_up no_accesses n kept.cells);
  reads = λ x. let at : length (accesses_of (with_cells kept (filled_up no_accesses n kept.cells)) x).reads ≡ length (accesses_of kept x).reads = ap (λ (a : Accesses). length a.reads) (same x) in omega (arith, at);
}) (λ t. refl) (λ x. ap (λ (a : Accesses). a.write) (same x)) (λ x t. ap (λ (a : Accesses). get_or a.reads t None) (same x))
  where
    same : (x : ℕ) → get_or (filled_up no_accesses n kept.cells) x no_accesses ≡ get_or kept.cells x no_accesses
    same x = get_or-filled_up no_accesses n kept.cells x

pub IsUnchanged-reads : (kept : LastAccesses) (y n : ℕ) → y < length kept.cells → IsUnchanged kept (with_cell kept y (with_reads_of n (accesses_of kept y)))
IsUnchanged-reads kept y n within = unchanged_from kept _ (record {
  threads = omega arith;
  cells = omega (arith, length-set kept.cells y roomy);
  reads = λ x. ⊎_elim
      (λ at. subst (λ k. length (accesses_of kept k).reads ≤ length (accesses_of (with_cell kept y roomy) k).reads) at
      (let here : length (accesses_of (with_cell kept y roomy) y).reads ≡ length roomy.reads = ap (λ (a : Accesses). length a.reads) same in omega (arith, here, length-filled_up None n (accesses_of kept y).reads)))
      (λ off. let there : length (accesses_of (with_cell kept y roomy) x).reads ≡ length (accesses_of kept x).reads = ap (λ (a : Accesses). length a.reads) (others x off) in omega (arith, there))
      (cases_eq y x);
}) (λ t. refl)
    (λ x. ⊎_elim (λ at. subst (λ k. (accesses_of (with_cell kept y roomy) k).write ≡ (accesses_of kept k).write) at (ap (λ (a : Accesses). a.write) same)) (λ off. ap (λ (a : Accesses). a.write) (others x off)) (cases_eq y x))
    (λ x t. ⊎_elim
    (λ at. subst (λ k. get_or (accesses_of (with_cell kept y roomy) k).reads t None ≡ get_or (accesses_of kept k).reads t None) at (ap (λ (a : Accesses). get_or a.reads t None) same ∙ get_or-filled_up None n (accesses_of kept y).reads t))
    (λ off. ap (λ (a : Accesses). get_or a.reads t None) (others x off)) (cases_eq y x))
  where
    roomy : Accesses
    roomy = with_reads_of n (accesses_of kept y)

    same : accesses_of (with_cell kept y roomy) y ≡ roomy
    same = get_or-set_same kept.cells y roomy no_accesses within

    others : (x : ℕ) → (y ≡ x → ⊥) → accesses_of (with_cell kept y roomy) x ≡ accesses_of kept x
    others x off = get_or-set_other kept.cells y x roomy no_accesses (λ e. off (sym e))

IsUnchanged-same : (kept : LastAccesses) → IsUnchanged kept kept
IsUnchanged-same kept = record { each = λ p. refl; room = λ e h. h }

-- ---- the answers of calls that make room

module _ {A E : Type 0} (r : Result A E) (kept : LastAccesses) where
  pub cells_grown : (number : ℕ) (after : List Accesses) → OnOk r (after ≡ filled_up no_accesses (number + 1) kept.cells) → OnErr r (after ≡ kept.cells) → IsUnchanged kept (with_cells kept after)
  cells_grown number after ok err =
      from_either r _ _ (IsUnchanged kept (with_cells kept after)) ok err
      (λ e. subst (λ vs. IsUnchanged kept (with_cells kept vs)) (sym e) (IsUnchanged-cells kept (number + 1)))
      (λ e. subst (λ vs. IsUnchanged kept (with_cells kept vs)) (sym e) (IsUnchanged-same kept))

  pub reads_grown : (y n : ℕ) (after : List Accesses) → y < length kept.cells → OnOk r (after ≡ set kept.cells y (with_reads_of n (accesses_of kept y))) → OnErr r (after ≡ kept.cells) → IsUnchanged kept (with_cells kept after)
  reads_grown y n after within ok err =
      from_either r _ _ (IsUnchanged kept (with_cells kept after)) ok err
      (λ e. subst (λ vs. IsUnchanged kept (with_cells kept vs)) (sym e) (IsUnchanged-reads kept y n within))
      (λ e. subst (λ vs. IsUnchanged kept (with_cells kept vs)) (sym e) (IsUnchanged-same kept))

  -- there is room where none was refused
  pub entries_room : {X : Type 0} (blank : X) (number : ℕ) (before after : List X) → OnOk r (after ≡ filled_up blank (number + 1) before) → OnOk r (number < length after)
  entries_room blank number before after ok =
      OnOk-weaker r _ (number < length after) ok (λ e. let long : length after ≡ max (number + 1) (length before) = ap length e ∙ length-filled_up blank (number + 1) before in omega (arith, long))

  pub reads_room : (y n : ℕ) (after : List Accesses) → y < length kept.cells → OnOk r (after ≡ set kept.cells y (with_reads_of n (accesses_of kept y))) → OnOk r (HasRoomToRead n (with_cells kept after) y)
  reads_room y n after within ok =
      OnOk-weaker r _ (HasRoomToRead n (with_cells kept after) y) ok
      (λ e. subst (λ vs. HasRoomToRead n (with_cells kept vs) y) (sym e) (
        omega (arith, within, length-set kept.cells y (with_reads_of n (accesses_of kept y))),
        (let here : length (accesses_of (with_cell kept y (with_reads_of n (accesses_of kept y))) y).reads ≡ length (filled_up None n (accesses_of kept y).reads) =
            ap (λ (a : Accesses). length a.reads) (get_or-set_same kept.cells y (with_reads_of n (accesses_of kept y)) no_accesses within) in omega (arith, here, length-filled_up None n (accesses_of kept y).reads)),
      ))
