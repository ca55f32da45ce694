-- Events that no other thread can hinder, and that conflict with nothing that others do before them.
use Rattle.std.specs.Prelude.{◌≡◌, ◌≢◌, ℕ, Bool, not, ◌&&◌, ◌||◌, List, [], ◌∷◌, ◌++◌, Some, IsTrue, IsFalse}
use Rattle.velo_events.specs.declared.config.Bounds.{Bounds}
use Rattle.velo_events.specs.declared.event.Event.{Event}
use Rattle.velo_events.specs.declared.event.Kind.{Kind}
use Rattle.velo_events.specs.declared.event.Status.TheVariants.{Unborn}
use Rattle.velo_events.specs.Event.{are_same, thread_of, access_of, cell_of, is_exclusive, thread_forked, thread_joined, is_release, is_release_shared, is_begin, is_end, is_exit}
use Rattle.velo_events.specs.Heap.{holder_in, shares_in, status_in}
use Rattle.velo_movers.specs.Moves.{DoesNotConflict}
use Rattle.velo_movers.specs.Programs.{own, IsLog}

-- both access one variable or one lock, and one of them not as a reader or sharer
abbrev pub do_clash : Kind → Kind → Bool
do_clash k l = are_same (cell_of (access_of k)) (cell_of (access_of l)) && (is_exclusive (access_of k) || is_exclusive (access_of l))

-- it gives up a lock, or a share of one
abbrev pub gives_up : Kind → Bool
gives_up k = is_release k || is_release_shared k

-- they do, and neither gives up a lock
abbrev pub are_rivals : Kind → Kind → Bool
are_rivals k l = do_clash k l && not (gives_up k || gives_up l)

-- both fork one thread, or both join one, or the second joins the thread that the first forks
abbrev pub are_twins : Kind → Kind → Bool
are_twins k l = are_same (thread_forked k) (thread_forked l) || are_same (thread_joined k) (thread_joined l) || are_same (thread_forked k) (thread_joined l)

-- No other thread comes, before the event's thread acts again, to where it tries a rival or a twin of the event
pub record IsFree (bounds : Bounds) (May : ℕ → List Event → Type 0) (log : List Event) (e : Event) : Type 0 where
  pub apart : (more : List Event) (g : Event) → own (thread_of e) more ≡ [] → thread_of g ≢ thread_of e → IsLog bounds May (log ++ more) → status_in (log ++ more) (thread_of g) ≢ Unborn → May (thread_of g) (own (thread_of g) (log ++ more) ++ g ∷ []) →
      IsFalse (are_rivals e.kind g.kind) × IsFalse (are_twins e.kind g.kind)

-- What is bad goes along: it stays where an event is brought forward, and where a free event follows
pub record GoesAlong (bounds : Bounds) (May : ℕ → List Event → Type 0) (Bad : List Event → Type 0) : Type 0 where
  pub forward : (log stretch : List Event) (e : Event) (rest : List Event) → DoesNotConflict stretch e → IsLog bounds May (log ++ (stretch ++ e ∷ rest)) → Bad (log ++ (stretch ++ e ∷ rest)) → Bad (log ++ e ∷ (stretch ++ rest))
  pub follow : (log : List Event) (e : Event) → IsFree bounds May log e → IsLog bounds May (log ++ e ∷ []) → Bad log → Bad (log ++ e ∷ [])

-- ---- free by what each thread does by itself

-- By these events of their own the two threads have lock m, and one of them alone: this can't be at one time
pub data HaveBoth (mine : List Event) (t : ℕ) (theirs : List Event) (u m : ℕ) : Type 0 where
  BothAlone : holder_in mine m ≡ Some t → holder_in theirs m ≡ Some u → HaveBoth mine t theirs u m
  FirstAlone : holder_in mine m ≡ Some t → IsTrue (shares_in theirs m u) → HaveBoth mine t theirs u m
  SecondAlone : IsTrue (shares_in mine m t) → holder_in theirs m ≡ Some u → HaveBoth mine t theirs u m

-- Each thread u has done `done u`. Whatever another thread still does that rivals the operation, it does
-- while both have a lock, and one of them alone; and it does no twin
pub record IsFreeNow (May : ℕ → List Event → Type 0) (done : ℕ → List Event) (t : ℕ) (k : Kind) : Type 0 where
  pub guarded : (more : List Event) (g : Event) → thread_of g ≢ t → May (thread_of g) ((done (thread_of g) ++ more) ++ g ∷ []) → IsTrue (are_rivals k g.kind) →
      (m : ℕ) × HaveBoth (done t) t (done (thread_of g) ++ more) (thread_of g) m
  pub single : (more : List Event) (g : Event) → thread_of g ≢ t → May (thread_of g) ((done (thread_of g) ++ more) ++ g ∷ []) → IsFalse (are_twins k g.kind)

-- The same of all that the others do at any time
pub record IsFreeStatement (May : ℕ → List Event → Type 0) (mine : List Event) (t : ℕ) (k : Kind) : Type 0 where
  pub guarded : (events : List Event) (g : Event) → thread_of g ≢ t → May (thread_of g) (events ++ g ∷ []) → IsTrue (are_rivals k g.kind) →
      (m : ℕ) × HaveBoth mine t events (thread_of g) m
  pub single : (events : List Event) (g : Event) → thread_of g ≢ t → May (thread_of g) (events ++ g ∷ []) → IsFalse (are_twins k g.kind)

-- an operation that is always free
abbrev pub is_private : Kind → Bool
is_private k = is_begin k || is_end k || gives_up k || is_exit k
