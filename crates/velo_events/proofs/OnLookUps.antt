-- The look-ups of an event reach every earlier event that conflicts with it.
use Rattle.std.proofs.Common.{◌≡◌, ◌≢◌, ℕ, zero, suc, ◌<◌, ◌≤◌, Bool, List, [], ◌∷◌, ◌++◌, length, take, Option, Some, None, refl, sym, ap, ◌∙◌, subst, arith, ⊎_elim, inl, inr}
use Rattle.std.specs.Prelude.{◌⊎◌, ◌==◌, ◌||◌, ◌&&◌, IsTrue, IsFalse, slice_get, Contains, map, All}
use Rattle.std.specs.List.{list_any}
use Rattle.std.proofs.lemmas.Bool.{cases_lt, false≢true, eqb-true, eq-eqb, or_cases, or_left, or_right, and_parts, and_from}
use Rattle.std.proofs.lemmas.Option.{none-some, same_Some, slice_get_within}
use Rattle.std.proofs.lemmas.List.{length-take}
use Rattle.std.proofs.lemmas.List.Elements.{All-cons, All-nil, All-map, All-contains}
use Rattle.std.proofs.lemmas.List.FromFn.{get_or-map-range_with_len, length-map-range_with_len}
use Rattle.velo_events.specs.declared.config.Bounds.{Bounds}
use Rattle.velo_events.specs.declared.event.Event.{Event}
use Rattle.velo_events.specs.declared.event.Kind.{Kind}
use Rattle.velo_events.specs.declared.event.Kind.TheVariants.{Fork, Join}
use Rattle.velo_events.specs.declared.event.Access.{Access}
use Rattle.velo_events.specs.declared.event.Access.TheVariants.{Shared, Exclusive}
use Rattle.velo_events.specs.Event.{are_same, thread_of, access_of, cell_of, thread_forked, thread_joined, forked_of, joined_of, thread_forked_or_joined, forked_or_joined_of, is_shared, is_exclusive, is_exit_by, is_fork_of, is_join_of, is_writing}
use Rattle.velo_events.specs.Conflict.{conflict}
use Rattle.velo_events.specs.Heap.{happened, was_born}
use Rattle.velo_events.specs.WellFormed.{IsWellFormed, MayFollow, IsInTurn}
use Rattle.velo_events.specs.Graph.{Reaches, ConflictsInOrder, conflict_at}
use Rattle.velo_events.proofs.OnTraces.{slice_get-append, slice_get-push, slice_get-take}
use Rattle.velo_events.specs.Place.{Place, LastOf, LastWrite, LastRead, thread_numbers, looked_up, also_looked_up, is_recorded, last_at}
use Rattle.velo_events.proofs.OnLast.{IsLast, last_at-is, last_at-within, last_position-at}

-- ---- numbers that are the same

pub are_same-some : (o : Option ℕ) (n : ℕ) → IsTrue (are_same o (Some n)) → o ≡ Some n
are_same-some None n h = absurd (false≢true h)
are_same-some (Some m) n h = ap (λ k. Some k) (eqb-true m n h)

pub are_same-both : (o p : Option ℕ) → IsTrue (are_same o p) → (n : ℕ) × (o ≡ Some n) × (p ≡ Some n)
are_same-both None None h = absurd (false≢true h)
are_same-both None (Some n) h = absurd (false≢true h)
are_same-both (Some m) None h = absurd (false≢true h)
are_same-both (Some m) (Some n) h = (n, ap (λ k. Some k) (eqb-true m n h), refl)

pub are_same-from : (o p : Option ℕ) (n : ℕ) → o ≡ Some n → p ≡ Some n → IsTrue (are_same o p)
are_same-from o p n at also = ap (λ q. are_same q p) at ∙ (ap (are_same (Some n)) also ∙ eq-eqb n n refl)

-- ---- when two events conflict

module _ (a b : Event) where
  pub conflict-thread : thread_of a ≡ thread_of b → IsTrue (conflict a b)
  conflict-thread h = or_left _ _ (or_left _ _ (or_left _ _ (eq-eqb _ _ h)))

  pub conflict-cell : IsTrue (are_same (cell_of (access_of a.kind)) (cell_of (access_of b.kind))) → IsTrue (is_exclusive (access_of a.kind) || is_exclusive (access_of b.kind)) → IsTrue (conflict a b)
  conflict-cell same writes = or_left _ _ (or_left _ _ (or_right (thread_of a == thread_of b) _ (and_from _ _ same writes)))

  conflict-handles : thread_forked_or_joined a.kind ≡ Some (thread_of b) → IsTrue (conflict a b)
  conflict-handles h = or_left _ _ (or_right _ _ (are_same-from _ _ (thread_of b) h refl))

  pub conflict-handled : thread_forked_or_joined b.kind ≡ Some (thread_of a) → IsTrue (conflict a b)
  conflict-handled h = or_right _ _ (are_same-from _ _ (thread_of a) h refl)

-- the two events at positions of a trace
pub conflict_at-events : (trace : List Event) (i j : ℕ) (f g : Event) → slice_get trace i ≡ Some f → slice_get trace j ≡ Some g → IsTrue (conflict f g) → IsTrue (conflict_at trace i j)
unfolding conflict_at
conflict_at-events trace i j f g at also h = rw (at, also) h

-- ---- accesses

pub fork_handles : (a : Access) (t : ℕ) → IsTrue (are_same (forked_of a) (Some t)) → forked_or_joined_of a ≡ Some t
fork_handles (Access.Fork u) t h = ap (λ n. Some n) (eqb-true u.0 t h)
fork_handles _ t h = absurd (false≢true h)

join_handles : (a : Access) (t : ℕ) → IsTrue (are_same (joined_of a) (Some t)) → forked_or_joined_of a ≡ Some t
join_handles (Access.Join u) t h = ap (λ n. Some n) (eqb-true u.0 t h)
join_handles _ t h = absurd (false≢true h)

pub forks_or_joins : (a : Access) (t : ℕ) → IsTrue (are_same (forked_or_joined_of a) (Some t)) → IsTrue (are_same (forked_of a) (Some t)) ⊎ IsTrue (are_same (joined_of a) (Some t))
forks_or_joins (Access.Fork u) t h = inl h
forks_or_joins (Access.Join u) t h = inr h
forks_or_joins _ t h = absurd (false≢true h)

-- an access of a cell is a read or a write
pub reads_or_writes : (a : Access) (c : ℕ) → cell_of a ≡ Some c → IsTrue (is_exclusive a) ⊎ IsTrue (is_shared a)
reads_or_writes (Shared d) c h = inr refl
reads_or_writes (Exclusive d) c h = inl refl
reads_or_writes _ c h = absurd (none-some c h)

-- a thread is forked once, and thread 0 never
fork_turn : (earlier : List Event) (by : ℕ) (k : Kind) (t : ℕ) → IsTrue (are_same (thread_forked k) (Some t)) → IsInTurn earlier by k → (t ≢ 0) × IsFalse (happened (is_fork_of t) earlier)
fork_turn earlier by (Fork u) t h turn = subst (λ n. (n ≢ 0) × IsFalse (happened (is_fork_of n) earlier)) (eqb-true u.0 t h) turn
fork_turn earlier by _ t h turn = absurd (false≢true h)

-- a thread is joined after its exit
join_turn : (earlier : List Event) (by : ℕ) (k : Kind) (t : ℕ) → IsTrue (are_same (thread_joined k) (Some t)) → IsInTurn earlier by k → IsTrue (happened (is_exit_by t) earlier)
join_turn earlier by (Join u) t h turn = subst (λ n. IsTrue (happened (is_exit_by n) earlier)) (eqb-true u.0 t h) turn.0
join_turn earlier by _ t h turn = absurd (false≢true h)

-- ---- what has happened stands at some position

pub happened-some : (test : Event → Bool) (trace : List Event) → IsTrue (happened test trace) → (j : ℕ) × (f : Event) × (slice_get trace j ≡ Some f) × IsTrue (test f)
unfolding happened
happened-some test [] h = absurd (false≢true h)
happened-some test (e ∷ es) h =
    ⊎_elim (λ here. (0, e, refl, here)) (λ later. let w = happened-some test es later in (suc w.0, w.1, w.2, w.3)) (or_cases (test e) (list_any test es) h)

pub happened-at : (test : Event → Bool) (trace : List Event) (j : ℕ) (f : Event) → slice_get trace j ≡ Some f → IsTrue (test f) → IsTrue (happened test trace)
unfolding happened
happened-at test [] j f at h = absurd (none-some f at)
happened-at test (e ∷ es) zero f at h = or_left (test e) (list_any test es) (subst (λ g. IsTrue (test g)) (sym (same_Some e f at)) h)
happened-at test (e ∷ es) (suc j) f at h = or_right (test e) (list_any test es) (happened-at test es j f at h)

pub happened-before : (test : Event → Bool) (trace : List Event) (i : ℕ) → IsTrue (happened test (take i trace)) → (j : ℕ) × (f : Event) × (j < i) × (slice_get trace j ≡ Some f) × IsTrue (test f)
happened-before test trace i h =
    let w = happened-some test (take i trace) h in
    let within = slice_get_within (take i trace) w.0 w.1 w.2 in
    let under : w.0 < i = omega (arith, within, length-take i trace) in
    (w.0, w.1, under, sym (slice_get-take trace i w.0 under) ∙ w.2, w.3)

pub happened-from : (test : Event → Bool) (trace : List Event) (i j : ℕ) (f : Event) → j < i → slice_get trace j ≡ Some f → IsTrue (test f) → IsTrue (happened test (take i trace))
happened-from test trace i j f under at h = happened-at test (take i trace) j f (slice_get-take trace i j under ∙ at) h

-- ---- what an event looks up

-- what is before is also in the longer list
pub further : (q : Place) (xs : List Place) (p : Place) → Contains xs p → Contains (q ∷ xs) p
further q xs p w = (suc w.0, omega (arith, w.1), w.2)

-- the last event of its own thread
pub looked_up-own : (e : Event) → Contains (looked_up e) (LastOf (thread_of e))
looked_up-own e = (0, omega arith, refl)

pub also-join : (a : Access) (u : ℕ) → IsTrue (are_same (joined_of a) (Some u)) → Contains (also_looked_up a) (LastOf u)
also-join (Access.Join t) u h = (0, omega arith, ap (λ n. LastOf n) (eqb-true t.0 u h))
also-join _ u h = absurd (false≢true h)

pub also-access : (a : Access) (c : ℕ) → cell_of a ≡ Some c → Contains (also_looked_up a) (LastWrite c)
also-access (Shared d) c h = (0, omega arith, ap (λ n. LastWrite n) (same_Some d.0 c h))
also-access (Exclusive d) c h = (0, omega arith, ap (λ n. LastWrite n) (same_Some d.0 c h))
also-access _ c h = absurd (none-some c h)

each_reader : (x t : ℕ) → t < 64 → Contains (map (LastRead x) thread_numbers) (LastRead x t)
unfolding thread_numbers
each_reader x t h = (t, omega (arith, h, length-map-range_with_len (LastRead x) 0 64), get_or-map-range_with_len (LastRead x) 0 64 t t (LastRead x t) h (omega arith))

also-write : (a : Access) (c t : ℕ) → cell_of a ≡ Some c → IsTrue (is_exclusive a) → t < 64 → Contains (also_looked_up a) (LastRead c t)
also-write (Exclusive d) c t h w few = subst (λ n. Contains (LastWrite d.0 ∷ map (LastRead d.0) thread_numbers) (LastRead n t)) (same_Some d.0 c h) (further (LastWrite d.0) (map (LastRead d.0) thread_numbers) (LastRead d.0 t) (each_reader d.0 t few))
also-write _ c t h w few = absurd (false≢true w)

-- the event looks up the place
abbrev pub is_looked_up : Event → Place → Bool
is_looked_up e (LastOf t) = (thread_of e == t) || is_join_of t e
is_looked_up e (LastWrite c) = are_same (cell_of (access_of e.kind)) (Some c)
is_looked_up e (LastRead c t) = is_writing c e

module _ (e : Event) where
  abbrev LooksUp : Place → Type 0
  LooksUp p = IsTrue (is_looked_up e p)

  all_also : (a : Access) → access_of e.kind ≡ a → All LooksUp (also_looked_up a)
  all_also (Shared c) h = All-cons LooksUp (LastWrite c.0) [] (ap (λ a. are_same (cell_of a) (Some c.0)) h ∙ eq-eqb c.0 c.0 refl) (All-nil LooksUp)
  all_also (Exclusive c) h = All-cons LooksUp (LastWrite c.0) (map (LastRead c.0) thread_numbers) (ap (λ a. are_same (cell_of a) (Some c.0)) h ∙ eq-eqb c.0 c.0 refl)
      (All-map LooksUp (LastRead c.0) thread_numbers (λ k d l. ap (λ a. is_exclusive a && are_same (cell_of a) (Some c.0)) h ∙ eq-eqb c.0 c.0 refl))
  all_also (Access.Join u) h = All-cons LooksUp (LastOf u.0) [] (or_right (thread_of e == u.0) _ (ap (λ a. are_same (joined_of a) (Some u.0)) h ∙ eq-eqb u.0 u.0 refl)) (All-nil LooksUp)
  all_also _ h = All-nil LooksUp

  -- what is in the list is looked up
  pub looked_up-is : (p : Place) → Contains (looked_up e) p → IsTrue (is_looked_up e p)
  looked_up-is p w = All-contains LooksUp (looked_up e) p (All-cons LooksUp (LastOf (thread_of e)) (also_looked_up (access_of e.kind)) (or_left (thread_of e == thread_of e) (is_join_of (thread_of e) e) (eq-eqb (thread_of e) (thread_of e) refl)) (all_also (access_of e.kind) refl)) w

-- ---- in a well-formed trace

-- a thread's fork stands before its events
pub fork-first : (bounds : Bounds) (trace : List Event) (t k i : ℕ) (f g : Event) → IsWellFormed bounds trace → slice_get trace k ≡ Some f → IsTrue (is_fork_of t f) → slice_get trace i ≡ Some g → thread_of g ≡ t → k < i
fork-first bounds trace t k i f g well at forks also own =
    let turn = fork_turn (take k trace) (thread_of f) f.kind t forks (well.each k f at).in_turn in
    let born : IsTrue (was_born (take i trace) t) = subst (λ n. IsTrue (was_born (take i trace) n)) own (well.each i g also).born in
    ⊎_elim (λ before. before)
    (λ past. absurd (⊎_elim (λ first. turn.0 (eqb-true t 0 first))
    (λ forked. let w = happened-before (is_fork_of t) trace i forked in
    false≢true (sym turn.1 ∙ happened-from (is_fork_of t) trace k w.0 w.1 (omega (arith, w.2, past)) w.3 w.4)) (or_cases (t == 0) _ born)))
    (cases_lt k i)

-- a thread has one fork
fork-once : (bounds : Bounds) (trace : List Event) (t k i : ℕ) (f g : Event) → IsWellFormed bounds trace → slice_get trace k ≡ Some f → IsTrue (is_fork_of t f) → slice_get trace i ≡ Some g → IsTrue (is_fork_of t g) → i < k → ⊥
fork-once bounds trace t k i f g well at forks also other before =
    false≢true (sym (fork_turn (take k trace) (thread_of f) f.kind t forks (well.each k f at).in_turn).1 ∙ happened-from (is_fork_of t) trace k i g before also other)

-- the last of a thread that has an event is its last event
pub last_of-own : (bounds : Bounds) (trace : List Event) (t i k : ℕ) (g : Event) → IsWellFormed bounds trace → slice_get trace i ≡ Some g → thread_of g ≡ t → last_at (LastOf t) trace ≡ Some k → (f : Event) × (slice_get trace k ≡ Some f) × (thread_of f ≡ t) × (i ≤ k)
last_of-own bounds trace t i k g well at own h =
    let last = last_at-is (LastOf t) trace k h in
    let recorded : IsTrue (is_recorded g (LastOf t)) = or_left (thread_of g == t) (is_fork_of t g) (eq-eqb (thread_of g) t own) in
    let upto : i ≤ k = ⊎_elim (λ after. absurd (false≢true (sym (last.none_after i g after at) ∙ recorded))) (λ past. past) (cases_lt k i) in
    ⊎_elim
    (λ also. (last.event, last.here, eqb-true _ _ also, upto))
    (λ forks. let first = fork-first bounds trace t k i last.event g well last.here forks at own in absurd (omega (arith, first, upto)))
    (or_cases (thread_of last.event == t) (is_fork_of t last.event) last.passes)

module _ (bounds : Bounds) (trace : List Event) (e : Event) (well : IsWellFormed bounds trace) (follows : MayFollow bounds trace e) where
  -- ---- sound: what is looked up conflicts with the event

  after_join : (u : ℕ) → IsTrue (is_join_of u e) → (k : ℕ) (f : Event) → slice_get trace k ≡ Some f → IsTrue (is_fork_of u f) → ((i : ℕ) (g : Event) → k < i → slice_get trace i ≡ Some g → IsFalse (is_recorded g (LastOf u))) → ⊥
  after_join u joins k f at forks none_after =
      let exited = happened-some (is_exit_by u) trace (join_turn trace (thread_of e) e.kind u joins follows.in_turn) in
      let own : IsTrue (thread_of exited.1 == u) = (and_parts _ _ exited.3).0 in
      let first = fork-first bounds trace u k exited.0 f exited.1 well at forks exited.2 (eqb-true _ _ own) in
      false≢true (sym (none_after exited.0 exited.1 first exited.2) ∙ or_left _ _ own)

  conflicts-at : (p : Place) → IsTrue (is_looked_up e p) → (k : ℕ) → (last : IsLast (λ f. is_recorded f p) trace k) → IsTrue (conflict last.event e)
  conflicts-at (LastOf t) looks k last =
      ⊎_elim
      (λ own. ⊎_elim
      (λ also. conflict-thread last.event e (eqb-true _ _ also ∙ sym (eqb-true _ _ own)))
      (λ forks. conflict-handles last.event e (fork_handles (access_of last.event.kind) t forks ∙ ap (λ n. Some n) (sym (eqb-true _ _ own))))
      (or_cases _ _ last.passes))
      (λ joins. ⊎_elim
      (λ also. conflict-handled last.event e (join_handles (access_of e.kind) t joins ∙ ap (λ n. Some n) (sym (eqb-true _ _ also))))
      (λ forks. absurd (after_join t joins k last.event last.here forks last.none_after))
      (or_cases _ _ last.passes))
      (or_cases _ _ looks)
  conflicts-at (LastWrite x) looks k last =
      let w = and_parts (is_exclusive (access_of last.event.kind)) _ last.passes in
      conflict-cell last.event e (are_same-from _ _ x (are_same-some _ x w.1) (are_same-some _ x looks)) (or_left _ _ w.0)
  conflicts-at (LastRead x t) looks k last =
      let w = and_parts (is_exclusive (access_of e.kind)) _ looks in
      let r = and_parts _ (thread_of last.event == t) last.passes in
      conflict-cell last.event e (are_same-from _ _ x (are_same-some _ x (and_parts (is_shared (access_of last.event.kind)) _ r.0).1) (are_same-some _ x w.1)) (or_right _ _ w.0)

  -- the last event of a place that the event looks up conflicts with it
  pub looked_up-conflicts : (p : Place) (k : ℕ) → Contains (looked_up e) p → last_at p trace ≡ Some k → IsTrue (conflict_at (trace ++ e ∷ []) k (length trace))
  looked_up-conflicts p k looks h =
      let last = last_at-is p trace k h in
      conflict_at-events (trace ++ e ∷ []) k (length trace) last.event e (slice_get-append trace (e ∷ []) k (last_at-within p trace k h) ∙ last.here) (slice_get-push trace e) (conflicts-at p (looked_up-is e p looks) k last)

-- position i is, or happens before, the last event of a place that the event looks up
pub record IsReached (trace : List Event) (e : Event) (i : ℕ) : Type 0 where
  pub place : Place
  pub at : ℕ
  pub looked : Contains (looked_up e) place
  pub last : last_at place trace ≡ Some at
  pub after : Reaches (ConflictsInOrder trace) i at

module _ (bounds : Bounds) (trace : List Event) (e : Event) (well : IsWellFormed bounds trace) (follows : MayFollow bounds trace e) (few : bounds.threads ≤ 64) (i : ℕ) (f : Event) (here : slice_get trace i ≡ Some f) where
  -- ---- complete: each earlier event that conflicts with it is reached

  -- by a place at which it is recorded, and where later events conflict with it
  reached-by : (p : Place) → Contains (looked_up e) p → IsTrue (is_recorded f p) → ((k : ℕ) (g : Event) → i < k → slice_get trace k ≡ Some g → IsTrue (is_recorded g p) → IsTrue (conflict f g)) → IsReached trace e i
  reached-by p looks recorded later =
      let w = last_position-at (λ g. is_recorded g p) trace i f here recorded in
      let last = last_at-is p trace w.0 w.1 in
      record {
        place = p;
        at = w.0;
        looked = looks;
        last = w.1;
        after = ⊎_elim
            (λ before. inr ([], (before, conflict_at-events trace i w.0 f last.event here last.here (later w.0 last.event before last.here last.passes))))
            (λ past. inl (let same : i ≡ w.0 = omega (arith, past, w.2) in same))
            (cases_lt i w.0);
      }

  -- an event of the thread u, where the last of u is looked up
  reached-thread : (u : ℕ) → Contains (looked_up e) (LastOf u) → thread_of f ≡ u → IsReached trace e i
  reached-thread u looks own =
      reached-by (LastOf u) looks (or_left _ _ (eq-eqb _ _ own))
      (λ k g before at recorded. ⊎_elim
      (λ also. conflict-thread f g (own ∙ sym (eqb-true _ _ also)))
      (λ forks. conflict-handled f g (fork_handles (access_of g.kind) u forks ∙ ap (λ n. Some n) (sym own)))
      (or_cases _ _ recorded))

  -- the fork of the own thread
  reached-fork : IsTrue (is_fork_of (thread_of e) f) → IsReached trace e i
  reached-fork forks =
      reached-by (LastOf (thread_of e)) (looked_up-own e) (or_right _ _ forks)
      (λ k g before at recorded. ⊎_elim
      (λ also. conflict-handles f g (fork_handles (access_of f.kind) (thread_of e) forks ∙ ap (λ n. Some n) (sym (eqb-true _ _ also))))
      (λ again. absurd (fork-once bounds trace (thread_of e) k i g f well at again here forks before))
      (or_cases _ _ recorded))

  -- a write of a variable that is accessed
  reached-write : (x : ℕ) → cell_of (access_of e.kind) ≡ Some x → cell_of (access_of f.kind) ≡ Some x → IsTrue (is_exclusive (access_of f.kind)) → IsReached trace e i
  reached-write x accesses same writes =
      reached-by (LastWrite x) (further _ _ _ (also-access (access_of e.kind) x accesses)) (and_from _ _ writes (are_same-from _ _ x same refl))
      (λ k g before at recorded. conflict-cell f g (are_same-from _ _ x same (are_same-some _ x (and_parts (is_exclusive (access_of g.kind)) _ recorded).1)) (or_left _ _ writes))

  -- a read of a variable that is written
  reached-read : (x : ℕ) → cell_of (access_of e.kind) ≡ Some x → cell_of (access_of f.kind) ≡ Some x → IsTrue (is_exclusive (access_of e.kind)) → IsTrue (is_shared (access_of f.kind)) → IsReached trace e i
  reached-read x accesses same writes reads =
      reached-by (LastRead x (thread_of f)) (further _ _ _ (also-write (access_of e.kind) x (thread_of f) accesses writes (let known = (well.each i f here).known_thread in omega (arith, known, few))))
      (and_from _ _ (and_from _ _ reads (are_same-from _ _ x same refl)) (eq-eqb _ _ refl))
      (λ k g before at recorded. conflict-thread f g (sym (eqb-true _ _ (and_parts _ (thread_of g == thread_of f) recorded).1)))

  -- nothing of a thread follows its join
  pub no_join : IsTrue (is_join_of (thread_of e) f) → ⊥
  no_join joins =
      let exited = happened-before (is_exit_by (thread_of e)) trace i (join_turn (take i trace) (thread_of f) f.kind (thread_of e) joins (well.each i f here).in_turn) in
      false≢true (sym follows.not_exited ∙ happened-at (is_exit_by (thread_of e)) trace exited.0 exited.1 exited.3 exited.4)

  -- and nothing of it comes before its fork
  pub no_fork : IsTrue (is_fork_of (thread_of f) e) → ⊥
  no_fork forks =
      let turn = fork_turn trace (thread_of e) e.kind (thread_of f) forks follows.in_turn in
      ⊎_elim (λ first. turn.0 (eqb-true _ _ first))
      (λ forked. let w = happened-before (is_fork_of (thread_of f)) trace i forked in false≢true (sym turn.1 ∙ happened-at (is_fork_of (thread_of f)) trace w.0 w.1 w.3 w.4))
      (or_cases (thread_of f == 0) _ (well.each i f here).born)

  pub reached-from_conflict : IsTrue (conflict f e) → IsReached trace e i
  reached-from_conflict h = ⊎_elim
      (λ most. ⊎_elim
      (λ some. ⊎_elim
      (λ own. reached-thread (thread_of e) (looked_up-own e) (eqb-true _ _ own))
      (λ access.
      let parts = and_parts (are_same (cell_of (access_of f.kind)) (cell_of (access_of e.kind))) _ access in
      let same = are_same-both _ _ parts.0 in
      ⊎_elim (λ writes. reached-write same.0 same.2 same.1 writes)
      (λ reads. ⊎_elim
      (λ writes. reached-write same.0 same.2 same.1 writes)
      (λ writes. reached-read same.0 same.2 same.1 writes reads)
      (or_cases _ _ parts.1))
      (reads_or_writes (access_of f.kind) same.0 same.1))
      (or_cases _ _ some))
      (λ handles. ⊎_elim (λ forks. reached-fork forks) (λ joins. absurd (no_join joins)) (forks_or_joins (access_of f.kind) (thread_of e) handles))
      (or_cases _ _ most))
      (λ handled. ⊎_elim (λ forks. absurd (no_fork forks)) (λ joins. reached-thread (thread_of f) (further _ _ _ (also-join (access_of e.kind) (thread_of f) joins)) refl) (forks_or_joins (access_of e.kind) (thread_of f) handled))
      (or_cases _ _ h)
