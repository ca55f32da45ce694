-- What conflicts with an event, by the groups that the event looks at.
use Rattle.std.proofs.Common.{◌≡◌, ℕ, suc, ◌<◌, ◌≤◌, Bool, List, [], ◌∷◌, Some, refl, sym, ap, ◌∙◌, subst, arith, ⊎_elim}
use Rattle.std.specs.Prelude.{◌==◌, ◌||◌, ◌&&◌, IsTrue, slice_get, Contains, All}
use Rattle.std.proofs.lemmas.Bool.{false≢true, eqb-true, eq-eqb, or_cases, or_left, or_right, and_parts, and_from}
use Rattle.std.proofs.lemmas.Option.{none-some, same_Some}
use Rattle.std.proofs.lemmas.List.Elements.{All-cons, All-nil, All-contains}
use Rattle.velo_events.specs.declared.config.Bounds.{Bounds}
use Rattle.velo_events.specs.declared.event.Event.{Event}
use Rattle.velo_events.specs.declared.event.Kind.{Kind}
use Rattle.velo_events.specs.declared.event.Kind.TheVariants.{Join}
use Rattle.velo_events.specs.declared.event.Access.{Access}
use Rattle.velo_events.specs.declared.event.Access.TheVariants.{Shared, Exclusive}
use Rattle.velo_events.specs.Event.{are_same, thread_of, access_of, cell_of, joined_of, forked_or_joined_of, thread_joined, thread_forked_or_joined, is_exclusive, is_shared, is_by, is_exit_by, is_fork_of, is_join_of, is_writing}
use Rattle.velo_events.specs.Conflict.{conflict}
use Rattle.velo_events.specs.WellFormed.{IsWellFormed, MayFollow, IsInTurn}
use Rattle.velo_events.specs.Heap.{happened}
use Rattle.velo_events.proofs.OnLookUps.{are_same-some, are_same-both, are_same-from, conflict-thread, conflict-cell, conflict-handled, fork_handles, forks_or_joins, reads_or_writes, happened-some, fork-first, no_join, no_fork}
use Rattle.velo_search.specs.declared.group.Group.{Group}
use Rattle.velo_search.specs.declared.group.Group.TheVariants.{OfThread, WritesOf, ReadsOf}
use Rattle.velo_search.specs.Groups.{is_in, looks_at, also_looks_at}

-- ---- the list of groups

further : (g : Group) (gs : List Group) (h : Group) → Contains gs h → Contains (g ∷ gs) h
further g gs h w = (suc w.0, omega (arith, w.1), w.2)

pub looks_at-own : (e : Event) → Contains (looks_at e) (OfThread e.thread)
looks_at-own e = (0, omega arith, refl)

also-join : (a : Access) (u : ℕ) → IsTrue (are_same (joined_of a) (Some u)) → Contains (also_looks_at a) (OfThread (record { 0 = u }))
also-join (Access.Join t) u h = (0, omega arith, ap (λ n. OfThread (record { 0 = n })) (eqb-true t.0 u h))
also-join _ u h = absurd (false≢true h)

also-writes : (a : Access) (c : ℕ) → cell_of a ≡ Some c → Contains (also_looks_at a) (WritesOf (record { 0 = c }))
also-writes (Shared d) c h = (0, omega arith, ap (λ n. WritesOf (record { 0 = n })) (same_Some d.0 c h))
also-writes (Exclusive d) c h = (0, omega arith, ap (λ n. WritesOf (record { 0 = n })) (same_Some d.0 c h))
also-writes _ c h = absurd (none-some c h)

also-reads : (a : Access) (c : ℕ) → cell_of a ≡ Some c → IsTrue (is_exclusive a) → Contains (also_looks_at a) (ReadsOf (record { 0 = c }))
also-reads (Exclusive d) c h w = (1, omega arith, ap (λ n. ReadsOf (record { 0 = n })) (same_Some d.0 c h))
also-reads _ c h w = absurd (false≢true w)

-- the event looks at the group
abbrev does_look_at : Event → Group → Bool
does_look_at e (OfThread t) = is_by t.0 e || is_join_of t.0 e
does_look_at e (WritesOf c) = are_same (cell_of (access_of e.kind)) (Some c.0)
does_look_at e (ReadsOf c) = is_writing c.0 e

module _ (e : Event) where
  abbrev LooksAt : Group → Type 0
  LooksAt g = IsTrue (does_look_at e g)

  all_also : (a : Access) → access_of e.kind ≡ a → All LooksAt (also_looks_at a)
  all_also (Shared c) h = All-cons LooksAt (WritesOf c) [] (ap (λ a. are_same (cell_of a) (Some c.0)) h ∙ eq-eqb c.0 c.0 refl) (All-nil LooksAt)
  all_also (Exclusive c) h = All-cons LooksAt (WritesOf c) (ReadsOf c ∷ []) (ap (λ a. are_same (cell_of a) (Some c.0)) h ∙ eq-eqb c.0 c.0 refl)
      (All-cons LooksAt (ReadsOf c) [] (ap (λ a. is_exclusive a && are_same (cell_of a) (Some c.0)) h ∙ eq-eqb c.0 c.0 refl) (All-nil LooksAt))
  all_also (Access.Join u) h = All-cons LooksAt (OfThread u) [] (or_right (thread_of e == u.0) _ (ap (λ a. are_same (joined_of a) (Some u.0)) h ∙ eq-eqb u.0 u.0 refl)) (All-nil LooksAt)
  all_also _ h = All-nil LooksAt

  looks_at-does : (g : Group) → Contains (looks_at e) g → IsTrue (does_look_at e g)
  looks_at-does g w = All-contains LooksAt (looks_at e) g (All-cons LooksAt (OfThread e.thread) (also_looks_at (access_of e.kind)) (or_left (is_by (thread_of e) e) (is_join_of (thread_of e) e) (eq-eqb (thread_of e) (thread_of e) refl)) (all_also (access_of e.kind) refl)) w

-- a thread is joined after its exit
join_turn : (earlier : List Event) (by : ℕ) (k : Kind) (t : ℕ) → IsTrue (are_same (thread_joined k) (Some t)) → IsInTurn earlier by k → IsTrue (happened (is_exit_by t) earlier)
join_turn earlier by (Join u) t h turn = subst (λ n. IsTrue (happened (is_exit_by n) earlier)) (eqb-true u.0 t h) turn.0
join_turn earlier by _ t h turn = absurd (false≢true h)

join_handles : (a : Access) (t : ℕ) → IsTrue (are_same (joined_of a) (Some t)) → forked_or_joined_of a ≡ Some t
join_handles (Access.Join u) t h = ap (λ n. Some n) (eqb-true u.0 t h)
join_handles _ t h = absurd (false≢true h)

conflict-handles : (a b : Event) → thread_forked_or_joined a.kind ≡ Some (thread_of b) → IsTrue (conflict a b)
conflict-handles a b h = or_left _ _ (or_right _ _ (are_same-from _ _ (thread_of b) h refl))

-- an event of the trace conflicts with the appended one, or does so with a later event of the trace that does
pub data MeetsEvent (trace : List Event) (e : Event) (i : ℕ) (f : Event) : Type 0 where
  Directly : IsTrue (conflict f e) → MeetsEvent trace e i f
  By : (k : ℕ) (g : Event) → i < k → slice_get trace k ≡ Some g → IsTrue (conflict f g) → IsTrue (conflict g e) → MeetsEvent trace e i f

module _ (bounds : Bounds) (trace : List Event) (e : Event) (well : IsWellFormed bounds trace) (follows : MayFollow bounds trace e) (few : bounds.threads ≤ 64) (i : ℕ) (f : Event) (here : slice_get trace i ≡ Some f) where
  -- the fork of a thread that the event joins: the thread's exit stands between
  by_exit : (u : ℕ) → IsTrue (is_fork_of u f) → IsTrue (is_join_of u e) → MeetsEvent trace e i f
  by_exit u forks joins =
      let exited = happened-some (is_exit_by u) trace (join_turn trace (thread_of e) e.kind u joins follows.in_turn) in
      let own : thread_of exited.1 ≡ u = eqb-true _ _ (and_parts _ _ exited.3).0 in
      By exited.0 exited.1 (fork-first bounds trace u i exited.0 f exited.1 well here forks exited.2 own) exited.2
      (conflict-handles f exited.1 (fork_handles (access_of f.kind) u forks ∙ ap (λ n. Some n) (sym own)))
      (conflict-handled exited.1 e (join_handles (access_of e.kind) u joins ∙ ap (λ n. Some n) (sym own)))

  meets-looked : (g : Group) → IsTrue (does_look_at e g) → IsTrue (is_in f g) → MeetsEvent trace e i f
  meets-looked (OfThread t) looks member = ⊎_elim
      (λ own. ⊎_elim
      (λ also. Directly (conflict-thread f e (eqb-true _ _ also ∙ sym (eqb-true _ _ own))))
      (λ forks. Directly (conflict-handles f e (fork_handles (access_of f.kind) t.0 forks ∙ ap (λ n. Some n) (sym (eqb-true _ _ own)))))
      (or_cases _ _ member))
      (λ joins. ⊎_elim
      (λ also. Directly (conflict-handled f e (join_handles (access_of e.kind) t.0 joins ∙ ap (λ n. Some n) (sym (eqb-true _ _ also)))))
      (λ forks. by_exit t.0 forks joins)
      (or_cases _ _ member))
      (or_cases _ _ looks)
  meets-looked (WritesOf c) looks member =
      let w = and_parts (is_exclusive (access_of f.kind)) _ member in
      Directly (conflict-cell f e (are_same-from _ _ c.0 (are_same-some _ c.0 w.1) (are_same-some _ c.0 looks)) (or_left _ _ w.0))
  meets-looked (ReadsOf c) looks member =
      let w = and_parts (is_exclusive (access_of e.kind)) _ looks in
      let r = and_parts (is_shared (access_of f.kind)) _ member in
      Directly (conflict-cell f e (are_same-from _ _ c.0 (are_same-some _ c.0 r.1) (are_same-some _ c.0 w.1)) (or_right _ _ w.0))

  -- 1. an event of a group that the event looks at meets it
  pub looks_at-meets : (g : Group) → Contains (looks_at e) g → IsTrue (is_in f g) → MeetsEvent trace e i f
  looks_at-meets g looks member = meets-looked g (looks_at-does e g looks) member

  -- 2. what conflicts with the event is in a group that it looks at
  pub conflict-looked : IsTrue (conflict f e) → (g : Group) × Contains (looks_at e) g × IsTrue (is_in f g)
  conflict-looked h = ⊎_elim
      (λ most. ⊎_elim
      (λ some. ⊎_elim
      (λ own. (OfThread e.thread, looks_at-own e, or_left _ _ own))
      (λ access.
      let parts = and_parts (are_same (cell_of (access_of f.kind)) (cell_of (access_of e.kind))) _ access in
      let same = are_same-both _ _ parts.0 in
      ⊎_elim (λ writes. written same.0 same.2 same.1 writes)
      (λ reads. ⊎_elim
      (λ writes. written same.0 same.2 same.1 writes)
      (λ writes. (ReadsOf (record { 0 = same.0 }), further _ _ _ (also-reads (access_of e.kind) same.0 same.2 writes), and_from _ _ reads (are_same-from _ _ same.0 same.1 refl)))
      (or_cases _ _ parts.1))
      (reads_or_writes (access_of f.kind) same.0 same.1))
      (or_cases _ _ some))
      (λ handles. ⊎_elim
      (λ forks. (OfThread e.thread, looks_at-own e, or_right _ _ forks))
      (λ joins. absurd (no_join bounds trace e well follows few i f here joins))
      (forks_or_joins (access_of f.kind) (thread_of e) handles))
      (or_cases _ _ most))
      (λ handled. ⊎_elim
      (λ forks. absurd (no_fork bounds trace e well follows few i f here forks))
      (λ joins. (OfThread f.thread, further _ _ _ (also-join (access_of e.kind) (thread_of f) joins), or_left (is_by (thread_of f) f) (is_fork_of (thread_of f) f) (eq-eqb (thread_of f) (thread_of f) refl)))
      (forks_or_joins (access_of e.kind) (thread_of f) handled))
      (or_cases _ _ h)
    where
      written : (c : ℕ) → cell_of (access_of e.kind) ≡ Some c → cell_of (access_of f.kind) ≡ Some c → IsTrue (is_exclusive (access_of f.kind)) → (g : Group) × Contains (looks_at e) g × IsTrue (is_in f g)
      written c accesses same writes = (WritesOf (record { 0 = c }), further _ _ _ (also-writes (access_of e.kind) c accesses), and_from _ _ writes (are_same-from _ _ c same refl))
