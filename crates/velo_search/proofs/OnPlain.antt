-- A log and the log without its values have the same transactions, edges and cycles, and leave the same statuses and holders.
use Rattle.std.proofs.Common.{◌≡◌, ℕ, ◌+◌, Bool, true, false, cond, List, [], ◌∷◌, take, drop, Option, Some, None, refl, sym, ap, ◌∙◌, subst, arith}
use Rattle.std.specs.Prelude.{slice_get, ◌&&◌, ◌||◌, ◌==◌, not, nat_le, if◌then◌else◌, option_map, option_and_then}
use Rattle.std.specs.List.{list_any}
use Rattle.std.specs.Option.{option_or, option_map_or}
use Rattle.std.proofs.lemmas.List.{take-map, drop-map, length-map}
use Rattle.std.proofs.lemmas.List.Sums.{sum_by-cons}
use Rattle.std.proofs.lemmas.Option.{slice_get-map, same_Some, none-some}
use Rattle.velo_events.specs.declared.config.Bounds.{Bounds}
use Rattle.velo_events.specs.declared.event.Event.{Event}
use Rattle.velo_events.specs.declared.event.Kind.{Kind}
use Rattle.velo_events.specs.declared.event.Kind.TheVariants.{Read, Write, Acquire, Release, AcquireShared, ReleaseShared, Begin, End, Fork, Join, Exit}
use Rattle.velo_events.specs.Event.{are_same, thread_of, variable_of, exclusive_lock_of, shared_lock_of, access_of, forked_of, joined_of, value_of, is_write, is_acquire, is_release, is_acquire_shared, is_release_shared, is_begin, is_end, is_exit, is_by, is_begin_by, is_end_by, is_acquire_by, is_release_by, is_acquire_shared_by, is_release_shared_by, is_exit_by, is_write_of, is_on_lock, is_on_share, is_fork_of, is_join_of}
use Rattle.velo_events.specs.Conflict.{conflict}
use Rattle.velo_events.specs.Heap.{latest, happened, times, value_in, holder_in, shares_in, was_born, status_in, depth_in}
use Rattle.velo_events.specs.Block.{any_below, passes_at, is_balanced, is_open_at, is_in_block, owner}
use Rattle.velo_events.specs.Graph.{both_conflict, conflict_at, Edge, HasCycle}
use Rattle.velo_events.specs.WellFormed.{NamesKnown, IsInTurn, MayFollow, IsWellFormed}
use Rattle.velo_events.proofs.OnBlocks.{any_below-same, least_below-same}
use Rattle.velo_events.proofs.OnGraphs.{IsCycle-map}
use Rattle.velo_search.specs.Plain.{plain_kind, plain, plain_log}

-- ---- one operation

same_variable : (k : Kind) → variable_of (plain_kind k) ≡ variable_of k
same_variable (Read x v) = refl
same_variable (Write x v) = refl
same_variable _ = refl

same_locked : (k : Kind) → exclusive_lock_of (plain_kind k) ≡ exclusive_lock_of k
same_locked (Read x v) = refl
same_locked (Write x v) = refl
same_locked _ = refl

same_shared : (k : Kind) → shared_lock_of (plain_kind k) ≡ shared_lock_of k
same_shared (Read x v) = refl
same_shared (Write x v) = refl
same_shared _ = refl

pub same_access : (k : Kind) → access_of (plain_kind k) ≡ access_of k
same_access (Read x v) = refl
same_access (Write x v) = refl
same_access _ = refl

same_write : (k : Kind) → is_write (plain_kind k) ≡ is_write k
same_write (Read x v) = refl
same_write (Write x v) = refl
same_write _ = refl

pub same_acquire : (k : Kind) → is_acquire (plain_kind k) ≡ is_acquire k
same_acquire (Read x v) = refl
same_acquire (Write x v) = refl
same_acquire _ = refl

pub same_release : (k : Kind) → is_release (plain_kind k) ≡ is_release k
same_release (Read x v) = refl
same_release (Write x v) = refl
same_release _ = refl

pub same_acquire_shared : (k : Kind) → is_acquire_shared (plain_kind k) ≡ is_acquire_shared k
same_acquire_shared (Read x v) = refl
same_acquire_shared (Write x v) = refl
same_acquire_shared _ = refl

pub same_release_shared : (k : Kind) → is_release_shared (plain_kind k) ≡ is_release_shared k
same_release_shared (Read x v) = refl
same_release_shared (Write x v) = refl
same_release_shared _ = refl

pub same_begin : (k : Kind) → is_begin (plain_kind k) ≡ is_begin k
same_begin (Read x v) = refl
same_begin (Write x v) = refl
same_begin _ = refl

pub same_end : (k : Kind) → is_end (plain_kind k) ≡ is_end k
same_end (Read x v) = refl
same_end (Write x v) = refl
same_end _ = refl

pub same_exit : (k : Kind) → is_exit (plain_kind k) ≡ is_exit k
same_exit (Read x v) = refl
same_exit (Write x v) = refl
same_exit _ = refl

no_value : (k : Kind) → value_of (plain_kind k) ≡ 0
no_value (Read x v) = refl
no_value (Write x v) = refl
no_value _ = refl

same_conflict : (a b : Event) → conflict (plain a) (plain b) ≡ conflict a b
same_conflict a b = rw (same_access a.kind, same_access b.kind) refl

-- ---- tests of all events

-- the value plays no part in the test
abbrev pub IsBlind : (Event → Bool) → Type 0
IsBlind test = (e : Event) → test (plain e) ≡ test e

blind_begin : (t : ℕ) → IsBlind (is_begin_by t)
blind_begin t e = ap (λ b. is_by t e && b) (same_begin e.kind)

blind_end : (t : ℕ) → IsBlind (is_end_by t)
blind_end t e = ap (λ b. is_by t e && b) (same_end e.kind)

blind_acquire : (t : ℕ) → IsBlind (is_acquire_by t)
blind_acquire t e = ap (λ b. is_by t e && b) (same_acquire e.kind)

blind_release : (t : ℕ) → IsBlind (is_release_by t)
blind_release t e = ap (λ b. is_by t e && b) (same_release e.kind)

blind_acquire_shared : (t : ℕ) → IsBlind (is_acquire_shared_by t)
blind_acquire_shared t e = ap (λ b. is_by t e && b) (same_acquire_shared e.kind)

blind_release_shared : (t : ℕ) → IsBlind (is_release_shared_by t)
blind_release_shared t e = ap (λ b. is_by t e && b) (same_release_shared e.kind)

blind_share : (m t : ℕ) → IsBlind (is_on_share m t)
blind_share m t e = ap (λ o. is_by t e && are_same o (Some m)) (same_shared e.kind)

blind_exit : (t : ℕ) → IsBlind (is_exit_by t)
blind_exit t e = ap (λ b. is_by t e && b) (same_exit e.kind)

blind_fork : (t : ℕ) → IsBlind (is_fork_of t)
blind_fork t e = ap (λ a. are_same (forked_of a) (Some t)) (same_access e.kind)

blind_join : (t : ℕ) → IsBlind (is_join_of t)
blind_join t e = ap (λ a. are_same (joined_of a) (Some t)) (same_access e.kind)

blind_lock : (m : ℕ) → IsBlind (is_on_lock m)
blind_lock m e = ap (λ o. are_same o (Some m)) (same_locked e.kind)

times-cons : (test : Event → Bool) (e : Event) (es : List Event) → times test (e ∷ es) ≡ cond {A = ℕ} (test e) 1 0 + times test es
unfolding times
times-cons test e es = sum_by-cons (λ x. cond {A = ℕ} (test x) 1 0) e es

times-plain : (test : Event → Bool) → IsBlind test → (es : List Event) → times test (plain_log es) ≡ times test es
times-plain test blind [] = refl
times-plain test blind (e ∷ es) =
    times-cons test (plain e) (plain_log es)
    ∙ (ap (λ b. cond {A = ℕ} b 1 0 + times test (plain_log es)) (blind e)
    ∙ (ap (λ n. cond {A = ℕ} (test e) 1 0 + n) (times-plain test blind es) ∙ sym (times-cons test e es)))

happened-plain : (test : Event → Bool) → IsBlind test → (es : List Event) → happened test (plain_log es) ≡ happened test es
unfolding happened
happened-plain test blind [] = refl
happened-plain test blind (e ∷ es) = ap (λ b. b || list_any test (plain_log es)) (blind e) ∙ ap (λ b. test e || b) (happened-plain test blind es)

latest-plain : (test : Event → Bool) → IsBlind test → (es : List Event) → latest test (plain_log es) ≡ option_map plain (latest test es)
unfolding latest
latest-plain test blind [] = refl
latest-plain test blind (e ∷ es) =
    ap (λ o. option_or o (if test (plain e) then Some (plain e) else None)) (latest-plain test blind es)
    ∙ (ap (λ b. option_or (option_map plain (latest test es)) (if b then Some (plain e) else None)) (blind e)
    ∙ either (latest test es) (test e))
  where
    either : (o : Option Event) (b : Bool) → option_or (option_map plain o) (if b then Some (plain e) else None) ≡ option_map plain (option_or o (if b then Some e else None))
    either (Some f) b = refl
    either None true = refl
    either None false = refl

pub passes_at-plain : (test : Event → Bool) → IsBlind test → (es : List Event) (i : ℕ) → passes_at (plain_log es) test i ≡ passes_at es test i
unfolding passes_at
passes_at-plain test blind es i = ap (λ o. option_map_or test o false) (slice_get-map plain es i) ∙ at (slice_get es i)
  where
    at : (o : Option Event) → option_map_or test (option_map plain o) false ≡ option_map_or test o false
    at None = refl
    at (Some e) = blind e

-- ---- blocks and transactions

is_balanced-plain : (es : List Event) (t b e : ℕ) → is_balanced (plain_log es) t b e ≡ is_balanced es t b e
unfolding is_balanced
is_balanced-plain es t b e =
    let part : drop b (take (e + 1) (plain_log es)) ≡ plain_log (drop b (take (e + 1) es)) = ap (λ xs. drop b xs) (take-map plain (e + 1) es) ∙ drop-map plain b (take (e + 1) es) in
    ap (λ xs. times (is_end_by t) xs == times (is_begin_by t) xs) part
    ∙ (ap (λ n. n == times (is_begin_by t) (plain_log (drop b (take (e + 1) es)))) (times-plain (is_end_by t) (blind_end t) (drop b (take (e + 1) es)))
    ∙ ap (λ n. times (is_end_by t) (drop b (take (e + 1) es)) == n) (times-plain (is_begin_by t) (blind_begin t) (drop b (take (e + 1) es))))

pub is_open_at-plain : (es : List Event) (t b n : ℕ) → is_open_at (plain_log es) t b n ≡ is_open_at es t b n
unfolding is_open_at
is_open_at-plain es t b n =
    ap (λ x. x && not (any_below n (λ e. nat_le b e && is_balanced (plain_log es) t b e))) (passes_at-plain (is_begin_by t) (blind_begin t) es b)
    ∙ ap (λ x. passes_at es (is_begin_by t) b && not x) (any_below-same n _ _ (λ k l. ap (λ x. nat_le b k && x) (is_balanced-plain es t b k)))

is_in_block-plain : (es : List Event) (b i : ℕ) → is_in_block (plain_log es) b i ≡ is_in_block es b i
unfolding is_in_block passes_at
is_in_block-plain es b i = ap (λ x. nat_le b i && x)
    (ap (λ o. option_map_or (λ e. is_open_at (plain_log es) (thread_of e) b i) o false) (slice_get-map plain es i) ∙ at (slice_get es i))
  where
    at : (o : Option Event) → option_map_or (λ e. is_open_at (plain_log es) (thread_of e) b i) (option_map plain o) false ≡ option_map_or (λ e. is_open_at es (thread_of e) b i) o false
    at None = refl
    at (Some e) = is_open_at-plain es (thread_of e) b i

pub owner-plain : (es : List Event) (i : ℕ) → owner (plain_log es) i ≡ owner es i
unfolding owner
owner-plain es i = least_below-same i _ _ (λ k l. is_in_block-plain es k i)

-- ---- the graph

conflict_at-plain : (es : List Event) (i j : ℕ) → conflict_at (plain_log es) i j ≡ conflict_at es i j
unfolding conflict_at
conflict_at-plain es i j = ap (λ o. both_conflict o (slice_get (plain_log es) j)) (slice_get-map plain es i) ∙ (ap (both_conflict (option_map plain (slice_get es i))) (slice_get-map plain es j) ∙ both (slice_get es i) (slice_get es j))
  where
    both : (o p : Option Event) → both_conflict (option_map plain o) (option_map plain p) ≡ both_conflict o p
    both None p = refl
    both (Some a) None = refl
    both (Some a) (Some b) = same_conflict a b

Edge-plain : (es : List Event) (a b : ℕ) → Edge es a b → Edge (plain_log es) a b
Edge-plain es a b e = record {
  from = e.from;
  to = e.to;
  in_order = e.in_order;
  in_trace = omega (arith, e.in_trace, length-map es plain);
  in_conflict = conflict_at-plain es e.from e.to ∙ e.in_conflict;
  of_from = owner-plain es e.from ∙ e.of_from;
  of_to = owner-plain es e.to ∙ e.of_to;
  differ = e.differ;
}

Edge-from_plain : (es : List Event) (a b : ℕ) → Edge (plain_log es) a b → Edge es a b
Edge-from_plain es a b e = record {
  from = e.from;
  to = e.to;
  in_order = e.in_order;
  in_trace = omega (arith, e.in_trace, length-map es plain);
  in_conflict = sym (conflict_at-plain es e.from e.to) ∙ e.in_conflict;
  of_from = sym (owner-plain es e.from) ∙ e.of_from;
  of_to = sym (owner-plain es e.to) ∙ e.of_to;
  differ = e.differ;
}

-- 49. the same cycles
pub HasCycle-plain : (es : List Event) → HasCycle es → HasCycle (plain_log es)
HasCycle-plain es c = record { cycle = c.cycle; is_cycle = IsCycle-map (Edge es) (Edge (plain_log es)) (Edge-plain es) c.cycle c.is_cycle }

pub HasCycle-from_plain : (es : List Event) → HasCycle (plain_log es) → HasCycle es
HasCycle-from_plain es c = record { cycle = c.cycle; is_cycle = IsCycle-map (Edge (plain_log es)) (Edge es) (Edge-from_plain es) c.cycle c.is_cycle }

-- ---- what the log leaves

pub status_in-plain : (es : List Event) (t : ℕ) → status_in (plain_log es) t ≡ status_in es t
status_in-plain es t = rw (happened-plain (is_join_of t) (blind_join t) es, happened-plain (is_exit_by t) (blind_exit t) es, happened-plain (is_fork_of t) (blind_fork t) es) refl

pub was_born-plain : (es : List Event) (t : ℕ) → was_born (plain_log es) t ≡ was_born es t
was_born-plain es t = ap (λ b. (t == 0) || b) (happened-plain (is_fork_of t) (blind_fork t) es)

pub depth_in-plain : (es : List Event) (t : ℕ) → depth_in (plain_log es) t ≡ depth_in es t
depth_in-plain es t = rw (times-plain (is_begin_by t) (blind_begin t) es, times-plain (is_end_by t) (blind_end t) es) refl

pub holder_in-plain : (es : List Event) (m : ℕ) → holder_in (plain_log es) m ≡ holder_in es m
holder_in-plain es m = ap (λ o. option_and_then (λ e. if is_acquire e.kind then Some (thread_of e) else None) o) (latest-plain (is_on_lock m) (blind_lock m) es) ∙ at (latest (is_on_lock m) es)
  where
    at : (o : Option Event) → option_and_then {T = Event} {U = ℕ} (λ e. if is_acquire e.kind then Some (thread_of e) else None) (option_map plain o) ≡ option_and_then (λ e. if is_acquire e.kind then Some (thread_of e) else None) o
    at None = refl
    at (Some e) = ap (λ b. if b then Some (thread_of e) else None) (same_acquire e.kind)

pub shares_in-plain : (es : List Event) (m t : ℕ) → shares_in (plain_log es) m t ≡ shares_in es m t
shares_in-plain es m t = ap (λ o. option_map_or (λ e. is_acquire_shared e.kind) o false) (latest-plain (is_on_share m t) (blind_share m t) es) ∙ at (latest (is_on_share m t) es)
  where
    at : (o : Option Event) → option_map_or (λ e. is_acquire_shared e.kind) (option_map plain o) false ≡ option_map_or (λ e. is_acquire_shared e.kind) o false
    at None = refl
    at (Some e) = same_acquire_shared e.kind

blind_write : (x : ℕ) → IsBlind (is_write_of x)
blind_write x e = ap (λ b. b && are_same (variable_of (plain_kind e.kind)) (Some x)) (same_write e.kind) ∙ ap (λ o. is_write e.kind && are_same o (Some x)) (same_variable e.kind)

-- every value is 0
pub value_in-plain : (es : List Event) (x : ℕ) → value_in (plain_log es) x ≡ 0
value_in-plain es x = ap (λ o. option_map_or (λ e. value_of e.kind) o 0) (latest-plain (is_write_of x) (blind_write x) es) ∙ at (latest (is_write_of x) es)
  where
    at : (o : Option Event) → option_map_or (λ e. value_of e.kind) (option_map plain o) 0 ≡ 0
    at None = refl
    at (Some e) = no_value e.kind

-- ---- it is well-formed

names-plain : (bounds : Bounds) (k : Kind) → NamesKnown bounds k → NamesKnown bounds (plain_kind k)
names-plain bounds (Read x v) h = h
names-plain bounds (Write x v) h = h
names-plain bounds (Acquire m) h = h
names-plain bounds (Release m) h = h
names-plain bounds (AcquireShared m) h = h
names-plain bounds (ReleaseShared m) h = h
names-plain bounds (Begin l) h = h
names-plain bounds End h = h
names-plain bounds (Fork u) h = h
names-plain bounds (Join u) h = h
names-plain bounds Exit h = h

turn-plain : (es : List Event) (t : ℕ) (k : Kind) → IsInTurn es t k → IsInTurn (plain_log es) t (plain_kind k)
turn-plain es t (Read x v) h = sym (value_in-plain es x.0)
turn-plain es t (Write x v) h = h
turn-plain es t (Acquire m) h = (holder_in-plain es m.0 ∙ h.0, (λ u. shares_in-plain es m.0 u ∙ h.1 u))
turn-plain es t (Release m) h = holder_in-plain es m.0 ∙ h
turn-plain es t (AcquireShared m) h = (holder_in-plain es m.0 ∙ h.0, shares_in-plain es m.0 t ∙ h.1)
turn-plain es t (ReleaseShared m) h = shares_in-plain es m.0 t ∙ h
turn-plain es t (Begin l) h = omega (arith, h, times-plain (is_begin_by t) (blind_begin t) es, times-plain (is_end_by t) (blind_end t) es)
turn-plain es t End h = omega (arith, h, times-plain (is_begin_by t) (blind_begin t) es, times-plain (is_end_by t) (blind_end t) es)
turn-plain es t (Fork u) h = (h.0, happened-plain (is_fork_of u.0) (blind_fork u.0) es ∙ h.1)
turn-plain es t (Join u) h = (happened-plain (is_exit_by u.0) (blind_exit u.0) es ∙ h.0, happened-plain (is_join_of u.0) (blind_join u.0) es ∙ h.1)
turn-plain es t Exit h = (
  times-plain (is_begin_by t) (blind_begin t) es ∙ (h.0 ∙ sym (times-plain (is_end_by t) (blind_end t) es)),
  times-plain (is_acquire_by t) (blind_acquire t) es ∙ (h.1 ∙ sym (times-plain (is_release_by t) (blind_release t) es)),
  times-plain (is_acquire_shared_by t) (blind_acquire_shared t) es ∙ (h.2 ∙ sym (times-plain (is_release_shared_by t) (blind_release_shared t) es)),
)

-- 50. an event that may follow may follow without the values
pub MayFollow-plain : (bounds : Bounds) (es : List Event) (e : Event) → MayFollow bounds es e → MayFollow bounds (plain_log es) (plain e)
MayFollow-plain bounds es e f = record {
  known_thread = f.known_thread;
  known_names = names-plain bounds e.kind f.known_names;
  born = was_born-plain es (thread_of e) ∙ f.born;
  not_exited = happened-plain (is_exit_by (thread_of e)) (blind_exit (thread_of e)) es ∙ f.not_exited;
  in_turn = turn-plain es (thread_of e) e.kind f.in_turn;
}

event_before : (es : List Event) (i : ℕ) (e : Event) → slice_get (plain_log es) i ≡ Some e → (f : Event) × (slice_get es i ≡ Some f) × (plain f ≡ e)
event_before es i e h = at (slice_get es i) refl
  where
    at : (o : Option Event) → slice_get es i ≡ o → (f : Event) × (slice_get es i ≡ Some f) × (plain f ≡ e)
    at None is = absurd (none-some e (ap (option_map plain) (sym is) ∙ (sym (slice_get-map plain es i) ∙ h)))
    at (Some f) is = (f, is, same_Some (plain f) e (ap (option_map plain) (sym is) ∙ (sym (slice_get-map plain es i) ∙ h)))

-- 51. and the whole log is well-formed
pub IsWellFormed-plain : (bounds : Bounds) (es : List Event) → IsWellFormed bounds es → IsWellFormed bounds (plain_log es)
IsWellFormed-plain bounds es well = record {
  each = λ i e h.
      let w = event_before es i e h in
      subst (λ x. MayFollow bounds (take i (plain_log es)) x) w.2
      (subst (λ xs. MayFollow bounds xs (plain w.0)) (sym (take-map plain i es)) (MayFollow-plain bounds (take i es) w.0 (well.each i w.0 w.1)));
}
