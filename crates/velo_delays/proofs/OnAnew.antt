-- What may follow a log without its values may follow it with values that are renewed.
use Rattle.std.proofs.Common.{◌≡◌, ℕ, ◌+◌, ◌<◌, ◌≤◌, Bool, true, false, cond, List, [], ◌∷◌, ◌++◌, length, take, get_or, Some, refl, sym, ap, ◌∙◌, subst, arith, ⊎_elim}
use Rattle.std.specs.Prelude.{slice_get, ◌&&◌, ◌||◌, ◌==◌}
use Rattle.std.specs.List.{list_any}
use Rattle.std.proofs.Math.Seq.{take-append_seam}
use Rattle.std.proofs.lemmas.Bool.{cases_lt}
use Rattle.std.proofs.lemmas.List.{take-append-le, length-append, map-append}
use Rattle.std.proofs.lemmas.List.Sums.{sum_by-cons}
use Rattle.std.proofs.lemmas.Option.{slice_get_within, same_Some}
use Rattle.velo_events.specs.declared.config.Bounds.{Bounds}
use Rattle.velo_events.specs.declared.event.Event.{Event}
use Rattle.velo_events.specs.declared.event.Kind.{Kind}
use Rattle.velo_events.specs.declared.event.Kind.TheVariants.{Read, Write, Acquire, Release, AcquireShared, ReleaseShared, Begin, End, Fork, Join, Exit}
use Rattle.velo_events.specs.Event.{thread_of, access_of, forked_of, joined_of, are_same, is_acquire, is_release, is_acquire_shared, is_release_shared, is_begin, is_end, is_exit, is_by, is_begin_by, is_end_by, is_acquire_by, is_release_by, is_acquire_shared_by, is_release_shared_by, is_exit_by, is_fork_of, is_join_of}
use Rattle.velo_events.specs.Heap.{happened, times, value_in}
use Rattle.velo_events.specs.WellFormed.{NamesKnown, IsInTurn, MayFollow, IsWellFormed}
use Rattle.velo_events.proofs.OnTraces.{slice_get-append, slice_get-push}
use Rattle.velo_heap.specs.Contents.{Contents, IsHeapOf}
use Rattle.velo_search.specs.Plain.{plain_kind, plain, plain_log}
use Rattle.velo_search.proofs.OnPlain.{same_access, same_begin, same_end, same_exit, same_acquire, same_release, same_acquire_shared, same_release_shared, was_born-plain, holder_in-plain, shares_in-plain, MayFollow-plain}
use Rattle.velo_delays.specs.Anew.{renewed_kind, renewed, IsRenewed, IsRenewedSoFar}

-- the value plays no part in the test
record IsBlind (test : Event → Bool) : Type 0 where
  same : (e : Event) → test (plain e) ≡ test e

blind_kind : (t : ℕ) (test : Kind → Bool) → ((k : Kind) → test (plain_kind k) ≡ test k) → IsBlind (λ e. is_by t e && test e.kind)
blind_kind t test blind = record { same = λ e. ap (λ b. is_by t e && b) (blind e.kind) }

blind_fork : (u : ℕ) → IsBlind (is_fork_of u)
blind_fork u = record { same = λ e. ap (λ a. are_same (forked_of a) (Some u)) (same_access e.kind) }

blind_join : (u : ℕ) → IsBlind (is_join_of u)
blind_join u = record { same = λ e. ap (λ a. are_same (joined_of a) (Some u)) (same_access e.kind) }

times-cons : (test : Event → Bool) (e : Event) (es : List Event) → times test (e ∷ es) ≡ cond {A = ℕ} (test e) 1 0 + times test es
unfolding times
times-cons test e es = sum_by-cons (λ x. cond {A = ℕ} (test x) 1 0) e es

times-plain : (test : Event → Bool) → IsBlind test → (es : List Event) → times test (plain_log es) ≡ times test es
times-plain test blind [] = refl
times-plain test blind (e ∷ es) =
    times-cons test (plain e) (plain_log es)
    ∙ (ap (λ b. cond {A = ℕ} b 1 0 + times test (plain_log es)) (blind.same e)
    ∙ (ap (λ n. cond {A = ℕ} (test e) 1 0 + n) (times-plain test blind es) ∙ sym (times-cons test e es)))

happened-plain : (test : Event → Bool) → IsBlind test → (es : List Event) → happened test (plain_log es) ≡ happened test es
unfolding happened
happened-plain test blind [] = refl
happened-plain test blind (e ∷ es) = ap (λ b. b || list_any test (plain_log es)) (blind.same e) ∙ ap (λ b. test e || b) (happened-plain test blind es)

-- ---- what may follow

names-renewed : (bounds : Bounds) (es : List Event) (k : Kind) → NamesKnown bounds (plain_kind k) → NamesKnown bounds (renewed_kind es k)
names-renewed bounds es (Read x v) h = h
names-renewed bounds es (Write x v) h = h
names-renewed bounds es (Acquire m) h = h
names-renewed bounds es (Release m) h = h
names-renewed bounds es (AcquireShared m) h = h
names-renewed bounds es (ReleaseShared m) h = h
names-renewed bounds es (Begin l) h = h
names-renewed bounds es End h = h
names-renewed bounds es (Fork u) h = h
names-renewed bounds es (Join u) h = h
names-renewed bounds es Exit h = h

turn-renewed : (es : List Event) (t : ℕ) (k : Kind) → IsInTurn (plain_log es) t (plain_kind k) → IsInTurn es t (renewed_kind es k)
turn-renewed es t (Read x v) h = refl
turn-renewed es t (Write x v) h = h
turn-renewed es t (Acquire m) h = (sym (holder_in-plain es m.0) ∙ h.0, (λ u. sym (shares_in-plain es m.0 u) ∙ h.1 u))
turn-renewed es t (Release m) h = sym (holder_in-plain es m.0) ∙ h
turn-renewed es t (AcquireShared m) h = (sym (holder_in-plain es m.0) ∙ h.0, sym (shares_in-plain es m.0 t) ∙ h.1)
turn-renewed es t (ReleaseShared m) h = sym (shares_in-plain es m.0 t) ∙ h
turn-renewed es t (Begin l) h = omega (arith, h, times-plain (is_begin_by t) (blind_kind t is_begin same_begin) es, times-plain (is_end_by t) (blind_kind t is_end same_end) es)
turn-renewed es t End h = omega (arith, h, times-plain (is_begin_by t) (blind_kind t is_begin same_begin) es, times-plain (is_end_by t) (blind_kind t is_end same_end) es)
turn-renewed es t (Fork u) h = (h.0, sym (happened-plain (is_fork_of u.0) (blind_fork u.0) es) ∙ h.1)
turn-renewed es t (Join u) h = (sym (happened-plain (is_exit_by u.0) (blind_kind u.0 is_exit same_exit) es) ∙ h.0, sym (happened-plain (is_join_of u.0) (blind_join u.0) es) ∙ h.1)
turn-renewed es t Exit h = (
  sym (times-plain (is_begin_by t) (blind_kind t is_begin same_begin) es) ∙ (h.0 ∙ times-plain (is_end_by t) (blind_kind t is_end same_end) es),
  sym (times-plain (is_acquire_by t) (blind_kind t is_acquire same_acquire) es) ∙ (h.1 ∙ times-plain (is_release_by t) (blind_kind t is_release same_release) es),
  sym (times-plain (is_acquire_shared_by t) (blind_kind t is_acquire_shared same_acquire_shared) es) ∙ (h.2 ∙ times-plain (is_release_shared_by t) (blind_kind t is_release_shared same_release_shared) es),
)

MayFollow-from_plain : (bounds : Bounds) (es : List Event) (e : Event) → MayFollow bounds (plain_log es) (plain e) → MayFollow bounds es (renewed es e)
MayFollow-from_plain bounds es e f = record {
  known_thread = f.known_thread;
  known_names = names-renewed bounds es e.kind f.known_names;
  born = sym (was_born-plain es (thread_of e)) ∙ f.born;
  not_exited = sym (happened-plain (is_exit_by (thread_of e)) (blind_kind (thread_of e) is_exit same_exit) es) ∙ f.not_exited;
  in_turn = turn-renewed es (thread_of e) e.kind f.in_turn;
}

-- what may follow some events may follow the same with other values, with a value that is renewed
pub MayFollow-renewed : (bounds : Bounds) (before anew : List Event) (e : Event) → plain_log anew ≡ plain_log before → MayFollow bounds before e → MayFollow bounds anew (renewed anew e)
MayFollow-renewed bounds before anew e same follows =
    MayFollow-from_plain bounds anew e (subst (λ es. MayFollow bounds es (plain e)) (sym same) (MayFollow-plain bounds before e follows))

-- ---- one event more

plain-renewed : (es : List Event) (k : Kind) → plain_kind (renewed_kind es k) ≡ plain_kind k
plain-renewed es (Read x v) = refl
plain-renewed es (Write x v) = refl
plain-renewed es _ = refl

IsRenewed-push : (log anew : List Event) (e : Event) → IsRenewed log anew → IsRenewed (log ++ e ∷ []) (anew ++ renewed anew e ∷ [])
IsRenewed-push log anew e is = record {
  as_long = length-append anew (renewed anew e ∷ []) ∙ (ap (λ n. n + 1) is.as_long ∙ sym (length-append log (e ∷ [])));
  each = λ i f here. ⊎_elim (before i f here) (last i f here) (cases_lt i (length log));
}
  where
    whole : List Event
    whole = anew ++ renewed anew e ∷ []

    before : (i : ℕ) (f : Event) → slice_get (log ++ e ∷ []) i ≡ Some f → i < length log → slice_get whole i ≡ Some (renewed (take i whole) f)
    before i f here below =
        let inside : i < length anew = omega (arith, below, is.as_long) in
        let old = is.each i f (sym (slice_get-append log (e ∷ []) i below) ∙ here) in
        slice_get-append anew (renewed anew e ∷ []) i inside ∙ (old ∙ ap (λ es. Some (renewed es f)) (sym (take-append-le i anew (renewed anew e ∷ []) (omega (arith, inside)))))

    last : (i : ℕ) (f : Event) → slice_get (log ++ e ∷ []) i ≡ Some f → length log ≤ i → slice_get whole i ≡ Some (renewed (take i whole) f)
    last i f here above =
        let within = slice_get_within (log ++ e ∷ []) i f here in
        let is_last : i ≡ length log = omega (arith, above, within, length-append log (e ∷ [])) in
        let is_e : e ≡ f = same_Some e f (sym (slice_get-push log e) ∙ (ap (slice_get (log ++ e ∷ [])) (sym is_last) ∙ here)) in
        let at_end : i ≡ length anew = is_last ∙ sym is.as_long in
        ap (slice_get whole) at_end ∙ (slice_get-push anew (renewed anew e)
        ∙ (ap (λ g. Some (renewed anew g)) is_e
        ∙ ap (λ es. Some (renewed es f)) (sym (ap (λ n. take n whole) at_end ∙ take-append_seam anew (renewed anew e ∷ [])))))

pub IsRenewedSoFar-push : (log : List Event) (e : Event) (heap after : Contents) (anew : List Event) → IsRenewedSoFar log heap anew → IsHeapOf after (anew ++ renewed anew e ∷ []) → IsRenewedSoFar (log ++ e ∷ []) after (anew ++ renewed anew e ∷ [])
IsRenewedSoFar-push log e heap after anew stands is_heap = record {
  is_renewed = IsRenewed-push log anew e stands.is_renewed;
  is_heap = is_heap;
  same = map-append plain anew (renewed anew e ∷ []) ∙ (ap (λ (es : List Event). es ++ plain (renewed anew e) ∷ []) stands.same
      ∙ (ap (λ k. plain_log log ++ (record { thread = e.thread; kind = k }) ∷ []) (plain-renewed anew e.kind)
      ∙ sym (map-append plain log (e ∷ []))));
}
