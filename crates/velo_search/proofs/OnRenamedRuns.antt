-- With other numbers for their variables and locks scripts have the same runs, but for the numbers, and these the same faults.
use Rattle.std.proofs.Common.{◌≡◌, ℕ, ◌<◌, Bool, true, false, cond, List, [], ◌∷◌, take, map, Option, Some, None, refl, sym, ap, ◌∙◌, subst, arith, ⊎_elim, inl, inr}
use Rattle.std.specs.Prelude.{◌&&◌, ◌==◌, filter, not, nat_le, nat_lt, if◌then◌else◌, option_map, slice_get}
use Rattle.std.proofs.Math.ListN.{get_or-map}
use Rattle.std.proofs.lemmas.Bool.{cases_Bool, cases_lt, leb-false, leb-true, le-leb, lt-leb}
use Rattle.std.proofs.lemmas.List.{take-map}
use Rattle.std.proofs.lemmas.Option.{slice_get-map, same_Some, none-some}
use Rattle.velo_events.specs.declared.config.Bounds.{Bounds}
use Rattle.velo_events.specs.declared.event.Event.{Event}
use Rattle.velo_events.specs.declared.event.Kind.{Kind}
use Rattle.velo_events.specs.declared.event.Kind.TheVariants.{Read, Write, Acquire, Release, AcquireShared, ReleaseShared, Begin, End, Fork, Join, Exit}
use Rattle.velo_events.specs.declared.event.Status.{Status}
use Rattle.velo_events.specs.declared.refusal.Refusal.{Refusal}
use Rattle.velo_events.specs.declared.limits.TheConstants.{MAX_OPEN_BLOCKS}
use Rattle.velo_events.specs.Event.{thread_of, variable_of, lock_of, is_begin, is_end, is_exit, is_by, is_begin_by, is_end_by, is_acquire_by, is_release_by, is_acquire_shared_by, is_release_shared_by, is_exit_by, is_fork_of, is_join_of}
use Rattle.velo_events.specs.Graph.{HasCycle}
use Rattle.velo_events.specs.Heap.{depth_in}
use Rattle.velo_events.specs.Meaning.{holds_a_lock, is_beyond, is_busy, is_held_already, is_live, is_shared_beside, is_unheld, refusal_of, status_is}
use Rattle.velo_events.specs.Tally.{events_of}
use Rattle.velo_events.specs.WellFormed.{IsInTurn, IsWellFormed, MayFollow, NamesKnown}
use Rattle.velo_events.proofs.OnBlocks.{any_below-same}
use Rattle.velo_events.proofs.OnWellFormed.{Facts-from}
use Rattle.velo_search.specs.Faults.{Fault, Cycle, Stuck, Refusing, IsFault, IsIdle, IsRefused, IsTurnedDown, IsWaiting}
use Rattle.velo_search.specs.Naming.{AreExchanged, Numbers, renamed, renamed_kind, renamed_log, renamed_scripts}
use Rattle.velo_search.specs.Runs.{kinds_by, script_of, IsRunOf}
use Rattle.velo_search.proofs.OnFitting.{AreAsOften, held-alike}
use Rattle.velo_search.proofs.OnRenamed.{blind_acquire, blind_acquire_shared, blind_begin, blind_end, blind_exit, blind_fork, blind_join, blind_release, blind_release_shared, depth_in-renamed, given_lock, given_variable, happened-renamed, HasCycle-renamed, holder_in-renamed, same_begin, same_end, same_exit, same_forked, same_forked_or_joined, same_joined, shares_in-renamed, status_in-renamed, times-renamed, value_in-renamed, was_born-renamed}

-- one of two numbers is below where the other is
beyond-both : (x y n : ℕ) → (x < n → y < n) → (y < n → x < n) → nat_le n x ≡ nat_le n y
beyond-both x y n there back = ⊎_elim
    (λ past. past ∙ sym (le-leb n y (let far = leb-true n x past in ⊎_elim (λ below. absurd (let near = back below in omega (arith, far, near))) (λ above. above) (cases_lt y n))))
    (λ within. within ∙ sym (lt-leb n y (there (leb-false n x within))))
    (cases_Bool (nat_le n x))

-- one reason, and those behind it
reason : {b c : Bool} (r : Refusal) {p q : Option Refusal} → b ≡ c → p ≡ q → (if b then Some r else p) ≡ (if c then Some r else q)
reason {b} {c} r {p} {q} same rest = ap (λ x. if x then Some r else p) same ∙ ap (λ o. if c then Some r else o) rest

module _ (bounds : Bounds) (ns back : Numbers) (exchanged : AreExchanged bounds ns back) where
  -- ---- one operation

  known-renamed : (k : Kind) → NamesKnown bounds k → NamesKnown bounds (renamed_kind ns k)
  known-renamed (Read x v) h = exchanged.within.variable x.0 h
  known-renamed (Write x v) h = exchanged.within.variable x.0 h
  known-renamed (Acquire m) h = exchanged.within.lock m.0 h
  known-renamed (Release m) h = exchanged.within.lock m.0 h
  known-renamed (AcquireShared m) h = exchanged.within.lock m.0 h
  known-renamed (ReleaseShared m) h = exchanged.within.lock m.0 h
  known-renamed (Begin l) h = h
  known-renamed End h = h
  known-renamed (Fork u) h = h
  known-renamed (Join u) h = h
  known-renamed Exit h = h

  variable-beyond : (o : Option ℕ) → is_beyond (option_map ns.variable o) bounds.variables ≡ is_beyond o bounds.variables
  variable-beyond None = refl
  variable-beyond (Some x) = beyond-both (ns.variable x) x bounds.variables
      (λ h. subst (λ y. y < bounds.variables) (exchanged.back.variable x) (exchanged.within_back.variable (ns.variable x) h))
      (exchanged.within.variable x)

  lock-beyond : (o : Option ℕ) → is_beyond (option_map ns.lock o) bounds.locks ≡ is_beyond o bounds.locks
  lock-beyond None = refl
  lock-beyond (Some x) = beyond-both (ns.lock x) x bounds.locks
      (λ h. subst (λ y. y < bounds.locks) (exchanged.back.lock x) (exchanged.within_back.lock (ns.lock x) h))
      (exchanged.within.lock x)

  -- ---- well-formed logs

  turn-renamed : (es : List Event) (t : ℕ) (k : Kind) → IsInTurn es t k → IsInTurn (renamed_log ns es) t (renamed_kind ns k)
  turn-renamed es t (Read x v) h = h ∙ sym (value_in-renamed ns back exchanged.back es x.0)
  turn-renamed es t (Write x v) h = h
  turn-renamed es t (Acquire m) h = (holder_in-renamed ns back exchanged.back es m.0 ∙ h.0, (λ u. shares_in-renamed ns back exchanged.back es m.0 u ∙ h.1 u))
  turn-renamed es t (Release m) h = holder_in-renamed ns back exchanged.back es m.0 ∙ h
  turn-renamed es t (AcquireShared m) h = (holder_in-renamed ns back exchanged.back es m.0 ∙ h.0, shares_in-renamed ns back exchanged.back es m.0 t ∙ h.1)
  turn-renamed es t (ReleaseShared m) h = shares_in-renamed ns back exchanged.back es m.0 t ∙ h
  turn-renamed es t (Begin l) h = omega (arith, h, times-renamed ns back exchanged.back (is_begin_by t) (blind_begin ns back exchanged.back t) es, times-renamed ns back exchanged.back (is_end_by t) (blind_end ns back exchanged.back t) es)
  turn-renamed es t End h = omega (arith, h, times-renamed ns back exchanged.back (is_begin_by t) (blind_begin ns back exchanged.back t) es, times-renamed ns back exchanged.back (is_end_by t) (blind_end ns back exchanged.back t) es)
  turn-renamed es t (Fork u) h = (h.0, happened-renamed ns back exchanged.back (is_fork_of u.0) (blind_fork ns back exchanged.back u.0) es ∙ h.1)
  turn-renamed es t (Join u) h = (happened-renamed ns back exchanged.back (is_exit_by u.0) (blind_exit ns back exchanged.back u.0) es ∙ h.0, happened-renamed ns back exchanged.back (is_join_of u.0) (blind_join ns back exchanged.back u.0) es ∙ h.1)
  turn-renamed es t Exit h = (
    times-renamed ns back exchanged.back (is_begin_by t) (blind_begin ns back exchanged.back t) es ∙ (h.0 ∙ sym (times-renamed ns back exchanged.back (is_end_by t) (blind_end ns back exchanged.back t) es)),
    times-renamed ns back exchanged.back (is_acquire_by t) (blind_acquire ns back exchanged.back t) es ∙ (h.1 ∙ sym (times-renamed ns back exchanged.back (is_release_by t) (blind_release ns back exchanged.back t) es)),
    times-renamed ns back exchanged.back (is_acquire_shared_by t) (blind_acquire_shared ns back exchanged.back t) es ∙ (h.2 ∙ sym (times-renamed ns back exchanged.back (is_release_shared_by t) (blind_release_shared ns back exchanged.back t) es)),
  )

  follow-renamed : (es : List Event) (e : Event) → MayFollow bounds es e → MayFollow bounds (renamed_log ns es) (renamed ns e)
  follow-renamed es e f = record {
    known_thread = f.known_thread;
    known_names = known-renamed e.kind f.known_names;
    born = was_born-renamed ns back exchanged.back es (thread_of e) ∙ f.born;
    not_exited = happened-renamed ns back exchanged.back (is_exit_by (thread_of e)) (blind_exit ns back exchanged.back (thread_of e)) es ∙ f.not_exited;
    in_turn = turn-renamed es (thread_of e) e.kind f.in_turn;
  }

  event_before : (es : List Event) (i : ℕ) (e : Event) → slice_get (renamed_log ns es) i ≡ Some e → (f : Event) × (slice_get es i ≡ Some f) × (renamed ns f ≡ e)
  event_before es i e h = at (slice_get es i) refl
    where
      at : (o : Option Event) → slice_get es i ≡ o → (f : Event) × (slice_get es i ≡ Some f) × (renamed ns f ≡ e)
      at None is = absurd (none-some e (ap (option_map (renamed ns)) (sym is) ∙ (sym (slice_get-map (renamed ns) es i) ∙ h)))
      at (Some f) is = (f, is, same_Some (renamed ns f) e (ap (option_map (renamed ns)) (sym is) ∙ (sym (slice_get-map (renamed ns) es i) ∙ h)))

  well_formed-renamed : (es : List Event) → IsWellFormed bounds es → IsWellFormed bounds (renamed_log ns es)
  well_formed-renamed es well = record {
    each = λ i e h.
        let w = event_before es i e h in
        subst (λ x. MayFollow bounds (take i (renamed_log ns es)) x) w.2
        (subst (λ xs. MayFollow bounds xs (renamed ns w.0)) (sym (take-map (renamed ns) i es)) (follow-renamed (take i es) w.0 (well.each i w.0 w.1)));
  }

  -- ---- scripts and runs

  kinds_by-renamed : (t : ℕ) (log : List Event) → kinds_by t (renamed_log ns log) ≡ map (renamed_kind ns) (kinds_by t log)
  kinds_by-renamed t [] = refl
  kinds_by-renamed t (e ∷ es) = at (is_by t e) (filter (is_by t) (renamed_log ns es)) (filter (is_by t) es) (kinds_by-renamed t es)
    where
      at : (b : Bool) (xs ys : List Event) → map (λ f. f.kind) xs ≡ map (renamed_kind ns) (map (λ f. f.kind) ys) →
          map {A = Event} {B = Kind} (λ f. f.kind) (cond b (renamed ns e ∷ xs) xs) ≡ map (renamed_kind ns) (map {A = Event} {B = Kind} (λ f. f.kind) (cond b (e ∷ ys) ys))
      at true xs ys rest = ap (λ ks. renamed_kind ns e.kind ∷ ks) rest
      at false xs ys rest = rest

  pub events_of-renamed : (log : List Event) (t : ℕ) → events_of (renamed_log ns log) t ≡ events_of log t
  events_of-renamed log t = times-renamed ns back exchanged.back (is_by t) (λ e. refl) log

  module _ (scripts : List (List Kind)) where
    pub script-renamed : (t : ℕ) → script_of (renamed_scripts ns scripts) t ≡ map (renamed_kind ns) (script_of scripts t)
    script-renamed t = get_or-map (map (renamed_kind ns)) scripts t []

    pub IsRunOf-renamed : (log : List Event) → IsRunOf bounds scripts log → IsRunOf bounds (renamed_scripts ns scripts) (renamed_log ns log)
    IsRunOf-renamed log run = record {
      well_formed = well_formed-renamed log run.well_formed;
      own = λ t.
          kinds_by-renamed t log
          ∙ (ap (map (renamed_kind ns)) (run.own t)
          ∙ (sym (take-map (renamed_kind ns) (events_of log t) (script_of scripts t))
          ∙ (ap (λ n. take n (map (renamed_kind ns) (script_of scripts t))) (sym (events_of-renamed log t))
          ∙ ap (take (events_of (renamed_log ns log) t)) (sym (script-renamed t)))));
    }

    due-renamed : (log : List Event) (t : ℕ) → slice_get (script_of (renamed_scripts ns scripts) t) (events_of (renamed_log ns log) t) ≡ option_map (renamed_kind ns) (slice_get (script_of scripts t) (events_of log t))
    due-renamed log t =
        ap (λ ks. slice_get ks (events_of (renamed_log ns log) t)) (script-renamed t)
        ∙ (ap (slice_get (map (renamed_kind ns) (script_of scripts t))) (events_of-renamed log t)
        ∙ slice_get-map (renamed_kind ns) (script_of scripts t) (events_of log t))

  -- ---- refusals

  beside-renamed : (log : List Event) (t m : ℕ) → is_shared_beside bounds (renamed_log ns log) t (ns.lock m) ≡ is_shared_beside bounds log t m
  unfolding is_shared_beside
  beside-renamed log t m = any_below-same bounds.threads _ _ (λ u l. ap (λ b. not (u == t) && b) (shares_in-renamed ns back exchanged.back log m u))

  busy-renamed : (log : List Event) (t : ℕ) (k : Kind) → is_busy bounds (renamed_log ns log) t (renamed_kind ns k) ≡ is_busy bounds log t k
  busy-renamed log t (Acquire m) = rw (holder_in-renamed ns back exchanged.back log m.0, shares_in-renamed ns back exchanged.back log m.0 t, beside-renamed log t m.0) refl
  busy-renamed log t (AcquireShared m) = rw (holder_in-renamed ns back exchanged.back log m.0, shares_in-renamed ns back exchanged.back log m.0 t) refl
  busy-renamed log t (Read x v) = refl
  busy-renamed log t (Write x v) = refl
  busy-renamed log t (Release m) = refl
  busy-renamed log t (ReleaseShared m) = refl
  busy-renamed log t _ = refl

  already-renamed : (log : List Event) (t : ℕ) (k : Kind) → is_held_already (renamed_log ns log) t (renamed_kind ns k) ≡ is_held_already log t k
  already-renamed log t (Acquire m) = rw (holder_in-renamed ns back exchanged.back log m.0, shares_in-renamed ns back exchanged.back log m.0 t) refl
  already-renamed log t (AcquireShared m) = rw (holder_in-renamed ns back exchanged.back log m.0, shares_in-renamed ns back exchanged.back log m.0 t) refl
  already-renamed log t (Read x v) = refl
  already-renamed log t (Write x v) = refl
  already-renamed log t (Release m) = refl
  already-renamed log t (ReleaseShared m) = refl
  already-renamed log t _ = refl

  unheld-renamed : (log : List Event) (t : ℕ) (k : Kind) → is_unheld (renamed_log ns log) t (renamed_kind ns k) ≡ is_unheld log t k
  unheld-renamed log t (Release m) = rw (holder_in-renamed ns back exchanged.back log m.0) refl
  unheld-renamed log t (ReleaseShared m) = rw (shares_in-renamed ns back exchanged.back log m.0 t) refl
  unheld-renamed log t (Read x v) = refl
  unheld-renamed log t (Write x v) = refl
  unheld-renamed log t (Acquire m) = refl
  unheld-renamed log t (AcquireShared m) = refl
  unheld-renamed log t _ = refl

  status_is-renamed : (log : List Event) (o p : Option ℕ) (test : Status → Bool) → o ≡ p → status_is (renamed_log ns log) o test ≡ status_is log p test
  status_is-renamed log o p test same = ap (λ q. status_is (renamed_log ns log) q test) same ∙ at p
    where
      at : (q : Option ℕ) → status_is (renamed_log ns log) q test ≡ status_is log q test
      at None = refl
      at (Some u) = ap test (status_in-renamed ns back exchanged.back log u)

  often-renamed : (log : List Event) (t : ℕ) → AreAsOften log (renamed_log ns log) t
  often-renamed log t = record {
    acquires = times-renamed ns back exchanged.back (is_acquire_by t) (blind_acquire ns back exchanged.back t) log;
    releases = times-renamed ns back exchanged.back (is_release_by t) (blind_release ns back exchanged.back t) log;
    shares = times-renamed ns back exchanged.back (is_acquire_shared_by t) (blind_acquire_shared ns back exchanged.back t) log;
    unshares = times-renamed ns back exchanged.back (is_release_shared_by t) (blind_release_shared ns back exchanged.back t) log;
  }

  refusal-renamed : (log : List Event) (t : ℕ) (k : Kind) → IsWellFormed bounds log → refusal_of bounds (renamed_log ns log) t (renamed_kind ns k) ≡ refusal_of bounds log t k
  unfolding refusal_of
  refusal-renamed log t k well =
      let status = status_in-renamed ns back exchanged.back log t in
      let depth = depth_in-renamed ns back exchanged.back log t in
      let forked = same_forked ns back exchanged.back k in
      let joined = same_joined ns back exchanged.back k in
      reason _ (ap (λ s. not (nat_lt t bounds.threads && is_live s)) status)
      (reason _ (ap (λ o. is_beyond o bounds.variables) (given_variable ns back exchanged.back k) ∙ variable-beyond (variable_of k))
      (reason _ (ap (λ o. is_beyond o bounds.locks) (given_lock ns back exchanged.back k) ∙ lock-beyond (lock_of k))
      (reason _ (ap (λ o. is_beyond o bounds.threads) (same_forked_or_joined ns back exchanged.back k))
      (reason _ (busy-renamed log t k)
      (reason _ (already-renamed log t k)
      (reason _ (unheld-renamed log t k)
      (reason _ (ap (λ b. b && (depth_in (renamed_log ns log) t == 0)) (same_end ns back exchanged.back k) ∙ ap (λ d. is_end k && (d == 0)) depth)
      (reason _ (ap (λ b. b && nat_le MAX_OPEN_BLOCKS (depth_in (renamed_log ns log) t)) (same_begin ns back exchanged.back k) ∙ ap (λ d. is_begin k && nat_le MAX_OPEN_BLOCKS d) depth)
      (reason _ (status_is-renamed log _ _ _ forked)
      (reason _ (status_is-renamed log _ _ _ joined)
      (reason _ (status_is-renamed log _ _ _ joined)
      (reason _ (status_is-renamed log _ _ _ joined)
      (reason _ (ap (λ b. b && not (depth_in (renamed_log ns log) t == 0)) (same_exit ns back exchanged.back k) ∙ ap (λ d. is_exit k && not (d == 0)) depth)
      (reason _ (ap (λ b. b && holds_a_lock bounds (renamed_log ns log) t) (same_exit ns back exchanged.back k) ∙ ap (λ b. is_exit k && b) (sym (held-alike bounds bounds log (renamed_log ns log) t (Facts-from bounds log well) (Facts-from bounds (renamed_log ns log) (well_formed-renamed log well)) (often-renamed log t))))
      refl))))))))))))))

  -- ---- faults

  module _ (scripts : List (List Kind)) where
    idle-renamed : (log : List Event) (t : ℕ) → IsIdle scripts log t → IsIdle (renamed_scripts ns scripts) (renamed_log ns log) t
    idle-renamed log t idle = ⊎_elim
        (λ none. inl (due-renamed scripts log t ∙ ap (option_map (renamed_kind ns)) none))
        (λ unborn. inr (status_in-renamed ns back exchanged.back log t ∙ unborn))
        idle

    turned-renamed : (log : List Event) (t : ℕ) (r : Refusal) → IsRunOf bounds scripts log → IsTurnedDown bounds scripts log t r → IsTurnedDown bounds (renamed_scripts ns scripts) (renamed_log ns log) t r
    turned-renamed log t r run turned = record {
      kind = renamed_kind ns turned.kind;
      due = due-renamed scripts log t ∙ ap (option_map (renamed_kind ns)) turned.due;
      refused = refusal-renamed log t turned.kind run.well_formed ∙ turned.refused;
      born = λ unborn. turned.born (sym (status_in-renamed ns back exchanged.back log t) ∙ unborn);
    }

    waiting-renamed : (log : List Event) (t : ℕ) → IsRunOf bounds scripts log → IsWaiting bounds scripts log t → IsWaiting bounds (renamed_scripts ns scripts) (renamed_log ns log) t
    waiting-renamed log t run w = record { refusal = w.refusal; turned = turned-renamed log t w.refusal run w.turned; waits = w.waits }

    refused-renamed : (log : List Event) (t : ℕ) → IsRunOf bounds scripts log → IsRefused bounds scripts log t → IsRefused bounds (renamed_scripts ns scripts) (renamed_log ns log) t
    refused-renamed log t run w = record { refusal = w.refusal; turned = turned-renamed log t w.refusal run w.turned; for_good = w.for_good }

    -- where the same is left but for the numbers
    pub IsFault-renamed : (rest other : List Event → List Event) (fault : Fault) (log : List Event) → IsRunOf bounds scripts log → other (renamed_log ns log) ≡ renamed_log ns (rest log) →
        IsFault bounds scripts rest fault log → IsFault bounds (renamed_scripts ns scripts) other fault (renamed_log ns log)
    IsFault-renamed rest other Cycle log run same bad = subst HasCycle (sym same) (HasCycle-renamed ns back exchanged.back (rest log) bad)
    IsFault-renamed rest other Stuck log run same bad = record {
      each = λ t below. ⊎_elim (λ idle. inl (idle-renamed log t idle)) (λ waits. inr (waiting-renamed log t run waits)) (bad.each t below);
      some = (bad.some.0, bad.some.1, waiting-renamed log bad.some.0 run bad.some.2);
    }
    IsFault-renamed rest other Refusing log run same bad = record {
      some = (bad.some.0, bad.some.1, refused-renamed log bad.some.0 run bad.some.2);
    }
