-- By the turns of a run of its scripts a program replays along it, unless it meets a limit, or halts as it has a cycle.
use Rattle.std.proofs.Common.{◌≡◌, ℕ, Bool, true, false, List, [], ◌∷◌, ◌++◌, append_assoc, append-nil, length, map, Option, Some, None, Result, Ok, Err, refl, sym, ap, ◌∙◌, subst, arith, ⊎_elim, inl, inr}
use Rattle.std.specs.Prelude.{◌⊎◌, ⊤, not, nat_le, if◌then◌else◌, slice_get, IsTrue, IsFalse}
use Rattle.std.proofs.lemmas.Bool.{cases_Bool, false≢true}
use Rattle.std.proofs.lemmas.List.{map-append}
use Rattle.std.proofs.lemmas.Option.{same_Some, none-some, slice_get_within}
use Rattle.velo_events.specs.declared.config.Bounds.{Bounds}
use Rattle.velo_events.specs.declared.config.Config.{Config}
use Rattle.velo_events.specs.declared.event.Action.{Action}
use Rattle.velo_events.specs.declared.event.Event.{Event}
use Rattle.velo_events.specs.declared.event.Kind.{Kind}
use Rattle.velo_events.specs.declared.event.ThreadId.{ThreadId}
use Rattle.velo_events.specs.declared.refusal.Refusal.{Refusal}
use Rattle.velo_events.specs.declared.refusal.Refusal.TheVariants.{NotLive, NoSuchVariable, NoSuchLock, NoSuchThread, Busy, AlreadyHeld, NotHolder, NoOpenBlock, TooDeep, AlreadyForked, NotForked, NotExited, AlreadyJoined, BlockOpen, LockHeld, LogFull}
use Rattle.velo_events.specs.declared.refusal.Refusal.TheVariants as refusal
use Rattle.velo_events.specs.Event.{thread_of}
use Rattle.velo_events.specs.Graph.{HasCycle}
use Rattle.velo_events.specs.Heap.{status_in}
use Rattle.velo_events.specs.Meaning.{kind_for, event_for, refusal_of}
use Rattle.velo_events.specs.Tally.{events_of}
use Rattle.velo_filter.specs.Left.{Omitted, rest_of}
use Rattle.velo_events.proofs.OnMeaning.{MayFollow-refusal_of}
use Rattle.velo_workload.specs.Program.{Program}
use Rattle.velo_world.specs.World.{WorldState, meaning}
use Rattle.velo_world.proofs.OnAnswers.{event-meaning}
use Rattle.velo_worker.specs.declared.ending.Ending.{Ending}
use Rattle.velo_worker.specs.declared.ending.Ending.TheVariants.{Done, Stuck, Halted, Refused, Gated}
use Rattle.velo_worker.specs.declared.progress.Progress.{Progress}
use Rattle.velo_worker.specs.Progress.{settled, wanted}
use Rattle.velo_worker.specs.Schedule.{ReplayState, AllIdle, IsIdle, IsWait, Tries, TurnOf, TurnsOf, all_threads, RoundsOf, start, ReplaysTo, Replays}
use Rattle.velo_search.specs.Faults as searched
use Rattle.velo_search.specs.Plain as values
use Rattle.velo_search.specs.Plain.{plain_log}
use Rattle.velo_search.specs.Runs.{script_of, IsRunOf, IsNext}
use Rattle.velo_search.proofs.OnFaults.{next-not_idle, refused-not_idle, turned-not_idle}
use Rattle.velo_search.proofs.OnPlain.{status_in-plain}
use Rattle.velo_search.proofs.OnRuns.{IsRunOf-before, IsNext-last}
use Rattle.velo_search.proofs.OnRunsOfScripts.{length-own}
use Rattle.velo_movers.specs.Programs.{own}
use Rattle.velo_movers.specs.Scripts.{plain}
use Rattle.velo_movers.proofs.OnWants.{refusal-same}
use Rattle.velo_explore.specs.Logs.{is_for_room, ends_refused}
use Rattle.velo_explore.specs.Bodies.{all_scripts}
use Rattle.velo_explore.specs.Told.{EndsTooSoon}
use Rattle.velo_explore.proofs.OnBodyScripts.{HaveScripts-bodies, scripts-done}
use Rattle.velo_explore.proofs.OnReplays.{IsAlong, wants-going, going, along-turn, along-turns, along-start}
use Rattle.velo_explore.proofs.OnEndings.{err_is, refused-because, wait-not_halted, wait-not_full, idle-passes}
use Rattle.velo_explore.proofs.OnPlainLogs.{IsRunOf-plain, script_at, alike}
use Rattle.velo_explore.proofs.OnRests.{cycle-from_plain, cycle-longer}

-- ---- what an action means, where it is not refused

halted_is : (halted full : Bool) (e : Event) → ◌≡◌ {A = Result Event Refusal} (if halted then Err refusal.Halted else (if full then Err LogFull else Ok e)) (Err refusal.Halted) → IsTrue halted
halted_is true full e h = refl
halted_is false true e h = cc
halted_is false false e h = cc

-- a world that answers so is halted
halted-because : (w : WorldState) (t : ThreadId) (action : Action) → refusal_of w.config.bounds w.log t.0 (kind_for w.log action) ≡ None → meaning w t action ≡ Err refusal.Halted → IsTrue w.halted
halted-because w t action none h = halted_is w.halted (nat_le w.config.events (length w.log)) (event_for w.log t action) (rw none at h)

-- ---- what it means, where it is

never_ok : (halted : Bool) (r : Refusal) (e : Event) → ◌≡◌ {A = Result Event Refusal} (if halted then Err refusal.Halted else Err r) (Ok e) → ⊥
never_ok true r e h = cc
never_ok false r e h = cc

refused-no_event : (w : WorldState) (t : ThreadId) (action : Action) (r : Refusal) (e : Event) → refusal_of w.config.bounds w.log t.0 (kind_for w.log action) ≡ Some r → meaning w t action ≡ Ok e → ⊥
refused-no_event w t action r e is h = never_ok w.halted r e (rw is at h)

halted_or_so : (halted : Bool) (r : Refusal) → ◌≡◌ {A = Result Event Refusal} (if halted then Err refusal.Halted else Err r) (Err refusal.Halted) → IsTrue halted ⊎ (r ≡ refusal.Halted)
halted_or_so true r h = inl refl
halted_or_so false r h = inr (err_is r refusal.Halted h)

abbrev is_halted : Refusal → Bool
is_halted refusal.Halted = true
is_halted r = false

abbrev IfNotHalted : Option Refusal → Type 0
IfNotHalted None = ⊤
IfNotHalted (Some r) = IsFalse (is_halted r)

one_reason : (b : Bool) (r : Refusal) (rest : Option Refusal) → IsFalse (is_halted r) → IfNotHalted rest → IfNotHalted (if b then Some r else rest)
one_reason true r rest here others = here
one_reason false r rest here others = others

all_reasons : (b0 b1 b2 b3 b4 b5 b6 b7 b8 b9 b10 b11 b12 b13 b14 : Bool) → IfNotHalted (if b0 then Some NotLive else (if b1 then Some NoSuchVariable else (if b2 then Some NoSuchLock else (if b3 then Some NoSuchThread else (if b4 then Some Busy else (if b5 then Some AlreadyHeld else (if b6 then Some NotHolder else (if b7 then Some NoOpenBlock else (if b8 then Some TooDeep else (if b9 then Some AlreadyForked else (if b10 then Some NotForked else (if b11 then Some NotExited else (if b12 then Some AlreadyJoined else (if b13 then Some BlockOpen else (if b14 then Some LockHeld else None)))))))))))))))
all_reasons b0 b1 b2 b3 b4 b5 b6 b7 b8 b9 b10 b11 b12 b13 b14 = one_reason b0 NotLive _ refl (one_reason b1 NoSuchVariable _ refl (one_reason b2 NoSuchLock _ refl (one_reason b3 NoSuchThread _ refl (one_reason b4 Busy _ refl (one_reason b5 AlreadyHeld _ refl (one_reason b6 NotHolder _ refl (one_reason b7 NoOpenBlock _ refl (one_reason b8 TooDeep _ refl (one_reason b9 AlreadyForked _ refl (one_reason b10 NotForked _ refl (one_reason b11 NotExited _ refl (one_reason b12 AlreadyJoined _ refl (one_reason b13 BlockOpen _ refl (one_reason b14 LockHeld None refl tt))))))))))))))

refusal_of-not_halted : (bounds : Bounds) (log : List Event) (t : ℕ) (k : Kind) → IfNotHalted (refusal_of bounds log t k)
unfolding refusal_of
refusal_of-not_halted bounds log t k = all_reasons _ _ _ _ _ _ _ _ _ _ _ _ _ _ _

-- no action is refused as if the world were halted
refusal-not_halted : (bounds : Bounds) (log : List Event) (t : ℕ) (k : Kind) (r : Refusal) → refusal_of bounds log t k ≡ Some r → r ≡ refusal.Halted → ⊥
refusal-not_halted bounds log t k r h is = false≢true (sym (subst IfNotHalted h (refusal_of-not_halted bounds log t k)) ∙ ap is_halted is)

refused-halted : (w : WorldState) (t : ThreadId) (action : Action) (r : Refusal) → refusal_of w.config.bounds w.log t.0 (kind_for w.log action) ≡ Some r → meaning w t action ≡ Err refusal.Halted → IsTrue w.halted
refused-halted w t action r is h = ⊎_elim (λ halted. halted) (λ same. absurd (refusal-not_halted w.config.bounds w.log t.0 (kind_for w.log action) r is same)) (halted_or_so w.halted r (rw is at h))

-- a wait, in both words
waits_so : (r : Refusal) → IsTrue (searched.is_wait r) → IsWait r
waits_so Busy h = tt
waits_so NotExited h = tt
waits_so r h = absurd (false≢true h)

so_waits : (r : Refusal) → IsWait r → IsTrue (searched.is_wait r)
so_waits Busy w = refl
so_waits NotExited w = refl
so_waits r w = absurd w

-- it is halted only where it stops at its first cycle, and has one
abbrev IsHaltedByCycle : WorldState → Type 0
IsHaltedByCycle w = IsTrue w.halted → IsTrue w.config.stop × HasCycle w.log

-- the value of a read plays no part in its refusal
refusal-action : (program : Program) (log : List Event) (t : ℕ) (action : Action) → refusal_of program.bounds log t (kind_for log action) ≡ refusal_of program.bounds log t (plain action)
unfolding refusal_of
refusal-action program log t (Action.Read x) = refl
refusal-action program log t (Action.Write x v) = refl
refusal-action program log t (Action.Acquire m) = refl
refusal-action program log t (Action.Release m) = refl
refusal-action program log t (Action.AcquireShared m) = refl
refusal-action program log t (Action.ReleaseShared m) = refl
refusal-action program log t (Action.Begin l) = refl
refusal-action program log t Action.End = refl
refusal-action program log t (Action.Fork u) = refl
refusal-action program log t (Action.Join u) = refl
refusal-action program log t Action.Exit = refl

-- nor in the operation without it
plain-action : (log : List Event) (action : Action) → values.plain_kind (kind_for log action) ≡ plain action
plain-action log (Action.Read x) = refl
plain-action log (Action.Write x v) = refl
plain-action log _ = refl

abbrev plain_by : ThreadId → Kind → Event
plain_by t k = record { thread = t; kind = k }

-- what becomes of a turn that the next event of a run is due in
abbrev Taken : Option Ending → ReplayState → ReplayState → Event → Type 0
Taken None c c' e = plain_log c'.world.log ≡ plain_log c.world.log ++ e ∷ []
Taken (Some ending) c c' e = EndsTooSoon ending c'.world

-- and of the turns of several
abbrev Followed : Option Ending → ReplayState → ReplayState → List Event → Type 0
Followed None c c' es = (plain_log c'.world.log ≡ plain_log c.world.log ++ es) × IsHaltedByCycle c'.world
Followed (Some ending) c c' es = EndsTooSoon ending c'.world

abbrev turns_in : List Event → List ThreadId
turns_in es = map (λ (e : Event). e.thread) es

module _ (program : Program) where
  -- ---- what a thread tries

  module _ (c : ReplayState) (w : IsAlong program c) where
    -- who is idle in the replay is so by its script
    idle_by_script : (t : ℕ) → IsIdle c.world.log t (slice_get c.threads t) → searched.IsIdle (all_scripts program) (plain_log c.world.log) t
    idle_by_script t idle =
        let log = c.world.log in
        let kinds = all_scripts program in
        ⊎_elim
        (λ none. inl (ap (slice_get (script_of kinds t)) (sym (length-own kinds t (plain_log log))) ∙ (script_at program log w.is_log t ∙ scripts-done program t (own t log) (w.is_log.each t) none)))
        (λ unborn. inr (status_in-plain log t ∙ unborn))
        (idle-passes program c t w (slice_get c.threads t) refl idle)

    module _ (t : ℕ) (k : Kind) (due : slice_get (script_of (all_scripts program) t) (events_of (plain_log c.world.log) t) ≡ Some k) (p : Progress) (there : slice_get c.threads t ≡ Some p) (not_idle : ¬ IsIdle c.world.log t (Some p)) where
      -- a thread tries the operation that is due
      asks_due : plain (wanted (settled p)) ≡ k
      asks_due =
          let log = c.world.log in
          let kinds = all_scripts program in
          same_Some _ _
          (sym ((HaveScripts-bodies program).next t (own t log) (wanted (settled p)) (w.is_log.each t) (wants-going program t (own t log) p (w.threads t p there) (going program log t p not_idle)))
          ∙ (sym (script_at program log w.is_log t) ∙ (ap (slice_get (script_of kinds t)) (length-own kinds t (plain_log log)) ∙ due)))

      -- and is refused as that is
      refusal_due : refusal_of c.world.config.bounds c.world.log t (kind_for c.world.log (wanted (settled p))) ≡ refusal_of program.bounds (plain_log c.world.log) t k
      refusal_due =
          let log = c.world.log in
          ap (λ b. refusal_of b log t (kind_for log (wanted (settled p)))) w.bounds
          ∙ (refusal-action program log t (wanted (settled p))
          ∙ (ap (refusal_of program.bounds log t) asks_due ∙ sym (refusal-same program.bounds log (plain_log log) (alike program log w.is_log) t k)))

  -- ---- one turn

  module _ (c : ReplayState) (w : IsAlong program c) (e : Event) (next : IsNext program.bounds (all_scripts program) (plain_log c.world.log) e) where
    -- its thread has something to try
    busy : IsIdle c.world.log (thread_of e) (slice_get c.threads (thread_of e)) → ⊥
    busy idle = next-not_idle program.bounds (all_scripts program) (plain_log c.world.log) (thread_of e) e (IsRunOf-plain program c.world.log w.is_log) refl next (idle_by_script c w (thread_of e) idle)

    module _ (p : Progress) (there : slice_get c.threads (thread_of e) ≡ Some p) (not_idle : ¬ IsIdle c.world.log (thread_of e) (Some p)) where
      asks : plain (wanted (settled p)) ≡ e.kind
      asks = asks_due c w (thread_of e) e.kind next.due p there not_idle

      -- it is not refused
      allowed : refusal_of c.world.config.bounds c.world.log (thread_of e) (kind_for c.world.log (wanted (settled p))) ≡ None
      allowed =
          refusal_due c w (thread_of e) e.kind next.due p there not_idle
          ∙ ((MayFollow-refusal_of program.bounds (plain_log c.world.log) e (IsRunOf-plain program c.world.log w.is_log).well_formed).0 next.follows).0

      -- an event that happens is the run's
      same_plain : (f : Event) → meaning c.world e.thread (wanted (settled p)) ≡ Ok f → values.plain f ≡ e
      same_plain f due =
          ap values.plain (event-meaning c.world e.thread (wanted (settled p)) f due)
          ∙ ap (plain_by e.thread) (plain-action c.world.log (wanted (settled p)) ∙ asks)

      tries : (stop : Option Ending) (c' : ReplayState) (q : Progress) → IsHaltedByCycle c.world → Tries c.world e.thread p stop c'.world q → Taken stop c c' e
      tries None c' q h (inl (f, did, is)) = ap plain_log did.log ∙ (map-append values.plain c.world.log (f ∷ []) ∙ ap (λ g. plain_log c.world.log ++ g ∷ []) (same_plain f did.due))
      tries None c' q h (inr (r, waits, due, same, is)) = ⊎_elim
          (λ halted. absurd (wait-not_halted r waits halted))
          (λ o. ⊎_elim (λ full. absurd (wait-not_full r waits full)) (λ because. absurd (none-some r (sym allowed ∙ because))) o)
          (refused-because c.world e.thread (wanted (settled p)) r due)
      tries (Some Halted) c' q h (due, same, is) =
          subst (λ (v : WorldState). IsTrue v.config.stop × HasCycle v.log) (sym same) (h (halted-because c.world e.thread (wanted (settled p)) allowed due))
      tries (Some (Refused u r)) c' q h (its, not_halted, ends, same, is) = ⊎_elim
          (λ due. ⊎_elim
          (λ halted. absurd (not_halted halted))
          (λ o. ⊎_elim (λ full. ap is_for_room full) (λ because. absurd (none-some r (sym allowed ∙ because))) o)
          (refused-because c.world e.thread (wanted (settled p)) r due))
          (λ o. ⊎_elim (λ memory. ap is_for_room memory.0) (λ full. ap is_for_room full.0) o)
          ends.cause
      tries (Some Done) c' q h never = absurd never
      tries (Some Stuck) c' q h never = absurd never
      tries (Some Gated) c' q h never = absurd never

    taken : (stop : Option Ending) (c' : ReplayState) → IsHaltedByCycle c.world → TurnOf c e.thread stop c' → Taken stop c c' e
    taken stop c' h (inl (idle, none, same)) = absurd (busy idle)
    taken stop c' h (inr turn) = tries turn.before turn.there turn.not_idle stop c' turn.after h turn.tries

  -- ---- worlds that are halted

  halted-tries : (w : WorldState) (t : ThreadId) (p : Progress) (stop : Option Ending) (w' : WorldState) (q : Progress) → IsHaltedByCycle w → Tries w t p stop w' q → IsHaltedByCycle w'
  halted-tries w t p None w' q h (inl (f, did, is)) = λ halted. let both = did.halted.0 halted in (subst (λ (g : Config). IsTrue g.stop) (sym did.config) both.0, both.1)
  halted-tries w t p None w' q h (inr (r, waits, due, same, is)) = subst IsHaltedByCycle (sym same) h
  halted-tries w t p (Some Halted) w' q h (due, same, is) = subst IsHaltedByCycle (sym same) h
  halted-tries w t p (Some (Refused u r)) w' q h (its, not_halted, ends, same, is) = subst IsHaltedByCycle (sym same) h
  halted-tries w t p (Some Done) w' q h never = absurd never
  halted-tries w t p (Some Stuck) w' q h never = absurd never
  halted-tries w t p (Some Gated) w' q h never = absurd never

  halted-turn : (c : ReplayState) (t : ThreadId) (stop : Option Ending) (c' : ReplayState) → IsHaltedByCycle c.world → TurnOf c t stop c' → IsHaltedByCycle c'.world
  halted-turn c t stop c' h (inl (idle, none, same)) = subst (λ (d : ReplayState). IsHaltedByCycle d.world) (sym same) h
  halted-turn c t stop c' h (inr turn) = halted-tries c.world t turn.before stop c'.world turn.after h turn.tries

  -- ---- all turns of a run

  further : (stop : Option Ending) (c mid c' : ReplayState) (e : Event) (es : List Event) → plain_log mid.world.log ≡ plain_log c.world.log ++ e ∷ [] → Followed stop mid c' es → Followed stop c c' (e ∷ es)
  further None c mid c' e es here (is, h) = (is ∙ (ap (λ l. l ++ es) here ∙ append_assoc (plain_log c.world.log) (e ∷ []) es), h)
  further (Some ending) c mid c' e es here cut = cut

  run_split : (log : List Event) (e : Event) (es : List Event) → IsRunOf program.bounds (all_scripts program) (log ++ (e ∷ es)) → IsRunOf program.bounds (all_scripts program) ((log ++ e ∷ []) ++ es)
  run_split log e es run = subst (IsRunOf program.bounds (all_scripts program)) (sym (append_assoc log (e ∷ []) es)) run

  run_next : (log : List Event) (e : Event) (es : List Event) → IsRunOf program.bounds (all_scripts program) (log ++ (e ∷ es)) → IsNext program.bounds (all_scripts program) log e
  run_next log e es run = IsNext-last program.bounds (all_scripts program) log e (IsRunOf-before program.bounds (all_scripts program) (log ++ e ∷ []) es (run_split log e es run))

  followed : (es : List Event) (c : ReplayState) (stop : Option Ending) (c' : ReplayState) → IsAlong program c → IsHaltedByCycle c.world → IsRunOf program.bounds (all_scripts program) (plain_log c.world.log ++ es) → TurnsOf c (turns_in es) stop c' → Followed stop c c' es
  unfolding TurnsOf
  followed [] c stop c' w h run (none, same) =
      subst (λ s. Followed s c c' []) (sym none)
      (ap (λ (d : ReplayState). plain_log d.world.log) same ∙ sym (append-nil (plain_log c.world.log)), subst (λ (d : ReplayState). IsHaltedByCycle d.world) (sym same) h)
  followed (e ∷ es) c stop c' w h run (inl (ending, is, turn)) =
      subst (λ s. Followed s c c' (e ∷ es)) (sym is) (taken c w e (run_next (plain_log c.world.log) e es run) (Some ending) c' h (subst (λ s. TurnOf c e.thread s c') is turn))
  followed (e ∷ es) c stop c' w h run (inr (mid, turn, rest)) =
      let here = taken c w e (run_next (plain_log c.world.log) e es run) None mid h turn in
      further stop c mid c' e es here
      (followed es mid stop c' (along-turn program c e.thread None mid w turn) (halted-turn c e.thread None mid h turn)
      (subst (λ l. IsRunOf program.bounds (all_scripts program) (l ++ es)) (sym here) (run_split (plain_log c.world.log) e es run)) rest)

  -- ---- a cycle of what is left stays

  module _ (omitted : Omitted) where
    abbrev Cycles : WorldState → Type 0
    Cycles w = HasCycle (rest_of omitted w.log)

    cycle-tries : (w : WorldState) (t : ThreadId) (p : Progress) (stop : Option Ending) (w' : WorldState) (q : Progress) → Tries w t p stop w' q → Cycles w → Cycles w'
    cycle-tries w t p None w' q (inl (f, did, is)) cycle = subst (λ es. HasCycle (rest_of omitted es)) (sym did.log) (cycle-longer omitted w.log (f ∷ []) cycle)
    cycle-tries w t p None w' q (inr (r, waits, due, same, is)) cycle = subst Cycles (sym same) cycle
    cycle-tries w t p (Some Halted) w' q (due, same, is) cycle = subst Cycles (sym same) cycle
    cycle-tries w t p (Some (Refused u r)) w' q (its, not_halted, ends, same, is) cycle = subst Cycles (sym same) cycle
    cycle-tries w t p (Some Done) w' q never cycle = absurd never
    cycle-tries w t p (Some Stuck) w' q never cycle = absurd never
    cycle-tries w t p (Some Gated) w' q never cycle = absurd never

    cycle-turn : (c : ReplayState) (t : ThreadId) (stop : Option Ending) (c' : ReplayState) → TurnOf c t stop c' → Cycles c.world → Cycles c'.world
    cycle-turn c t stop c' (inl (idle, none, same)) cycle = subst (λ (d : ReplayState). Cycles d.world) (sym same) cycle
    cycle-turn c t stop c' (inr turn) cycle = cycle-tries c.world t turn.before stop c'.world turn.after turn.tries cycle

    cycle-turns : (ts : List ThreadId) (c : ReplayState) (stop : Option Ending) (c' : ReplayState) → TurnsOf c ts stop c' → Cycles c.world → Cycles c'.world
    unfolding TurnsOf
    cycle-turns [] c stop c' (none, same) cycle = subst (λ (d : ReplayState). Cycles d.world) (sym same) cycle
    cycle-turns (t ∷ ts) c stop c' (inl (ending, is, turn)) cycle = cycle-turn c t stop c' turn cycle
    cycle-turns (t ∷ ts) c stop c' (inr (mid, turn, rest)) cycle = cycle-turns ts mid stop c' rest (cycle-turn c t None mid turn cycle)

    cycle-rounds : (c : ReplayState) (ending : Ending) (c' : ReplayState) → RoundsOf c ending c' → Cycles c.world → Cycles c'.world
    cycle-rounds _ _ _ (RoundsOf.all_idle c idle) cycle = cycle
    cycle-rounds _ _ _ (RoundsOf.no_event c c' round same) cycle = cycle-turns (all_threads c) c None c' round.turns cycle
    cycle-rounds _ _ _ (RoundsOf.ended c c' ending round) cycle = cycle-turns (all_threads c) c (Some ending) c' round.turns cycle
    cycle-rounds _ _ _ (RoundsOf.goes_on c mid c' ending round more rest) cycle = cycle-rounds mid ending c' rest (cycle-turns (all_threads c) c None mid round.turns cycle)

  -- ---- where all threads are idle or wait

  module _ (log : List Event) (stuck : searched.IsStuck program.bounds (all_scripts program) log) (count : length program.bodies ≡ program.bounds.threads) where
    abbrev Still : Option Ending → ReplayState → ReplayState → Type 0
    Still None c c' = c'.world ≡ c.world
    Still (Some ending) c c' = EndsTooSoon ending c'.world

    still-tries : (c : ReplayState) (t : ThreadId) (p : Progress) (r : Refusal) → IsHaltedByCycle c.world → IsTrue (searched.is_wait r) → refusal_of c.world.config.bounds c.world.log t.0 (kind_for c.world.log (wanted (settled p))) ≡ Some r →
        (stop : Option Ending) (c' : ReplayState) (q : Progress) → Tries c.world t p stop c'.world q → Still stop c c'
    still-tries c t p r h waits refused None c' q (inl (f, did, is)) = absurd (refused-no_event c.world t (wanted (settled p)) r f refused did.due)
    still-tries c t p r h waits refused None c' q (inr (s, waiting, due, same, is)) = same
    still-tries c t p r h waits refused (Some Halted) c' q (due, same, is) =
        subst (λ (v : WorldState). IsTrue v.config.stop × HasCycle v.log) (sym same) (h (refused-halted c.world t (wanted (settled p)) r refused due))
    still-tries c t p r h waits refused (Some (Refused u s)) c' q (its, not_halted, ends, same, is) = ⊎_elim
        (λ due. ⊎_elim
        (λ halted. absurd (not_halted halted))
        (λ o. ⊎_elim (λ full. ap is_for_room full) (λ because. absurd (ends.goes_on (subst IsWait (same_Some r s (sym refused ∙ because)) (waits_so r waits)))) o)
        (refused-because c.world t (wanted (settled p)) s due))
        (λ o. ⊎_elim (λ memory. ap is_for_room memory.0) (λ full. ap is_for_room full.0) o)
        ends.cause
    still-tries c t p r h waits refused (Some Done) c' q never = absurd never
    still-tries c t p r h waits refused (Some Stuck) c' q never = absurd never
    still-tries c t p r h waits refused (Some Gated) c' q never = absurd never

    module _ (c : ReplayState) (w : IsAlong program c) (here : plain_log c.world.log ≡ log) where
      still-turn : (t : ThreadId) (stop : Option Ending) (c' : ReplayState) → IsHaltedByCycle c.world → TurnOf c t stop c' → Still stop c c'
      still-turn t stop c' h (inl (idle, none, same)) = subst (λ s. Still s c c') (sym none) (ap (λ (d : ReplayState). d.world) same)
      still-turn t stop c' h (inr turn) = ⊎_elim
          (λ idle. absurd (tries_something idle))
          (λ waiting. still-tries c t turn.before waiting.refusal h waiting.waits
          (refusal_due c w t.0 waiting.turned.kind (subst (λ l. slice_get (script_of (all_scripts program) t.0) (events_of l t.0) ≡ Some waiting.turned.kind) (sym here) waiting.turned.due) turn.before turn.there turn.not_idle
          ∙ subst (λ l. refusal_of program.bounds l t.0 waiting.turned.kind ≡ Some waiting.refusal) (sym here) waiting.turned.refused)
          stop c' turn.after turn.tries)
          (stuck.each t.0 (let within = slice_get_within c.threads t.0 turn.before turn.there in omega (arith, within, w.count, count)))
        where
          tries_something : searched.IsIdle (all_scripts program) log t.0 → ⊥
          tries_something (inr unborn) = turn.not_idle (inr (sym (status_in-plain c.world.log t.0) ∙ (ap (λ l. status_in l t.0) here ∙ unborn)))
          tries_something (inl none) = none-some _
              (sym none ∙ (ap (λ l. slice_get (script_of (all_scripts program) t.0) (events_of l t.0)) (sym here)
              ∙ (ap (slice_get (script_of (all_scripts program) t.0)) (sym (length-own (all_scripts program) t.0 (plain_log c.world.log)))
              ∙ (script_at program c.world.log w.is_log t.0
              ∙ (HaveScripts-bodies program).next t.0 (own t.0 c.world.log) (wanted (settled turn.before)) (w.is_log.each t.0)
              (wants-going program t.0 (own t.0 c.world.log) turn.before (w.threads t.0 turn.before turn.there) (going program c.world.log t.0 turn.before turn.not_idle))))))

      -- not all of them are idle
      some_waits : AllIdle c → ⊥
      some_waits idle =
          let waiting = stuck.some.2 in
          turned-not_idle program.bounds (all_scripts program) log stuck.some.0 waiting.refusal waiting.turned
          (subst (λ l. searched.IsIdle (all_scripts program) l stuck.some.0) here
          (idle_by_script c w stuck.some.0 (idle.each stuck.some.0 (let within = stuck.some.1 in omega (arith, within, w.count, count)))))

    still-turns : (ts : List ThreadId) (c : ReplayState) (stop : Option Ending) (c' : ReplayState) → IsAlong program c → plain_log c.world.log ≡ log → IsHaltedByCycle c.world → TurnsOf c ts stop c' → Still stop c c'
    unfolding TurnsOf
    still-turns [] c stop c' w here h (none, same) = subst (λ s. Still s c c') (sym none) (ap (λ (d : ReplayState). d.world) same)
    still-turns (t ∷ ts) c stop c' w here h (inl (ending, is, turn)) = still-turn c w here t stop c' h turn
    still-turns (t ∷ ts) c stop c' w here h (inr (mid, turn, rest)) =
        let same = still-turn c w here t None mid h turn in
        same_world stop mid same
        (still-turns ts mid stop c' (along-turn program c t None mid w turn) (ap (λ (v : WorldState). plain_log v.log) same ∙ here) (halted-turn c t None mid h turn) rest)
      where
        same_world : (s : Option Ending) (m : ReplayState) → m.world ≡ c.world → Still s m c' → Still s c c'
        same_world None m same still = still ∙ same
        same_world (Some ending) m same cut = cut

    still-rounds : (c : ReplayState) (ending : Ending) (c' : ReplayState) → IsAlong program c → plain_log c.world.log ≡ log → IsHaltedByCycle c.world → RoundsOf c ending c' → (ending ≡ Stuck) ⊎ EndsTooSoon ending c'.world
    still-rounds _ _ _ w here h (RoundsOf.all_idle c idle) = absurd (some_waits c w here idle)
    still-rounds _ _ _ w here h (RoundsOf.no_event c c' round same) = inl refl
    still-rounds _ _ _ w here h (RoundsOf.ended c c' ending round) = inr (still-turns (all_threads c) c (Some ending) c' w here h round.turns)
    still-rounds _ _ _ w here h (RoundsOf.goes_on c mid c' ending round more rest) =
        absurd (let same = ap (λ (v : WorldState). length v.log) (still-turns (all_threads c) c None mid w here h round.turns) in omega (arith, more, same))

  -- ---- where a thread is refused

  module _ (c : ReplayState) (w : IsAlong program c) (log : List Event) (here : plain_log c.world.log ≡ log) (t : ThreadId) (r : searched.IsRefused program.bounds (all_scripts program) log t.0) where
    abbrev Ended : Option Ending → ReplayState → Type 0
    Ended None c' = ⊥
    Ended (Some ending) c' = IsTrue (ends_refused ending) ⊎ EndsTooSoon ending c'.world

    module _ (p : Progress) (refused : refusal_of c.world.config.bounds c.world.log t.0 (kind_for c.world.log (wanted (settled p))) ≡ Some r.refusal) where
      refused-tries : (stop : Option Ending) (c' : ReplayState) (q : Progress) → IsHaltedByCycle c.world → Tries c.world t p stop c'.world q → Ended stop c'
      refused-tries None c' q h (inl (f, did, is)) = refused-no_event c.world t (wanted (settled p)) r.refusal f refused did.due
      refused-tries None c' q h (inr (s, waits, due, same, is)) = ⊎_elim
          (λ halted. wait-not_halted s waits halted)
          (λ o. ⊎_elim (λ full. wait-not_full s waits full)
          (λ because. false≢true (sym r.for_good ∙ so_waits r.refusal (subst IsWait (same_Some s r.refusal (sym because ∙ refused)) waits))) o)
          (refused-because c.world t (wanted (settled p)) s due)
      refused-tries (Some Halted) c' q h (due, same, is) =
          inr (subst (λ (v : WorldState). IsTrue v.config.stop × HasCycle v.log) (sym same) (h (refused-halted c.world t (wanted (settled p)) r.refusal refused due)))
      refused-tries (Some (Refused u s)) c' q h tries = ⊎_elim (λ room. inr room) (λ lasting. inl (ap not lasting)) (cases_Bool (is_for_room s))
      refused-tries (Some Done) c' q h never = absurd never
      refused-tries (Some Stuck) c' q h never = absurd never
      refused-tries (Some Gated) c' q h never = absurd never

    refused-turn : (stop : Option Ending) (c' : ReplayState) → IsHaltedByCycle c.world → TurnOf c t stop c' → Ended stop c'
    refused-turn stop c' h (inl (idle, none, same)) =
        absurd (refused-not_idle program.bounds (all_scripts program) log t.0 r (subst (λ l. searched.IsIdle (all_scripts program) l t.0) here (idle_by_script c w t.0 idle)))
    refused-turn stop c' h (inr turn) =
        refused-tries turn.before
        (refusal_due c w t.0 r.turned.kind (subst (λ l. slice_get (script_of (all_scripts program) t.0) (events_of l t.0) ≡ Some r.turned.kind) (sym here) r.turned.due) turn.before turn.there turn.not_idle
        ∙ subst (λ l. refusal_of program.bounds l t.0 r.turned.kind ≡ Some r.refusal) (sym here) r.turned.refused)
        stop c' turn.after h turn.tries

  turns-split : (xs ys : List ThreadId) (c : ReplayState) (stop : Option Ending) (c' : ReplayState) → TurnsOf c (xs ++ ys) stop c' →
      ((ending : Ending) × (stop ≡ Some ending) × TurnsOf c xs (Some ending) c') ⊎ ((mid : ReplayState) × TurnsOf c xs None mid × TurnsOf mid ys stop c')
  unfolding TurnsOf
  turns-split [] ys c stop c' turns = inr (c, (refl, refl), turns)
  turns-split (t ∷ xs) ys c stop c' (inl (ending, is, turn)) = inl (ending, is, inl (ending, refl, subst (λ s. TurnOf c t s c') is turn))
  turns-split (t ∷ xs) ys c stop c' (inr (mid, turn, rest)) = ⊎_elim
      (λ ended. inl (ended.0, ended.1, inr (mid, turn, ended.2)))
      (λ on. inr (on.0, inr (mid, turn, on.1), on.2))
      (turns-split xs ys mid stop c' rest)

  one_turn : (c : ReplayState) (t : ThreadId) (stop : Option Ending) (c' : ReplayState) → TurnsOf c (t ∷ []) stop c' → ((ending : Ending) × (stop ≡ Some ending) × TurnOf c t (Some ending) c') ⊎ ((stop ≡ None) × TurnOf c t None c')
  unfolding TurnsOf
  one_turn c t stop c' (inl (ending, is, turn)) = inl (ending, is, subst (λ s. TurnOf c t s c') is turn)
  one_turn c t stop c' (inr (mid, turn, (none, same))) = inr (none, subst (λ (d : ReplayState). TurnOf c t None d) (sym same) turn)

  -- ---- the replay by the turns of a run

  module _ (log : List Event) (run : IsRunOf program.bounds (all_scripts program) log) (config : Config) (same : config.bounds ≡ program.bounds) where
    from_start : (stop : Option Ending) (c' : ReplayState) → TurnsOf (start program config) (turns_in log) stop c' → Followed stop (start program config) c' log
    from_start stop c' turns = followed log (start program config) stop c' (along-start program config same) (λ halted. absurd (false≢true halted)) run turns

    -- has the cycle of what is left of the run
    pub follows-cycle : (omitted : Omitted) (ending : Ending) (closed : WorldState) → HasCycle (rest_of omitted log) → Replays program (turns_in log) config ending closed → HasCycle (rest_of omitted closed.log) ⊎ EndsTooSoon ending closed
    follows-cycle omitted ending closed cycle r = at r.runs
      where
        at : ReplaysTo (start program config) (turns_in log) ending r.last → HasCycle (rest_of omitted closed.log) ⊎ EndsTooSoon ending closed
        at (inl turns) = inr (subst (EndsTooSoon ending) (sym r.world) (from_start (Some ending) r.last turns))
        at (inr (mid, turns, rounds)) =
            let there = from_start None mid turns in
            inl (subst (λ (v : WorldState). HasCycle (rest_of omitted v.log)) (sym r.world) (cycle-rounds omitted mid ending r.last rounds (cycle-from_plain omitted mid.world.log (subst (λ es. HasCycle (rest_of omitted es)) (sym there.0) cycle))))

    -- ends stuck as it does
    pub follows-stuck : length program.bodies ≡ program.bounds.threads → searched.IsStuck program.bounds (all_scripts program) log → (ending : Ending) (closed : WorldState) → Replays program (turns_in log) config ending closed → (ending ≡ Stuck) ⊎ EndsTooSoon ending closed
    follows-stuck count stuck ending closed r = at r.runs
      where
        at : ReplaysTo (start program config) (turns_in log) ending r.last → (ending ≡ Stuck) ⊎ EndsTooSoon ending closed
        at (inl turns) = inr (subst (EndsTooSoon ending) (sym r.world) (from_start (Some ending) r.last turns))
        at (inr (mid, turns, rounds)) =
            let there = from_start None mid turns in
            subst (λ v. (ending ≡ Stuck) ⊎ EndsTooSoon ending v) (sym r.world)
            (still-rounds log stuck count mid ending r.last (along-turns program (turns_in log) (start program config) None mid (along-start program config same) turns) there.0 there.1 rounds)

    -- and with one turn more of a thread that is refused then ends so
    pub follows-refused : (t : ThreadId) → searched.IsRefused program.bounds (all_scripts program) log t.0 → (ending : Ending) (closed : WorldState) → Replays program (turns_in log ++ t ∷ []) config ending closed → IsTrue (ends_refused ending) ⊎ EndsTooSoon ending closed
    follows-refused t refused ending closed r = subst (λ v. IsTrue (ends_refused ending) ⊎ EndsTooSoon ending v) (sym r.world) (at r.runs)
      where
        last : (stop : Option Ending) (c' : ReplayState) → TurnsOf (start program config) (turns_in log ++ t ∷ []) stop c' → ((ended : Ending) × (stop ≡ Some ended) × (IsTrue (ends_refused ended) ⊎ EndsTooSoon ended c'.world))
        last stop c' turns = ⊎_elim
            (λ cut. (cut.0, cut.1, inr (from_start (Some cut.0) c' cut.2)))
            (λ on.
            let mid = on.0 in
            let there = from_start None mid on.1 in
            let w = along-turns program (turns_in log) (start program config) None mid (along-start program config same) on.1 in
            ⊎_elim
            (λ ends. (ends.0, ends.1, refused-turn mid w log there.0 t refused (Some ends.0) c' there.1 ends.2))
            (λ goes_on. absurd (refused-turn mid w log there.0 t refused None c' there.1 goes_on.1))
            (one_turn mid t stop c' on.2))
            (turns-split (turns_in log) (t ∷ []) (start program config) stop c' turns)

        at : ReplaysTo (start program config) (turns_in log ++ t ∷ []) ending r.last → IsTrue (ends_refused ending) ⊎ EndsTooSoon ending r.last.world
        at (inl turns) =
            let ends = last (Some ending) r.last turns in
            subst (λ (e : Ending). IsTrue (ends_refused e) ⊎ EndsTooSoon e r.last.world) (sym (same_Some ending ends.0 ends.1)) ends.2
        at (inr (mid, turns, rounds)) =
            let ends = last None mid turns in
            absurd (none-some ends.0 ends.1)
