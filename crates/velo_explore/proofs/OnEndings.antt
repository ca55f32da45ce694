-- How a replay ends is told by its log: stuck where each thread waits or is idle, and refused where a thread is, or for want of room.
use Rattle.std.proofs.Common.{◌≡◌, ℕ, zero, suc, ◌+◌, ◌<◌, ◌≤◌, Bool, true, false, List, [], ◌∷◌, length, length-append, Option, Some, None, Result, Ok, Err, refl, sym, ap, ◌∙◌, subst, arith, ⊎_elim, inl, inr}
use Rattle.std.specs.Prelude.{◌⊎◌, nat_le, if◌then◌else◌, slice_get, IsTrue, IsFalse}
use Rattle.std.proofs.lemmas.Bool.{cases_Bool, cases_lt}
use Rattle.std.proofs.lemmas.Option.{slice_get_past, same_Some, none-some}
use Rattle.velo_events.specs.declared.config.Config.{Config}
use Rattle.velo_events.specs.declared.event.Action.{Action}
use Rattle.velo_events.specs.declared.event.Event.{Event}
use Rattle.velo_events.specs.declared.event.ThreadId.{ThreadId}
use Rattle.velo_events.specs.declared.refusal.Refusal.{Refusal}
use Rattle.velo_events.specs.declared.refusal.Refusal.TheVariants.{Busy, NotExited, GraphFull, LogFull, Memory}
use Rattle.velo_events.specs.declared.refusal.Refusal.TheVariants as refusal
use Rattle.velo_events.specs.Meaning.{kind_for, event_for, refusal_of}
use Rattle.velo_workload.specs.Program.{Program}
use Rattle.velo_world.specs.World.{WorldState, meaning}
use Rattle.velo_worker.specs.declared.ending.Ending.{Ending}
use Rattle.velo_worker.specs.declared.ending.Ending.TheVariants.{Stuck, Refused}
use Rattle.velo_worker.specs.declared.progress.Progress.{Progress}
use Rattle.velo_worker.specs.Progress.{settled, wanted}
use Rattle.velo_worker.specs.Schedule.{ReplayState, IsIdle, IsWait, Tries, TurnOf, TurnsOf, threads_from, all_threads, RoundOf, RoundsOf, start, ReplaysTo, Replays}
use Rattle.velo_worker.proofs.OnTurns.{Kept-turn, Kept-turns}
use Rattle.velo_movers.specs.Programs.{own, IsNever}
use Rattle.velo_movers.specs.Wants.{Does, is_wait, refusal_at, IsRefused, IsStuck, HasRefusal}
use Rattle.velo_movers.specs.Wants as threads
use Rattle.velo_explore.specs.Logs.{tried_by, wants_of, NeverStuck, NeverRefused, is_for_room}
use Rattle.velo_explore.proofs.OnReplays.{IsAlong, wants-going, wants-done, going, along-turn, along-turns, along-start, IsLogOf-replays}

-- ---- why an action means a refusal

pub err_is : (r s : Refusal) → ◌≡◌ {A = Result Event Refusal} (Err r) (Err s) → r ≡ s
err_is r s h = cc

halted_or : (halted : Bool) (r s : Refusal) → ◌≡◌ {A = Result Event Refusal} (if halted then Err refusal.Halted else Err r) (Err s) → (s ≡ refusal.Halted) ⊎ (r ≡ s)
halted_or true r s h = inl (sym (err_is refusal.Halted s h))
halted_or false r s h = inr (err_is r s h)

full_or : (halted full : Bool) (e : Event) (s : Refusal) → ◌≡◌ {A = Result Event Refusal} (if halted then Err refusal.Halted else (if full then Err LogFull else Ok e)) (Err s) → (s ≡ refusal.Halted) ⊎ (s ≡ LogFull)
full_or true full e s h = inl (sym (err_is refusal.Halted s h))
full_or false true e s h = inr (sym (err_is LogFull s h))
full_or false false e s h = cc

-- the world is halted, or its log is full, or the action is refused
pub refused-because : (w : WorldState) (t : ThreadId) (action : Action) (r : Refusal) → meaning w t action ≡ Err r → (r ≡ refusal.Halted) ⊎ ((r ≡ LogFull) ⊎ (refusal_of w.config.bounds w.log t.0 (kind_for w.log action) ≡ Some r))
refused-because w t action r h = at (refusal_of w.config.bounds w.log t.0 (kind_for w.log action)) refl
  where
    at : (o : Option Refusal) → refusal_of w.config.bounds w.log t.0 (kind_for w.log action) ≡ o → (r ≡ refusal.Halted) ⊎ ((r ≡ LogFull) ⊎ (refusal_of w.config.bounds w.log t.0 (kind_for w.log action) ≡ Some r))
    at (Some s) is = ⊎_elim (λ a. inl a) (λ b. inr (inr (is ∙ ap Some b))) (halted_or w.halted s r (rw is at h))
    at None is = ⊎_elim (λ a. inl a) (λ b. inr (inl b)) (full_or w.halted (nat_le w.config.events (length w.log)) (event_for w.log t action) r (rw is at h))

-- a wait is one of two
wait-true : (r : Refusal) → IsWait r → IsTrue (is_wait r)
wait-true Busy w = refl
wait-true NotExited w = refl
wait-true r w = absurd w

wait-false : (r : Refusal) → ¬ IsWait r → IsFalse (is_wait r)
wait-false Busy w = absurd (w tt)
wait-false NotExited w = absurd (w tt)
wait-false r w = refl

pub wait-not_halted : (r : Refusal) → IsWait r → r ≡ refusal.Halted → ⊥
wait-not_halted r w is = subst IsWait is w

pub wait-not_full : (r : Refusal) → IsWait r → r ≡ LogFull → ⊥
wait-not_full r w is = subst IsWait is w

-- ---- turns without an event

thread_at : ℕ → ThreadId
thread_at i = record { 0 = i }

-- after the log thread t is idle, or waits
abbrev Passes : Program → List Event → ℕ → Type 0
Passes program log t =
    threads.IsIdle (wants_of program) log t ⊎ ((r : Refusal) × IsRefused program.bounds (wants_of program) log t r × IsTrue (is_wait r))

module _ (program : Program) where
  abbrev wishes : ℕ → List Event → Option Action
  wishes = wants_of program

  -- what a try that is refused says
  refused-try : (c : ReplayState) (t : ThreadId) (p : Progress) (r : Refusal) → IsAlong program c → slice_get c.threads t.0 ≡ Some p → ¬ IsIdle c.world.log t.0 (Some p) → refusal_of c.world.config.bounds c.world.log t.0 (kind_for c.world.log (wanted (settled p))) ≡ Some r → IsRefused program.bounds wishes c.world.log t.0 r
  refused-try c t p r w there busy because = record {
    born = λ unborn. busy (inr unborn);
    refused = ap (refusal_at program.bounds c.world.log t.0) (wants-going program t.0 (own t.0 c.world.log) p (w.threads t.0 p there) (going program c.world.log t.0 p busy))
        ∙ subst (λ b. refusal_of b c.world.log t.0 (kind_for c.world.log (wanted (settled p))) ≡ Some r) w.bounds because;
  }

  -- a thread that is not there is idle
  beyond-idle : (c : ReplayState) (t : ℕ) → IsAlong program c → length c.threads ≤ t → threads.IsIdle wishes c.world.log t
  beyond-idle c t w beyond = inl (ap (λ o. tried_by o (own t c.world.log)) (slice_get_past program.bodies t (let long = w.count in omega (arith, long, beyond))))

  quiet-tries : (c : ReplayState) (t : ThreadId) (p : Progress) (w' : WorldState) (q : Progress) → IsAlong program c → slice_get c.threads t.0 ≡ Some p → ¬ IsIdle c.world.log t.0 (Some p) → Tries c.world t p None w' q → length w'.log ≡ length c.world.log → (w'.log ≡ c.world.log) × Passes program c.world.log t.0
  quiet-tries c t p w' q w there busy (inl (e, did, is)) none = absurd (let more = ap length did.log in let long = length-append c.world.log (e ∷ []) in omega (arith, more, long, none))
  quiet-tries c t p w' q w there busy (inr (r, waits, due, same, is)) none = (
    ap (λ (v : WorldState). v.log) same,
    inr (
      r,
      refused-try c t p r w there busy
          (⊎_elim (λ halted. absurd (wait-not_halted r waits halted)) (λ o. ⊎_elim (λ full. absurd (wait-not_full r waits full)) (λ because. because) o) (refused-because c.world t (wanted (settled p)) r due)),
      wait-true r waits,
    ),
  )

  pub idle-passes : (c : ReplayState) (t : ℕ) → IsAlong program c → (o : Option Progress) → slice_get c.threads t ≡ o → IsIdle c.world.log t o → threads.IsIdle wishes c.world.log t
  idle-passes c t w None there idle = ⊎_elim (λ l. absurd (inside l)) (λ beyond. beyond-idle c t w beyond) (cases_lt t (length c.threads))
    where
      inside : t < length c.threads → ⊥
      inside l = none_there c.threads t l there
        where
          none_there : (xs : List Progress) (k : ℕ) → k < length xs → slice_get xs k ≡ None → ⊥
          none_there [] k l h = omega (arith, l)
          none_there (x ∷ xs) zero l h = none-some x (sym h)
          none_there (x ∷ xs) (suc k) l h = none_there xs k (omega (arith, l)) h
  idle-passes c t w (Some p) there (inl done) = inl (wants-done program t (own t c.world.log) p (w.threads t p there) done)
  idle-passes c t w (Some p) there (inr unborn) = inr unborn

  quiet-turn : (c : ReplayState) (t : ThreadId) (c' : ReplayState) → IsAlong program c → TurnOf c t None c' → length c'.world.log ≡ length c.world.log → (c'.world.log ≡ c.world.log) × Passes program c.world.log t.0
  quiet-turn c t c' w (inl (idle, none, same)) flat = (ap (λ (d : ReplayState). d.world.log) same, inl (idle-passes c t.0 w (slice_get c.threads t.0) refl idle))
  quiet-turn c t c' w (inr turn) flat = quiet-tries c t turn.before c'.world turn.after w turn.there turn.not_idle turn.tries flat

  quiet-turns : (ts : List ThreadId) (c c' : ReplayState) → IsAlong program c → TurnsOf c ts None c' → length c'.world.log ≡ length c.world.log → (c'.world.log ≡ c.world.log) × ((k : ℕ) (t : ThreadId) → slice_get ts k ≡ Some t → Passes program c.world.log t.0)
  unfolding TurnsOf
  quiet-turns [] c c' w (none, same) flat = (ap (λ (d : ReplayState). d.world.log) same, λ k t h. absurd (none-some t h))
  quiet-turns (t ∷ ts) c c' w (inl (ending, is, turn)) flat = absurd (none-some ending is)
  quiet-turns (t ∷ ts) c c' w (inr (mid, turn, rest)) flat =
      let first_kept = (Kept-turn c t None mid turn).log in
      let rest_kept = (Kept-turns ts mid None c' rest).log in
      let first = quiet-turn c t mid w turn (omega (arith, first_kept, rest_kept, flat)) in
      let others = quiet-turns ts mid c' (along-turn program c t None mid w turn) rest (omega (arith, first_kept, rest_kept, flat)) in
      (others.0 ∙ first.0, λ k u h. at k u h first.0 first.1 others.1)
    where
      at : (k : ℕ) (u : ThreadId) → slice_get (t ∷ ts) k ≡ Some u → mid.world.log ≡ c.world.log → Passes program c.world.log t.0 → ((j : ℕ) (v : ThreadId) → slice_get ts j ≡ Some v → Passes program mid.world.log v.0) → Passes program c.world.log u.0
      at zero u h same first others = subst (λ (v : ThreadId). Passes program c.world.log v.0) (same_Some t u h) first
      at (suc k) u h same first others = subst (λ log. Passes program log u.0) same (others k u h)

  threads_from-at : (a n k : ℕ) → k < n → slice_get (threads_from a n) k ≡ Some (record { 0 = a + k })
  unfolding threads_from thread_at
  threads_from-at a zero k l = absurd (omega (arith, l))
  threads_from-at a (suc n) zero l = ap (λ (i : ℕ). Some (thread_at i)) (let e : a ≡ a + 0 = omega arith in e)
  threads_from-at a (suc n) (suc k) l = threads_from-at (a + 1) n k (omega (arith, l)) ∙ ap (λ (i : ℕ). Some (thread_at i)) (let e : a + 1 + k ≡ a + suc k = omega arith in e)

  -- all are idle, or one waits
  some_waits : (log : List Event) (n : ℕ) → ((t : ℕ) → t < n → Passes program log t) → ((t : ℕ) → t < n → threads.IsIdle wishes log t) ⊎ ((t : ℕ) × (r : Refusal) × IsRefused program.bounds wishes log t r × IsTrue (is_wait r))
  some_waits log zero h = inl (λ t l. absurd (omega (arith, l)))
  some_waits log (suc n) h = ⊎_elim
      (λ idle. ⊎_elim
      (λ last. inl (λ t l. ⊎_elim (λ less. idle t less) (λ g. subst (λ u. threads.IsIdle wishes log u) (let e : n ≡ t = omega (arith, l, g) in e) last) (cases_lt t n)))
      (λ waits. inr (n, waits.0, waits.1, waits.2))
      (h n (omega arith)))
      (λ found. inr found)
      (some_waits log n (λ t l. h t (omega (arith, l))))

  idle-of : (c : ReplayState) (t : ℕ) → IsAlong program c → (o : Option Progress) → slice_get c.threads t ≡ o → threads.IsIdle wishes c.world.log t → IsIdle c.world.log t o
  idle-of c t w None there idle = tt
  idle-of c t w (Some p) there (inr unborn) = inr unborn
  idle-of c t w (Some p) there (inl none) = ⊎_elim (λ done. inl done)
      (λ alive. absurd (none-some (wanted (settled p)) (sym none ∙ wants-going program t (own t c.world.log) p (w.threads t p there) alive)))
      (cases_Bool p.done)

  -- a round without an event
  stuck-round : (c c' : ReplayState) → IsAlong program c → RoundOf c None c' → length c'.world.log ≡ length c.world.log → IsStuck program.bounds wishes c'.world.log
  stuck-round c c' w round flat =
      let quiet = quiet-turns (all_threads c) c c' w round.turns flat in
      let passes : ((t : ℕ) → t < length c.threads → Passes program c.world.log t) = λ t l. subst (Passes program c.world.log) (let e : 0 + t ≡ t = omega arith in e) (quiet.1 t (record { 0 = 0 + t }) (threads_from-at 0 (length c.threads) t l)) in
      subst (IsStuck program.bounds wishes) (sym quiet.0) (stuck passes (some_waits c.world.log (length c.threads) passes))
    where
      stuck : ((t : ℕ) → t < length c.threads → Passes program c.world.log t) → ((t : ℕ) → t < length c.threads → threads.IsIdle wishes c.world.log t) ⊎ ((t : ℕ) × (r : Refusal) × IsRefused program.bounds wishes c.world.log t r × IsTrue (is_wait r)) → IsStuck program.bounds wishes c.world.log
      stuck passes (inl idle) = absurd (round.some (record { each = λ t l. idle-of c t w (slice_get c.threads t) refl (idle t l) }))
      stuck passes (inr found) = record {
        waiting = found.0;
        reason = found.1;
        waits = found.2;
        is_waiting = found.3;
        each = λ t l. ⊎_elim (λ inside. passes t inside) (λ beyond. inl (beyond-idle c t w beyond)) (cases_lt t (length c.threads));
      }

  -- ---- turns that end the run

  -- a state of the replay, and a turn that ends it
  record Ends (ending : Ending) (c' : ReplayState) : Type 0 where
    last : ReplayState
    along : IsAlong program last
    thread : ThreadId
    turn : TurnOf last thread (Some ending) c'

  ends-turns : (ts : List ThreadId) (c : ReplayState) (ending : Ending) (c' : ReplayState) → IsAlong program c → TurnsOf c ts (Some ending) c' → Ends ending c'
  unfolding TurnsOf
  ends-turns [] c ending c' w (none, same) = absurd (none-some ending (sym none))
  ends-turns (t ∷ ts) c ending c' w (inl (other, is, turn)) = record { last = c; along = w; thread = t; turn = turn }
  ends-turns (t ∷ ts) c ending c' w (inr (mid, turn, rest)) = ends-turns ts mid ending c' (along-turn program c t None mid w turn) rest

  not_stuck-turn : (c' : ReplayState) → Ends Stuck c' → ⊥
  not_stuck-turn c' w = at w.turn
    where
      at : TurnOf w.last w.thread (Some Stuck) c' → ⊥
      at (inl (idle, none, same)) = none-some Stuck (sym none)
      at (inr turn) = turn.tries

  stuck-rounds : (c : ReplayState) (ending : Ending) (c' : ReplayState) → IsAlong program c → ending ≡ Stuck → RoundsOf c ending c' → IsStuck program.bounds wishes c'.world.log
  stuck-rounds _ _ _ w is (RoundsOf.all_idle c idle) = cc
  stuck-rounds _ _ _ w is (RoundsOf.no_event c c' round same) = stuck-round c c' w round same
  stuck-rounds _ _ _ w is (RoundsOf.ended c c' ending round) = absurd (not_stuck-turn c' (subst (λ (s : Ending). Ends s c') is (ends-turns (all_threads c) c ending c' w round.turns)))
  stuck-rounds _ _ _ w is (RoundsOf.goes_on c mid c' ending round more rest) = stuck-rounds mid ending c' (along-turns program (all_threads c) c None mid w round.turns) is rest

  -- A replay that is stuck has a log in which each thread that is not idle waits, and some does
  pub IsStuck-replays : (schedule : List ThreadId) (config : Config) (closed : WorldState) → config.bounds ≡ program.bounds → Replays program schedule config Stuck closed → IsStuck program.bounds wishes closed.log
  IsStuck-replays schedule config closed is r = subst (λ (v : WorldState). IsStuck program.bounds wishes v.log) (sym r.world) (at r.runs)
    where
      at : ReplaysTo (start program config) schedule Stuck r.last → IsStuck program.bounds wishes r.last.world.log
      at (inl turns) = absurd (not_stuck-turn r.last (ends-turns schedule (start program config) Stuck r.last (along-start program config is) turns))
      at (inr (mid, turns, rounds)) = stuck-rounds mid Stuck r.last (along-turns program schedule (start program config) None mid (along-start program config is) turns) refl rounds

  -- ---- refusals

  refused-turn : (u : ThreadId) (r : Refusal) (c' : ReplayState) → Ends (Refused u r) c' → HasRefusal program.bounds wishes c'.world.log ⊎ IsTrue (is_for_room r)
  refused-turn u r c' w = at w.turn
    where
      at : TurnOf w.last w.thread (Some (Refused u r)) c' → HasRefusal program.bounds wishes c'.world.log ⊎ IsTrue (is_for_room r)
      at (inl (idle, none, same)) = absurd (none-some (Refused u r) (sym none))
      at (inr turn) = tried_at turn.tries
        where
          tried_at : Tries w.last.world w.thread turn.before (Some (Refused u r)) c'.world turn.after → HasRefusal program.bounds wishes c'.world.log ⊎ IsTrue (is_for_room r)
          tried_at (its, not_halted, ends, same, is) = ⊎_elim
              (λ due. ⊎_elim (λ halted. absurd (not_halted halted)) (λ o. ⊎_elim (λ full. inr (ap is_for_room full))
              (λ because. inl (subst (λ (v : WorldState). HasRefusal program.bounds wishes v.log) (sym same) (record {
                thread = w.thread.0;
                reason = r;
                refused = refused-try w.last w.thread turn.before r w.along turn.there turn.not_idle because;
                no_wait = wait-false r ends.goes_on;
              }))) o) (refused-because w.last.world w.thread (wanted (settled turn.before)) r due))
              (λ o. ⊎_elim (λ memory. inr (ap is_for_room memory.0)) (λ full. inr (ap is_for_room full.0)) o)
              ends.cause

  refused-rounds : (c : ReplayState) (ending : Ending) (c' : ReplayState) (u : ThreadId) (r : Refusal) → IsAlong program c → ending ≡ Refused u r → RoundsOf c ending c' → HasRefusal program.bounds wishes c'.world.log ⊎ IsTrue (is_for_room r)
  refused-rounds _ _ _ u r w is (RoundsOf.all_idle c idle) = cc
  refused-rounds _ _ _ u r w is (RoundsOf.no_event c c' round same) = cc
  refused-rounds _ _ _ u r w is (RoundsOf.ended c c' ending round) = refused-turn u r c' (subst (λ (s : Ending). Ends s c') is (ends-turns (all_threads c) c ending c' w round.turns))
  refused-rounds _ _ _ u r w is (RoundsOf.goes_on c mid c' ending round more rest) = refused-rounds mid ending c' u r (along-turns program (all_threads c) c None mid w round.turns) is rest

  -- A replay that is refused has a log in which a thread is, or was refused for want of room
  pub HasRefusal-replays : (schedule : List ThreadId) (config : Config) (u : ThreadId) (r : Refusal) (closed : WorldState) → config.bounds ≡ program.bounds → Replays program schedule config (Refused u r) closed → HasRefusal program.bounds wishes closed.log ⊎ IsTrue (is_for_room r)
  HasRefusal-replays schedule config u r closed is w = subst (λ (v : WorldState). HasRefusal program.bounds wishes v.log ⊎ IsTrue (is_for_room r)) (sym w.world) (at w.runs)
    where
      at : ReplaysTo (start program config) schedule (Refused u r) w.last → HasRefusal program.bounds wishes w.last.world.log ⊎ IsTrue (is_for_room r)
      at (inl turns) = refused-turn u r w.last (ends-turns schedule (start program config) (Refused u r) w.last (along-start program config is) turns)
      at (inr (mid, turns, rounds)) = refused-rounds mid (Refused u r) w.last u r (along-turns program schedule (start program config) None mid (along-start program config is) turns) refl rounds

  -- ---- all replays

  pub NeverStuck-by : IsNever program.bounds (Does wishes) (IsStuck program.bounds wishes) [] → NeverStuck program
  NeverStuck-by never schedule config closed is r = never closed.log (IsLogOf-replays program schedule config Stuck closed is r) (IsStuck-replays schedule config closed is r)

  pub NeverRefused-by : IsNever program.bounds (Does wishes) (HasRefusal program.bounds wishes) [] → NeverRefused program
  NeverRefused-by never schedule config u r closed is w = ⊎_elim
      (λ refused. absurd (never closed.log (IsLogOf-replays program schedule config (Refused u r) closed is w) refused))
      (λ room. room)
      (HasRefusal-replays schedule config u r closed is w)
