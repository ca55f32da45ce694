-- The log of each replay is a log of the program, and how a replay ends is told by its log.
use Rattle.std.proofs.Common.{◌≡◌, ◌≢◌, ℕ, Bool, List, [], ◌∷◌, ◌++◌, length, length-set, Option, Some, None, refl, sym, ap, ◌∙◌, subst, arith, ⊎_elim, inl, inr}
use Rattle.std.specs.Prelude.{if◌then◌else◌, slice_get, slice_set, IsTrue, IsFalse}
use Rattle.std.specs.Option.{option_map}
use Rattle.std.proofs.lemmas.Bool.{cases_Bool, cases_eq, eqb-true, eq-eqb, ne_eqb}
use Rattle.std.proofs.lemmas.List.{length-map}
use Rattle.std.proofs.lemmas.Option.{slice_get-map, slice_get_within, same_Some, none-some}
use Rattle.velo_events.specs.declared.config.Config.{Config}
use Rattle.velo_events.specs.declared.event.Event.{Event}
use Rattle.velo_events.specs.declared.event.ThreadId.{ThreadId}
use Rattle.velo_events.specs.Event.{thread_of, is_by}
use Rattle.velo_events.specs.Graph.{HasCycle}
use Rattle.velo_events.specs.Meaning.{action_of, event_for}
use Rattle.velo_events.specs.WellFormed.{MayFollow, IsWellFormed}
use Rattle.velo_events.proofs.OnLists.{slice_get-set_same, slice_get-set_other}
use Rattle.velo_events.proofs.OnSerializing.{serializable_law-none}
use Rattle.velo_events.proofs.OnWellFormed.{IsWellFormed-nil, IsWellFormed-push}
use Rattle.velo_workload.specs.declared.statement.Statement.{Statement}
use Rattle.velo_workload.specs.Program.{Program}
use Rattle.velo_events.specs.Event.{value_read}
use Rattle.velo_world.specs.World.{WorldState}
use Rattle.velo_world.proofs.OnAnswers.{MayFollow-meaning, event-meaning, action_of-kind_for}
use Rattle.velo_worker.specs.declared.ending.Ending.{Ending}
use Rattle.velo_worker.specs.declared.ending.Ending.TheVariants.{Done, Stuck, Halted, Refused, Gated}
use Rattle.velo_worker.specs.declared.progress.Progress.{Progress}
use Rattle.velo_worker.specs.Progress.{is_quiet, register_after, settled_on, settled, start_of, wanted, after_event}
use Rattle.velo_worker.specs.Schedule.{ReplayState, Happens, IsIdle, Tries, TurnOf, TurnsOf, all_threads, RoundsOf, start, ReplaysTo, Replays}
use Rattle.velo_worker.proofs.OnProgress.{settled-loud}
use Rattle.velo_movers.specs.Programs.{own, IsNever}
use Rattle.velo_movers.specs.Wants.{Does}
use Rattle.velo_movers.proofs.OnHolders.{own-push_yes, own-push_no}
use Rattle.velo_movers.proofs.OnWants.{Does-push}
use Rattle.velo_explore.specs.Logs.{progress_after, tried_by, wants_of, IsLogOf, AlwaysSerializable}

-- ---- progress

settled-twice : (r : ℕ) (xs : List Statement) (d : Bool) → settled (settled_on r xs d) ≡ settled_on r xs d
unfolding settled_on
settled-twice r [] d = refl
settled-twice r (s ∷ xs) d = ⊎_elim
    (λ quiet. let here : settled_on r (s ∷ xs) d ≡ settled_on (register_after r s) xs d = ap (λ b. if b then settled_on (register_after r s) xs d else stays) quiet in
    ap settled here ∙ (settled-twice (register_after r s) xs d ∙ sym here))
    (λ loud. let here : settled_on r (s ∷ xs) d ≡ stays = ap (λ b. if b then settled_on (register_after r s) xs d else stays) loud in
    ap settled here ∙ (settled-loud stays s refl loud ∙ sym here))
    (cases_Bool (is_quiet s))
  where
    stays : Progress
    stays = record { register = r; left = s ∷ xs; done = d }

settled-done : (r : ℕ) (xs : List Statement) (d : Bool) → (settled_on r xs d).done ≡ d
unfolding settled_on
settled-done r [] d = refl
settled-done r (s ∷ xs) d = ⊎_elim
    (λ quiet. ap (λ b. (if b then settled_on (register_after r s) xs d else record { register = r; left = s ∷ xs; done = d }).done) quiet ∙ settled-done (register_after r s) xs d)
    (λ loud. ap (λ b. (if b then settled_on (register_after r s) xs d else record { register = r; left = s ∷ xs; done = d }).done) loud)
    (cases_Bool (is_quiet s))

progress_after-push : (p : Progress) (events : List Event) (e : Event) → progress_after p (events ++ e ∷ []) ≡ after_event (settled (progress_after p events)) (value_read e.kind)
unfolding progress_after
progress_after-push p [] e = refl
progress_after-push p (f ∷ events) e = progress_after-push (after_event (settled p) (value_read f.kind)) events e

-- ---- a replay goes along a log of the program

-- the thread has come as far as its own events say
pub record InStep (program : Program) (t : ℕ) (events : List Event) (p : Progress) : Type 0 where
  pub body : List Statement
  pub there : slice_get program.bodies t ≡ Some body
  pub same : settled p ≡ settled (progress_after (start_of body) events)
  pub done : p.done ≡ (progress_after (start_of body) events).done

pub record IsAlong (program : Program) (c : ReplayState) : Type 0 where
  pub bounds : c.world.config.bounds ≡ program.bounds
  pub is_log : IsLogOf program c.world.log
  pub count : length c.threads ≡ length program.bodies
  pub threads : (t : ℕ) (p : Progress) → slice_get c.threads t ≡ Some p → InStep program t (own t c.world.log) p

-- what the thread wants
pub wants-going : (program : Program) (t : ℕ) (events : List Event) (p : Progress) → InStep program t events p → IsFalse p.done → wants_of program t events ≡ Some (wanted (settled p))
wants-going program t events p w going =
    ap (λ o. tried_by o events) w.there
    ∙ (ap (λ b. if b then None else Some (wanted (settled (progress_after (start_of w.body) events)))) (sym w.done ∙ going)
    ∙ ap (λ q. Some (wanted q)) (sym w.same))

pub wants-done : (program : Program) (t : ℕ) (events : List Event) (p : Progress) → InStep program t events p → IsTrue p.done → wants_of program t events ≡ None
wants-done program t events p w done =
    ap (λ o. tried_by o events) w.there ∙ ap (λ b. if b then None else Some (wanted (settled (progress_after (start_of w.body) events)))) (sym w.done ∙ done)

-- a thread that is settled stays in step
InStep-settled : (program : Program) (t : ℕ) (events : List Event) (p : Progress) → InStep program t events p → InStep program t events (settled p)
InStep-settled program t events p w = record {
  body = w.body;
  there = w.there;
  same = settled-twice p.register p.left p.done ∙ w.same;
  done = settled-done p.register p.left p.done ∙ w.done;
}

-- so does one that has done its event
InStep-event : (program : Program) (t : ℕ) (events : List Event) (p : Progress) (e : Event) → InStep program t events p → InStep program t (events ++ e ∷ []) (after_event (settled p) (value_read e.kind))
InStep-event program t events p e w =
    let is : after_event (settled p) (value_read e.kind) ≡ progress_after (start_of w.body) (events ++ e ∷ []) = ap (λ q. after_event q (value_read e.kind)) w.same ∙ sym (progress_after-push (start_of w.body) events e) in
    record {
      body = w.body;
      there = w.there;
      same = ap settled is;
      done = ap (λ (q : Progress). q.done) is;
    }

module _ (program : Program) where
  -- the thread at one place changes
  threads-set : (threads : List Progress) (t : ℕ) (before after : Progress) (P : ℕ → Progress → Type 0) → slice_get threads t ≡ Some before → P t after → ((u : ℕ) (q : Progress) → u ≢ t → slice_get threads u ≡ Some q → P u q) → (u : ℕ) (q : Progress) → slice_get (slice_set threads t after) u ≡ Some q → P u q
  threads-set threads t before after P there now others u q h = ⊎_elim
      (λ same. subst (λ v. P v q) (sym same) (subst (P t) (same_Some after q (sym (slice_get-set_same threads t after (slice_get_within threads t before there)) ∙ subst (λ v. slice_get (slice_set threads t after) v ≡ Some q) same h)) now))
      (λ other. others u q other (sym (slice_get-set_other threads t u after (λ e. other (sym e))) ∙ h))
      (cases_eq u t)

  -- one event
  along-event : (c : ReplayState) (t : ThreadId) (p : Progress) (e : Event) (c' : ReplayState) → IsAlong program c → slice_get c.threads t.0 ≡ Some p → IsFalse p.done → Happens c.world t (wanted (settled p)) e c'.world → c'.threads ≡ slice_set c.threads t.0 (after_event (settled p) (value_read e.kind)) → IsAlong program c'
  along-event c t p e c' w there going h threads = record {
    bounds = ap (λ (f : Config). f.bounds) h.config ∙ w.bounds;
    is_log = subst (IsLogOf program) (sym h.log) (record {
      well = IsWellFormed-push program.bounds log e w.is_log.well follows;
      each = λ u. ⊎_elim
          (λ its.
          let is : t.0 ≡ u = sym of_thread ∙ eqb-true (thread_of e) u its in
          subst (Does (wants_of program) u) (sym (own-push_yes u log e its))
          (Does-push (wants_of program) u (own u log) e (w.is_log.each u) (eqb-true (thread_of e) u its) (subst (λ v. wants_of program v (own v log) ≡ Some (action_of e.kind)) is (wants-going program t.0 (own t.0 log) p step going ∙ ap Some (sym of_action)))))
          (λ not_its. subst (Does (wants_of program) u) (sym (own-push_no u log e not_its)) (w.is_log.each u))
          (cases_Bool (is_by u e));
    });
    count = ap length threads ∙ (length-set c.threads t.0 (after_event (settled p) (value_read e.kind)) ∙ w.count);
    threads = λ u q at. threads-set c.threads t.0 p (after_event (settled p) (value_read e.kind)) (λ v r. InStep program v (own v c'.world.log) r) there
        (subst (λ es. InStep program t.0 es (after_event (settled p) (value_read e.kind))) (sym (ap (own t.0) h.log ∙ own-push_yes t.0 log e (eq-eqb (thread_of e) t.0 of_thread))) (InStep-event program t.0 (own t.0 log) p e step))
        (λ v r other here. subst (λ es. InStep program v es r) (sym (ap (own v) h.log ∙ own-push_no v log e (ne_eqb (thread_of e) v (λ same. other (sym same ∙ of_thread))))) (w.threads v r here))
        u q (subst (λ xs. slice_get xs u ≡ Some q) threads at);
  }
    where
      log : List Event
      log = c.world.log

      step : InStep program t.0 (own t.0 log) p
      step = w.threads t.0 p there

      is_event : e ≡ event_for log t (wanted (settled p))
      is_event = event-meaning c.world t (wanted (settled p)) e h.due

      of_thread : thread_of e ≡ t.0
      of_thread = ap (λ (f : Event). thread_of f) is_event

      of_action : action_of e.kind ≡ wanted (settled p)
      of_action = ap (λ (f : Event). action_of f.kind) is_event ∙ action_of-kind_for log (wanted (settled p))

      follows : MayFollow program.bounds log e
      follows = subst (λ b. MayFollow b log e) w.bounds (MayFollow-meaning c.world t (wanted (settled p)) e (subst (λ b. IsWellFormed b log) (sym w.bounds) w.is_log.well) h.due)

  -- no event: the thread is settled
  along-settled : (c : ReplayState) (t : ThreadId) (p : Progress) (c' : ReplayState) → IsAlong program c → slice_get c.threads t.0 ≡ Some p → c'.world ≡ c.world → c'.threads ≡ slice_set c.threads t.0 (settled p) → IsAlong program c'
  along-settled c t p c' w there same threads = record {
    bounds = ap (λ (v : WorldState). v.config.bounds) same ∙ w.bounds;
    is_log = subst (λ (v : WorldState). IsLogOf program v.log) (sym same) w.is_log;
    count = ap length threads ∙ (length-set c.threads t.0 (settled p) ∙ w.count);
    threads = λ u q at. subst (λ (v : WorldState). InStep program u (own u v.log) q) (sym same)
        (threads-set c.threads t.0 p (settled p) (λ v r. InStep program v (own v c.world.log) r) there
        (InStep-settled program t.0 (own t.0 c.world.log) p (w.threads t.0 p there)) (λ v r other here. w.threads v r here)
        u q (subst (λ xs. slice_get xs u ≡ Some q) threads at));
  }

  pub going : (log : List Event) (t : ℕ) (p : Progress) → ¬ IsIdle log t (Some p) → IsFalse p.done
  going log t p busy = ⊎_elim (λ d. absurd (busy (inl d))) (λ g. g) (cases_Bool p.done)

  along-tries : (c : ReplayState) (t : ThreadId) (p : Progress) (stop : Option Ending) (c' : ReplayState) (q : Progress) → IsAlong program c → slice_get c.threads t.0 ≡ Some p → IsFalse p.done → Tries c.world t p stop c'.world q → c'.threads ≡ slice_set c.threads t.0 q → IsAlong program c'
  along-tries c t p None c' q w there alive (inl (e, did, is)) threads = along-event c t p e c' w there alive did (threads ∙ ap (slice_set c.threads t.0) is)
  along-tries c t p None c' q w there alive (inr (r, waits, due, same, is)) threads = along-settled c t p c' w there same (threads ∙ ap (slice_set c.threads t.0) is)
  along-tries c t p (Some Halted) c' q w there alive (due, same, is) threads = along-settled c t p c' w there same (threads ∙ ap (slice_set c.threads t.0) is)
  along-tries c t p (Some (Refused u r)) c' q w there alive (its, not_halted, ends, same, is) threads = along-settled c t p c' w there same (threads ∙ ap (slice_set c.threads t.0) is)
  along-tries c t p (Some Done) c' q w there alive never threads = absurd never
  along-tries c t p (Some Stuck) c' q w there alive never threads = absurd never
  along-tries c t p (Some Gated) c' q w there alive never threads = absurd never

  pub along-turn : (c : ReplayState) (t : ThreadId) (stop : Option Ending) (c' : ReplayState) → IsAlong program c → TurnOf c t stop c' → IsAlong program c'
  along-turn c t stop c' w (inl (idle, none, same)) = subst (IsAlong program) (sym same) w
  along-turn c t stop c' w (inr turn) = along-tries c t turn.before stop c' turn.after w turn.there (going c.world.log t.0 turn.before turn.not_idle) turn.tries turn.threads

  pub along-turns : (ts : List ThreadId) (c : ReplayState) (stop : Option Ending) (c' : ReplayState) → IsAlong program c → TurnsOf c ts stop c' → IsAlong program c'
  unfolding TurnsOf
  along-turns [] c stop c' w (none, same) = subst (IsAlong program) (sym same) w
  along-turns (t ∷ ts) c stop c' w (inl (ending, is, turn)) = along-turn c t stop c' w turn
  along-turns (t ∷ ts) c stop c' w (inr (mid, turn, rest)) = along-turns ts mid stop c' (along-turn c t None mid w turn) rest

  along-rounds : (c : ReplayState) (ending : Ending) (c' : ReplayState) → IsAlong program c → RoundsOf c ending c' → IsAlong program c'
  along-rounds _ _ _ w (RoundsOf.all_idle c idle) = w
  along-rounds _ _ _ w (RoundsOf.no_event c c' round same) = along-turns (all_threads c) c None c' w round.turns
  along-rounds _ _ _ w (RoundsOf.ended c c' ending round) = along-turns (all_threads c) c (Some ending) c' w round.turns
  along-rounds _ _ _ w (RoundsOf.goes_on c mid c' ending round more rest) = along-rounds mid ending c' (along-turns (all_threads c) c None mid w round.turns) rest

  mapped : (o : Option (List Statement)) (p : Progress) → option_map start_of o ≡ Some p → (body : List Statement) × (o ≡ Some body) × (start_of body ≡ p)
  mapped (Some body) p h = (body, refl, same_Some (start_of body) p h)
  mapped None p h = absurd (none-some p h)

  pub along-start : (config : Config) → config.bounds ≡ program.bounds → IsAlong program (start program config)
  unfolding progress_after
  along-start config is = record {
    bounds = is;
    is_log = record {
      well = IsWellFormed-nil program.bounds;
      each = λ t. record {
        by = λ i e h. absurd (let l = slice_get_within {A = Event} [] i e h in omega (arith, l));
        each = λ i e h. absurd (let l = slice_get_within {A = Event} [] i e h in omega (arith, l));
      };
    };
    count = length-map program.bodies start_of;
    threads = λ t p h.
        let w = mapped (slice_get program.bodies t) p (sym (slice_get-map start_of program.bodies t) ∙ h) in
        record { body = w.0; there = w.1; same = ap settled (sym w.2); done = ap (λ (q : Progress). q.done) (sym w.2) };
  }

  -- The log of each replay is a log of the program
  pub IsLogOf-replays : (schedule : List ThreadId) (config : Config) (ending : Ending) (closed : WorldState) → config.bounds ≡ program.bounds → Replays program schedule config ending closed → IsLogOf program closed.log
  IsLogOf-replays schedule config ending closed is r = subst (λ (v : WorldState). IsLogOf program v.log) (sym r.world) (along r.runs).is_log
    where
      along : ReplaysTo (start program config) schedule ending r.last → IsAlong program r.last
      along (inl turns) = along-turns schedule (start program config) (Some ending) r.last (along-start config is) turns
      along (inr (mid, turns, rounds)) = along-rounds mid ending r.last (along-turns schedule (start program config) None mid (along-start config is) turns) rounds
