-- What is shown was replayed.
use Rattle.std.proofs.Common.{◌≡◌, ◌↔◌, Bool, true, false, ℕ, ◌<◌, List, [], ◌∷◌, ◌++◌, append-nil, length, Option, Some, None, Result, Ok, Err, map, refl, sym, ap, subst, ◌∙◌, ⊎_elim, arith}
use Rattle.std.specs.Borrow.{Bor}
use Rattle.std.specs.Global.{Vec}
use Rattle.std.specs.Option.{option_map}
use Rattle.std.specs.Prelude.{◌≤◌, IfNone, IfOk, IfSome, IsTrue, IsFalse, is_some, not, if◌then◌else◌}
use Rattle.std.proofs.lemmas.Bool.{false≢true}
use Rattle.std.proofs.lemmas.Option.{none-some, same_Some}
use Rattle.velo_events.specs.declared.config.Config.{Config}
use Rattle.velo_events.specs.declared.event.Event.{Event}
use Rattle.velo_events.specs.declared.event.ThreadId.{ThreadId}
use Rattle.velo_events.specs.Graph.{HasCycle}
use Rattle.velo_events.proofs.OnGraphs.{HasCycle-from_closing}
use Rattle.velo_filter.specs.Left.{Omitted, rest_of}
use Rattle.velo_workload.specs.Program.{Program}
use Rattle.velo_world.specs.declared.analysis.Alarm.{Alarm as AlarmOf}
use Rattle.velo_world.specs.World.{WorldState, IsAlarm}
use Rattle.velo_worker.specs.declared.ending.Ending.{Ending}
use Rattle.velo_worker.specs.declared.ending.Ending.TheVariants as endings
use Rattle.velo_worker.specs.Schedule.{Replays}
use Rattle.velo_explore.specs.declared.finding.Finding.{Finding}
use Rattle.velo_explore.specs.declared.finding.Finding.TheVariants.{Shown, Never, Open}
use Rattle.velo_explore.specs.declared.finding.Findings.{Findings}
use Rattle.velo_explore.specs.declared.finding.Witness.{Witness}
use Rattle.velo_explore.specs.declared.goal.Goal.{Goal}
use Rattle.velo_explore.specs.declared.goal.Goal.TheVariants.{Alarm, Stuck, Refused}
use Rattle.velo_explore.specs.declared.outcome.RunOutcome.{RunOutcome}
use Rattle.velo_explore.specs.Goals.{KnowsAlarm, ReachedIn, ReachesIn, fault_of, finding_of, goal_in, lacks_memory}
use Rattle.velo_explore.specs.Logs.{ends_refused, is_for_room}
use Rattle.velo_explore.specs.Told.{AreAlarms, FollowsRun, IsMissed, HasOutcome, LacksFault, IfShown, turns_after}
use Rattle.velo_explore.specs.Bodies.{all_scripts}
use Rattle.velo_search.specs.declared.fault.Fault.TheVariants as faults
use Rattle.velo_search.specs.declared.fault.Fault.{Fault}
use Rattle.velo_search.specs.declared.fault.Fault.TheVariants.{Cycle, Refusing}
use Rattle.velo_search.specs.declared.schedules.Schedules.{Schedules}
use Rattle.velo_search.specs.Trail.{LeadToCycles, LeadsTo, alarms_of}
use Rattle.velo_explore.proofs.OnFollowed.{follows-cycle, follows-stuck, follows-refused}

-- an alarm is kept exactly where the log has a cycle
pub cycle_by : (closed : WorldState) (alarm : Option (Bor AlarmOf)) → IfNone alarm (¬ HasCycle closed.log) → IfSome alarm (λ a. IsAlarm closed.log a.now) → IsTrue (is_some alarm) ↔ HasCycle closed.log
cycle_by closed None none is = (λ some. absurd (false≢true some), λ cycle. absurd (none cycle))
cycle_by closed (Some alarm) none is = (λ some. HasCycle-from_closing closed.log alarm.now.position is.closing, λ cycle. refl)

-- and what it is is known
pub known_by : (log : List Event) (alarm : Option (Bor AlarmOf)) → IfNone alarm (¬ HasCycle log) → IfSome alarm (λ a. IsAlarm log a.now) → KnowsAlarm log
known_by log None none is = (None, none)
known_by log (Some alarm) none is = (Some alarm.now, is)

-- ---- the goals of a run

pub goal-reaches : (rest : List Event → List Event) (fault : Fault) (alarm : Bool) (ending : Ending) (closed : WorldState) (goal : Goal) → IsTrue alarm ↔ HasCycle (rest closed.log) → goal_in fault alarm ending ≡ Some goal
    → ReachesIn rest goal ending closed × (fault_of goal ≡ fault)
goal-reaches rest Cycle true ending closed goal is h = subst (λ (g : Goal). ReachesIn rest g ending closed × (fault_of g ≡ Cycle)) (same_Some Alarm goal h) (is.0 refl, refl)
goal-reaches rest Cycle false ending closed goal is h = absurd (none-some goal h)
goal-reaches rest faults.Stuck alarm endings.Stuck closed goal is h = subst (λ (g : Goal). ReachesIn rest g endings.Stuck closed × (fault_of g ≡ faults.Stuck)) (same_Some Stuck goal h) (refl, refl)
goal-reaches rest faults.Stuck alarm endings.Done closed goal is h = absurd (none-some goal h)
goal-reaches rest faults.Stuck alarm endings.Halted closed goal is h = absurd (none-some goal h)
goal-reaches rest faults.Stuck alarm (endings.Refused t r) closed goal is h = absurd (none-some goal h)
goal-reaches rest faults.Stuck alarm endings.Gated closed goal is h = absurd (none-some goal h)
goal-reaches rest Refusing alarm (endings.Refused t r) closed goal is h = by (is_for_room r) refl h
  where
    by : (room : Bool) → is_for_room r ≡ room → (if room then None else Some (Refused t r)) ≡ Some goal → ReachesIn rest goal (endings.Refused t r) closed × (fault_of goal ≡ Refusing)
    by true same h = absurd (none-some goal h)
    by false same h = subst (λ (g : Goal). ReachesIn rest g (endings.Refused t r) closed × (fault_of g ≡ Refusing)) (same_Some (Refused t r) goal h) ((refl, same), refl)
goal-reaches rest Refusing alarm endings.Done closed goal is h = absurd (none-some goal h)
goal-reaches rest Refusing alarm endings.Stuck closed goal is h = absurd (none-some goal h)
goal-reaches rest Refusing alarm endings.Halted closed goal is h = absurd (none-some goal h)
goal-reaches rest Refusing alarm endings.Gated closed goal is h = absurd (none-some goal h)

-- ---- a replay

-- what a replay comes to, by the world that it left
pub outcome-of : {E : Type 0} (rest : List Event → List Event) (program : Program) (config : Config) (schedule : List ThreadId) (closed : WorldState) (ending : Ending) → Replays program schedule config ending closed → lacks_memory ending ≡ false
    → (result : Result RunOutcome E) → IfOk result (λ outcome. IsTrue outcome.alarm ↔ HasCycle (rest closed.log)) → IfOk result (λ outcome. KnowsAlarm closed.log) → IfOk result (λ outcome. outcome.ending ≡ ending)
    → IfOk result (HasOutcome rest program config schedule)
outcome-of rest program config schedule closed ending replays memory (Ok outcome) alarm known ended = record {
  closed = closed;
  replays = subst (λ e. Replays program schedule config e closed) (sym ended) replays;
  memory = subst (λ e. lacks_memory e ≡ false) (sym ended) memory;
  known = known;
  cycle = alarm;
}
outcome-of rest program config schedule closed ending replays memory (Err e) alarm known ended = tt

module _ (rest : List Event → List Event) (program : Program) (config : Config) (turns : List ThreadId) (outcome : RunOutcome) (h : HasOutcome rest program config turns outcome) where
  pub shows-goal : (fault : Fault) (goal : Goal) (schedule : List ThreadId) → turns ≡ schedule → goal_in fault outcome.alarm outcome.ending ≡ Some goal → ReachedIn rest program config goal schedule × (fault_of goal ≡ fault)
  shows-goal fault goal schedule same is =
      let shown = goal-reaches rest fault outcome.alarm outcome.ending h.closed goal h.cycle is in (
        record {
          closed = h.closed;
          replay = record {
            ending = outcome.ending;
            replays = subst (λ (ts : List ThreadId). Replays program ts config outcome.ending h.closed) same h.replays;
            memory = h.memory;
            alarm = h.known;
            reaches = shown.0;
          };
        },
        shown.1,
      )

  pub lacks-goal : (fault : Fault) (schedule : List ThreadId) → turns ≡ schedule → goal_in fault outcome.alarm outcome.ending ≡ None → LacksFault rest program config fault schedule
  lacks-goal fault schedule same none = record { outcome = outcome; is_outcome = subst (λ (ts : List ThreadId). HasOutcome rest program config ts outcome) same h; none = none }

no_alarm : (alarm : Bool) (ending : Ending) → goal_in Cycle alarm ending ≡ None → alarm ≡ false
no_alarm false ending none = refl
no_alarm true ending none = absurd (none-some Alarm (sym none))

not_refused : (alarm : Bool) (ending : Ending) → goal_in Refusing alarm ending ≡ None → ends_refused ending ≡ false
not_refused alarm (endings.Refused t r) none = by (is_for_room r) none
  where
    by : (room : Bool) → (if room then None else Some (Refused t r)) ≡ None → not room ≡ false
    by true h = refl
    by false h = absurd (none-some (Refused t r) (sym h))
not_refused alarm endings.Done none = refl
not_refused alarm endings.Stuck none = refl
not_refused alarm endings.Halted none = refl
not_refused alarm endings.Gated none = refl

module _ (omitted : Omitted) (program : Program) (config : Config) (same : config.bounds ≡ program.bounds) (schedule : List ThreadId) where
  pub missed-alarm : LacksFault (rest_of omitted) program config Cycle schedule → LeadsTo program.bounds (all_scripts program) (rest_of omitted) Cycle schedule → IsMissed (rest_of omitted) program config Cycle
  missed-alarm w leads =
      let h = w.is_outcome in
      record {
        schedule = schedule;
        leads = leads;
        more = [];
        few = omega arith;
        lacks = record {
          outcome = w.outcome;
          is_outcome = record {
            closed = h.closed;
            replays = subst (λ ts. Replays program ts config w.outcome.ending h.closed) (sym (append-nil schedule)) h.replays;
            memory = h.memory;
            known = h.known;
            cycle = h.cycle;
          };
          none = w.none;
        };
        cut = ⊎_elim
            (λ cycle. absurd (false≢true (sym (no_alarm w.outcome.alarm w.outcome.ending w.none) ∙ h.cycle.1 cycle)))
            (λ cut. cut)
            (follows-cycle program leads.log leads.run config same omitted w.outcome.ending h.closed leads.bad (subst (λ ts. Replays program ts config w.outcome.ending h.closed) (sym leads.by) h.replays));
      }

module _ (rest : List Event → List Event) (program : Program) (config : Config) (same : config.bounds ≡ program.bounds) (schedule : List ThreadId) where
  pub missed-stuck : length program.bodies ≡ program.bounds.threads → LacksFault rest program config faults.Stuck schedule → LeadsTo program.bounds (all_scripts program) rest faults.Stuck schedule → IsMissed rest program config faults.Stuck
  missed-stuck count w leads =
      let h = w.is_outcome in
      record {
        schedule = schedule;
        leads = leads;
        more = [];
        few = omega arith;
        lacks = record {
          outcome = w.outcome;
          is_outcome = record {
            closed = h.closed;
            replays = subst (λ ts. Replays program ts config w.outcome.ending h.closed) (sym (append-nil schedule)) h.replays;
            memory = h.memory;
            known = h.known;
            cycle = h.cycle;
          };
          none = w.none;
        };
        cut = ⊎_elim
            (λ stuck. absurd (none-some Stuck (sym w.none ∙ ap (goal_in faults.Stuck w.outcome.alarm) stuck)))
            (λ cut. cut)
            (follows-stuck program leads.log leads.run config same count leads.bad w.outcome.ending h.closed (subst (λ ts. Replays program ts config w.outcome.ending h.closed) (sym leads.by) h.replays));
      }

  pub missed-refusal : ((t : ℕ) → t < program.bounds.threads → LacksFault rest program config Refusing (schedule ++ record { 0 = t } ∷ [])) → LeadsTo program.bounds (all_scripts program) rest Refusing schedule → IsMissed rest program config Refusing
  missed-refusal lacks leads =
      let t = leads.bad.some.0 in
      let w = lacks t leads.bad.some.1 in
      record {
        schedule = schedule;
        leads = leads;
        more = record { 0 = t } ∷ [];
        few = omega arith;
        lacks = w;
        cut = ⊎_elim
            (λ refused. absurd (false≢true (sym (not_refused w.outcome.alarm w.outcome.ending w.none) ∙ refused)))
            (λ cut. cut)
            (follows-refused program leads.log leads.run config same (record { 0 = t }) leads.bad.some.2 w.outcome.ending w.is_outcome.closed (subst (λ ts. Replays program (ts ++ record { 0 = t } ∷ []) config w.outcome.ending w.is_outcome.closed) (sym leads.by) w.is_outcome.replays));
      }

-- what follows where nothing was found
pub where_none : {X E : Type 0} (result : Result (Option X) E) {P Q : Type 0} → (P → Q) → IfOk result (λ found. IfNone found P) → IfOk result (λ found. IfNone found Q)
where_none (Ok None) step given = step given
where_none (Ok (Some x)) step given = tt
where_none (Err e) step given = tt

-- ---- of an option

pub at_is_none : {X P : Type 0} (found : Option X) → IsFalse (is_some found) → IfNone found P → P
at_is_none None is given = given
at_is_none (Some y) is given = absurd (false≢true (sym is))

pub IfSome-mapped : {X Y : Type 0} (f : X → Y) (P : Y → Type 0) (o : Option X) → IfSome (option_map f o) P → IfSome o (λ x. P (f x))
IfSome-mapped f P None h = tt
IfSome-mapped f P (Some x) h = h

pub of_mapped : {X Y : Type 0} (f : X → Y) (P : Type 0) (o : Option X) → IsTrue (is_some (option_map f o)) → IfSome o (λ x. P) → P
of_mapped f P None none h = absurd (false≢true none)
of_mapped f P (Some x) some h = h

-- ---- the run that is followed

-- by its turns, or by one turn more
pub follows-it : {E : Type 0} (rest : List Event → List Event) (program : Program) (fault : Fault) (run turns : List ThreadId) → LeadsTo program.bounds (all_scripts program) rest fault run → turns ≡ run → (result : Result (Option Witness) E)
    → IfOk result (λ found. IfSome found (λ w. w.schedule.items ≡ turns)) → IfOk result (λ found. IfSome found (FollowsRun rest program fault))
follows-it rest program fault run turns leads same (Ok (Some w)) is = record { run = run; leads = leads; more = []; turns = is ∙ (same ∙ sym (append-nil run)); few = omega arith }
follows-it rest program fault run turns leads same (Ok None) is = tt
follows-it rest program fault run turns leads same (Err e) is = tt

pub follows-one_more : {E : Type 0} (rest : List Event → List Event) (program : Program) (fault : Fault) → fault ≡ Refusing → (run turns : List ThreadId) → LeadsTo program.bounds (all_scripts program) rest fault run → turns ≡ run → (result : Result (Option Witness) E)
    → IfOk result (λ found. IfSome found (λ w. (t : ThreadId) × (w.schedule.items ≡ turns ++ t ∷ []))) → IfOk result (λ found. IfSome found (FollowsRun rest program fault))
follows-one_more rest program fault refusing run turns leads same (Ok (Some w)) (t, is) =
    record { run = run; leads = leads; more = t ∷ []; turns = is ∙ ap (λ (l : List ThreadId). l ++ t ∷ []) same; few = subst (λ (f : Fault). 1 ≤ turns_after f) (sym refusing) (omega arith) }
follows-one_more rest program fault refusing run turns leads same (Ok None) is = tt
follows-one_more rest program fault refusing run turns leads same (Err e) is = tt

pub found-one_more : (found : Option Witness) (schedule longer : List ThreadId) (t : ThreadId) → longer ≡ schedule ++ t ∷ [] → IfSome found (λ w. w.schedule.items ≡ longer)
    → IfSome found (λ w. (u : ThreadId) × (w.schedule.items ≡ schedule ++ u ∷ []))
found-one_more (Some w) schedule longer t same is = (t, is ∙ same)
found-one_more None schedule longer t same is = tt

-- ---- the schedules to alarms

IfShown-map : (finding : Finding) {P Q : Type 0} → (P → Q) → IfShown finding (λ w. P) → IfShown finding (λ w. Q)
IfShown-map Open f p = tt
IfShown-map Never f p = tt
IfShown-map (Shown witness) f p = f p

some-mapped : {X Y : Type 0} (f : X → Y) (o : Option X) → IsTrue (is_some o) → IsTrue (is_some (option_map f o))
some-mapped f None some = some
some-mapped f (Some x) some = refl

pub alarms-told : (omitted : Omitted) (program : Program) (config : Config) → config.bounds ≡ program.bounds → (first : Bool) (alarm : Finding) (shown : Schedules) →
    LeadToCycles program.bounds (all_scripts program) (rest_of omitted) first shown → IfShown alarm (λ w. IsTrue (is_some shown.alarm)) → AreAlarms (rest_of omitted) program config first alarm (alarms_of shown)
alarms-told omitted program config same first alarm shown cycles from = record {
  each = λ k d l.
      let leads = cycles.lead k d l in
      record {
        leads = leads;
        replayed = λ ending closed r. follows-cycle program leads.log leads.run config same omitted ending closed leads.bad (subst (λ ts. Replays program ts config ending closed) (sym leads.by) r);
      };
  few = cycles.few;
  none = cycles.none;
  some = λ all. IfShown-map alarm (λ there. cycles.some all (some-mapped (λ v. v.items) shown.alarm there)) from;
}

-- where nothing was tried
pub none-shown : (rest : List Event → List Event) (program : Program) (findings : Findings) → ((fault : Fault) → finding_of findings fault ≡ Open) → (fault : Fault) → IfShown (finding_of findings fault) (FollowsRun rest program fault)
none-shown rest program findings unknown fault = subst (λ (f : Finding). IfShown f (FollowsRun rest program fault)) (sym (unknown fault)) tt

pub no-alarms : (rest : List Event → List Event) (program : Program) (config : Config) (first : Bool) (alarm : Finding) (alarms : List (Vec ThreadId)) → alarm ≡ Open → alarms ≡ [] → AreAlarms rest program config first alarm (map (λ v. v.items) alarms)
no-alarms rest program config first alarm alarms unknown none =
    subst (λ (f : Finding). AreAlarms rest program config first f (map (λ v. v.items) alarms)) (sym unknown)
    (subst (λ (l : List (Vec ThreadId)). AreAlarms rest program config first Open (map (λ v. v.items) l)) (sym none)
    (record { each = λ k d l. absurd (omega (arith, l)); few = omega arith; none = λ only. refl; some = λ all. tt }))
