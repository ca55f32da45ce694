-- Ways stay where more events come behind them, and lead to one list of turns.
use Rattle.std.proofs.Common.{◌≡◌, ℕ, ◌+◌, ◌<◌, ◌≤◌, List, [], ◌∷◌, ◌++◌, take, append_assoc, append-nil, length, length-append, reverse, Option, Some, None, refl, sym, ap, ◌∙◌, subst, arith, ⊎_elim, inl, inr}
use Rattle.std.specs.Prelude.{◌⊎◌, nat_lt, not, ◌&&◌, ◌||◌, Bool, true, false, All, Contains, is_some, IfSome, IsTrue, slice_get}
use Rattle.std.proofs.lemmas.Bool.{and_parts, and_from, not-true, or_parts, cases_lt, cases_Bool, lt-ltb, false≢true}
use Rattle.std.proofs.lemmas.List.{map-append, reverse-append}
use Rattle.std.proofs.lemmas.List.Elements.{All-nil, All-push}
use Rattle.std.proofs.Math.Seq.{take-append_seam}
use Rattle.std.proofs.lemmas.Option.{same_Some, slice_get_within}
use Rattle.velo_events.proofs.OnTraces.{slice_get-append, slice_get-push}
use Rattle.velo_events.specs.declared.config.Bounds.{Bounds}
use Rattle.velo_events.specs.declared.event.Event.{Event}
use Rattle.velo_events.specs.declared.event.Kind.{Kind}
use Rattle.velo_events.specs.declared.event.ThreadId.{ThreadId}
use Rattle.velo_heap.specs.Contents.{bounds_of}
use Rattle.velo_search.specs.declared.schedules.TheConstants.{MAX_ALARMS}
use Rattle.velo_search.specs.declared.state.State.{State}
use Rattle.velo_search.specs.declared.step.Step.{Step}
use Rattle.velo_search.specs.Runs.{IsRunOf, IsNext}
use Rattle.velo_search.specs.States.{IsStateOf}
use Rattle.velo_search.specs.Steps.{IsWay, IsLonger, Notes}
use Rattle.velo_search.specs.declared.found.Found.{Found}
use Rattle.velo_search.specs.declared.trail.Trail.{Trail}
use Rattle.velo_search.specs.Faults.{Fault, Cycle, Stuck, Refusing, IsFault}
use Rattle.velo_search.specs.Told.{foremost, nothing, shown_of}
use Rattle.velo_search.specs.Search.{IsReached, has_fault}
use Rattle.velo_search.specs.Trail.{IsReachedBy, LeadsTo, turns_of, turns_for, alarms_of, AlarmsGoOn, IsNoted, NotesAlarm, GoesOn, SettlesBy, NotesTurns, AreShown}
use Rattle.velo_search.proofs.OnRuns.{IsRunOf-next, IsRunOf-nil}
use Rattle.velo_search.proofs.OnKept.{All-kept}
use Rattle.velo_search.proofs.OnFreeEvents.{settles_same, settles_next}

-- ---- ways

-- behind more events
pub way-longer : (steps more : List Step) (place : ℕ) (turns : List ThreadId) → IsWay steps place turns → IsWay (steps ++ more) place turns
way-longer _ more _ _ (IsWay.none steps place turns first empty) = IsWay.none (steps ++ more) place turns first empty
way-longer _ more _ _ (IsWay.more steps place i s earlier turns next here way is) =
    IsWay.more (steps ++ more) place i s earlier turns next (slice_get-append steps more i (slice_get_within steps i s here) ∙ here) (way-longer steps more s.before earlier way) is

-- a way leads to an event that is there
pub way-within : (steps : List Step) (place : ℕ) (turns : List ThreadId) → IsWay steps place turns → place ≤ length steps
way-within _ _ _ (IsWay.none steps place turns first empty) = omega (arith, first)
way-within _ _ _ (IsWay.more steps place i s earlier turns next here way is) = omega (arith, next, slice_get_within steps i s here)

-- there is one to a place
pub way-one : (steps : List Step) (place : ℕ) (one other : List ThreadId) → IsWay steps place one → IsWay steps place other → one ≡ other
way-one _ _ _ other (IsWay.none steps place one first empty) w = empty ∙ sym (nothing steps place other first w)
  where
    nothing : (steps : List Step) (place : ℕ) (other : List ThreadId) → place ≡ 0 → IsWay steps place other → other ≡ []
    nothing _ _ _ first (IsWay.none steps place other zeroth empty) = empty
    nothing _ _ _ first (IsWay.more steps place i s earlier other next here way is) = absurd (omega (arith, first, next))
way-one _ _ _ other (IsWay.more steps place i s earlier one next here way is) w = is ∙ sym (ends steps place other w next here (λ rest v. way-one steps s.before earlier rest way v))
  where
    ends : (steps : List Step) (place : ℕ) (other : List ThreadId) → IsWay steps place other → place ≡ i + 1 → slice_get steps i ≡ Some s → ((rest : List ThreadId) → IsWay steps s.before rest → earlier ≡ rest) → other ≡ earlier ++ s.thread ∷ []
    ends _ _ _ (IsWay.none steps place other first empty) next here same = absurd (omega (arith, first, next))
    ends _ _ _ (IsWay.more steps place j r rest other after there v is) next here same =
        let index : j ≡ i = omega (arith, next, after) in
        let step : r ≡ s = same_Some r s (sym there ∙ (ap (slice_get steps) index ∙ here)) in
        is ∙ (ap (λ (q : Step). rest ++ q.thread ∷ []) step ∙ ap (λ ts. ts ++ s.thread ∷ []) (sym (same rest (subst (λ (q : Step). IsWay steps q.before rest) step v))))

-- one event more
pub way-push : (steps : List Step) (place : ℕ) (turns : List ThreadId) (t : ThreadId) → IsWay steps place turns → IsWay (steps ++ record { before = place; thread = t } ∷ []) (length steps + 1) (turns ++ t ∷ [])
way-push steps place turns t way =
    IsWay.more (steps ++ record { before = place; thread = t } ∷ []) (length steps + 1) (length steps) (record { before = place; thread = t }) turns (turns ++ t ∷ []) refl
    (slice_get-push steps (record { before = place; thread = t })) (way-longer steps (record { before = place; thread = t } ∷ []) place turns way) refl

-- one event before
pub way-back : (steps : List Step) (place from i : ℕ) (s : Step) (turns pushed : List ThreadId) → from ≡ i + 1 → slice_get steps i ≡ Some s →
    ((rest : List ThreadId) → IsWay steps from rest → IsWay steps place (rest ++ reverse turns)) → pushed ≡ turns ++ s.thread ∷ [] → (rest : List ThreadId) → IsWay steps s.before rest → IsWay steps place (rest ++ reverse pushed)
way-back steps place from i s turns pushed next here way is rest before =
    subst (IsWay steps place)
    (append_assoc rest (s.thread ∷ []) (reverse turns) ∙ ap (λ ts. rest ++ ts) (sym (ap reverse is ∙ reverse-append turns (s.thread ∷ []))))
    (way (rest ++ s.thread ∷ []) (IsWay.more steps from i s rest (rest ++ s.thread ∷ []) next here before refl))

-- ---- longer lists

pub longer-same : (steps now : List Step) → now ≡ steps → IsLonger steps now
longer-same steps now is = record { more = []; is = is ∙ sym (append-nil steps) }

pub longer-next : (first second third : List Step) → IsLonger first second → IsLonger second third → IsLonger first third
longer-next first second third one other = record {
  more = one.more ++ other.more;
  is = other.is ∙ (ap (λ xs. xs ++ other.more) one.is ∙ append_assoc first one.more other.more);
}

-- ---- states

module _ (bounds : Bounds) (scripts : List (List Kind)) (rest : List Event → List Event) where
  pub reached-longer : (old now : List Step) (state : State) → IsLonger old now → IsReachedBy bounds scripts rest old state → IsReachedBy bounds scripts rest now state
  reached-longer old now state longer r = record {
    log = r.log;
    run = r.run;
    stands = r.stands;
    same = r.same;
    way = subst (λ xs. IsWay xs state.place (turns_of r.log)) (sym longer.is) (way-longer old longer.more state.place (turns_of r.log) r.way);
  }

  pub reached-plain : (steps : List Step) (state : State) → IsReachedBy bounds scripts rest steps state → IsReached bounds scripts rest state
  reached-plain steps state r = record { log = r.log; run = r.run; stands = r.stands; same = r.same }

  pub reached-within : (steps : List Step) (state : State) → IsReachedBy bounds scripts rest steps state → state.place ≤ length steps
  reached-within steps state r = way-within steps state.place (turns_of r.log) r.way

  -- the state after a next event
  pub reached-next : (old now : List Step) (before after : State) (e : Event) (r : IsReachedBy bounds scripts rest old before) → IsNext bounds scripts r.log e → IsStateOf rest (r.log ++ e ∷ []) after → bounds_of after.heap ≡ bounds →
      now ≡ old ++ record { before = before.place; thread = e.thread } ∷ [] → after.place ≡ length old + 1 → IsReachedBy bounds scripts rest now after
  reached-next old now before after e r next stands same steps place = record {
    log = r.log ++ e ∷ [];
    run = IsRunOf-next bounds scripts r.log e r.run next;
    stands = stands;
    same = same;
    way = subst (λ xs. IsWay xs after.place (turns_of (r.log ++ e ∷ []))) (sym steps)
        (subst (λ n. IsWay (old ++ record { before = before.place; thread = e.thread } ∷ []) n (turns_of (r.log ++ e ∷ []))) (sym place)
        (subst (IsWay (old ++ record { before = before.place; thread = e.thread } ∷ []) (length old + 1)) (sym (map-append (λ (f : Event). f.thread) r.log (e ∷ [])))
        (way-push old before.place (turns_of r.log) e.thread r.way)));
  }

  -- from the same state once more
  pub reached-behind : (old now : List Step) (before copy after : State) (e : Event) (r : IsReachedBy bounds scripts rest old before) → copy.place ≡ before.place → IsNext bounds scripts r.log e → IsStateOf rest (r.log ++ e ∷ []) after → bounds_of after.heap ≡ bounds →
      now ≡ old ++ record { before = copy.place; thread = e.thread } ∷ [] → after.place ≡ length old + 1 → IsReachedBy bounds scripts rest now after
  reached-behind old now before copy after e r from next stands same steps place =
      reached-next old now before after e r next stands same (steps ∙ ap (λ (n : ℕ). old ++ record { before = n; thread = e.thread } ∷ []) from) place

  -- the same state once more
  pub reached-same : (steps : List Step) (before after : State) → IsReachedBy bounds scripts rest steps before → ((log : List Event) → IsStateOf rest log before → IsStateOf rest log after) → bounds_of after.heap ≡ bounds → after.place ≡ before.place → IsReachedBy bounds scripts rest steps after
  reached-same steps before after r stands same place = record {
    log = r.log;
    run = r.run;
    stands = stands r.log r.stands;
    same = same;
    way = subst (λ n. IsWay steps n (turns_of r.log)) (sym place) r.way;
  }

  -- before any event
  pub reached-start : (steps : List Step) (state : State) → bounds_of state.heap ≡ bounds → IsStateOf rest [] state → state.place ≡ 0 → IsReachedBy bounds scripts rest steps state
  reached-start steps state same stands place = record {
    log = [];
    run = IsRunOf-nil bounds scripts;
    stands = stands;
    same = same;
    way = IsWay.none steps state.place [] place refl;
  }

  pub all-longer : (old now : List Step) (states : List State) → IsLonger old now → All (IsReachedBy bounds scripts rest old) states → All (IsReachedBy bounds scripts rest now) states
  all-longer old now states longer all = λ k d l. reached-longer old now _ longer (all k d l)

-- ---- what is shown of what was found

-- one alone is one of them
foremost-found : (found : Found) (fault : Fault) → has_fault (foremost found) fault ≡ true → has_fault found fault ≡ true
foremost-found found Cycle h = h
foremost-found found Stuck h = (and_parts found.stuck (not found.alarm) h).0
foremost-found found Refusing h = (and_parts found.refused (not (found.alarm || found.stuck)) h).0

-- what is shown was found
pub shown-found : (first : Bool) (found : Found) (fault : Fault) → has_fault (shown_of first found) fault ≡ true → has_fault found fault ≡ true
shown-found true found fault h = foremost-found found fault h
shown-found false found fault h = h

-- without `first` all that was found is
pub shown-all : (first : Bool) (found : Found) (fault : Fault) → first ≡ false → has_fault found fault ≡ true → has_fault (shown_of first found) fault ≡ true
shown-all true found fault all h = absurd (false≢true (sym all))
shown-all false found fault all h = h

-- what is shown now, and was found before, was shown before
pub shown-before : (first : Bool) (before after : Found) → ((fault : Fault) → has_fault after fault ≡ false → has_fault before fault ≡ false) →
    (fault : Fault) → has_fault (shown_of first after) fault ≡ true → has_fault before fault ≡ true → has_fault (shown_of first before) fault ≡ true
shown-before false before after more fault shown was = was
shown-before true before after more Cycle shown was = was
shown-before true before after more Stuck shown was =
    let none = not-true after.alarm (and_parts after.stuck (not after.alarm) shown).1 in
    and_from before.stuck (not before.alarm) was (ap not (more Cycle none))
shown-before true before after more Refusing shown was =
    let none = or_parts after.alarm after.stuck (not-true (after.alarm || after.stuck) (and_parts after.refused (not (after.alarm || after.stuck)) shown).1) in
    and_from before.refused (not (before.alarm || before.stuck)) was (ap not (ap (λ b. b || before.stuck) (more Cycle none.0) ∙ more Stuck none.1))

-- ---- what is noted

pub notes-steps : (one other : List Step) → one ≡ other → (place : ℕ) (before after : Bool) (was now : Option (List ThreadId)) → Notes one place before after was now → Notes other place before after was now
notes-steps one other same place before after was now notes = subst (λ xs. Notes xs place before after was now) same notes

pub notes-by : (old : Trail) (place : ℕ) (before given after : Found) (now : Trail) → now.steps.items ≡ old.steps.items → now.first ≡ old.first → alarms_of now.shown ≡ alarms_of old.shown →
    after ≡ shown_of old.first given →
    Notes old.steps.items place before.alarm after.alarm (turns_for old.shown Cycle) (turns_for now.shown Cycle) →
    Notes old.steps.items place before.stuck after.stuck (turns_for old.shown Stuck) (turns_for now.shown Stuck) →
    Notes old.steps.items place before.refused after.refused (turns_for old.shown Refusing) (turns_for now.shown Refusing) → NotesTurns old place before given now
notes-by old place before given after now steps first alarms shown alarm stuck refused = record {
  steps = steps;
  first = first;
  alarms = alarms;
  turns = λ fault. ⊎_elim
      (λ fresh.
      let both = and_parts (has_fault after fault) (not (has_fault before fault)) fresh in
      inr (not-true (has_fault before fault) both.1, shown-found old.first given fault (subst (λ (f : Found). has_fault f fault ≡ true) shown both.0), subst (λ xs. IfSome (turns_for now.shown fault) (IsWay xs place)) (sym steps) ((noted fault).way fresh)))
      (λ stale. inl ((noted fault).same stale))
      (cases_Bool (has_fault after fault && not (has_fault before fault)));
  each = λ fault none some. (noted fault).some (and_from (has_fault after fault) (not (has_fault before fault)) (subst (λ (f : Found). has_fault f fault ≡ true) (sym shown) some) (ap not none));
}
  where
    noted : (fault : Fault) → Notes old.steps.items place (has_fault before fault) (has_fault after fault) (turns_for old.shown fault) (turns_for now.shown fault)
    noted Cycle = alarm
    noted Stuck = stuck
    noted Refusing = refused

-- ---- trails that go on

pub alarms-same : (bounds : Bounds) (scripts : List (List Kind)) (rest : List Event → List Event) (old now : Trail) → alarms_of now.shown ≡ alarms_of old.shown → AlarmsGoOn bounds scripts rest old now
alarms-same bounds scripts rest old now same = record {
  lead = λ all. subst (All (LeadsTo bounds scripts rest Cycle)) (sym same) all;
  more = omega (arith, ap length same);
  few = λ l. subst (λ xs. length xs ≤ MAX_ALARMS) (sym same) l;
  none = λ first. same;
}

pub alarms-next : (bounds : Bounds) (scripts : List (List Kind)) (rest : List Event → List Event) (one two three : Trail) → two.first ≡ one.first → AlarmsGoOn bounds scripts rest one two → AlarmsGoOn bounds scripts rest two three → AlarmsGoOn bounds scripts rest one three
alarms-next bounds scripts rest one two three same here there = record {
  lead = λ all. there.lead (here.lead all);
  more = omega (arith, here.more, there.more);
  few = λ l. there.few (here.few l);
  none = λ first. there.none (same ∙ first) ∙ here.none first;
}

-- one more is noted, to a state with a cycle
pub alarms-note : (bounds : Bounds) (scripts : List (List Kind)) (rest : List Event → List Event) (old now : Trail) (state : State) → IsReachedBy bounds scripts rest old.steps.items state → state.marks.alarmed ≡ true → NotesAlarm old state.place now → AlarmsGoOn bounds scripts rest old now
alarms-note bounds scripts rest old now state r alarmed notes = record {
  lead = λ all. lead all notes.alarms;
  more = more notes.alarms;
  few = notes.few;
  none = notes.none;
}
  where
    lead : All (LeadsTo bounds scripts rest Cycle) (alarms_of old.shown) → (alarms_of now.shown ≡ alarms_of old.shown) ⊎ ((turns : List ThreadId) × (alarms_of now.shown ≡ alarms_of old.shown ++ turns ∷ []) × IsWay old.steps.items state.place turns) → All (LeadsTo bounds scripts rest Cycle) (alarms_of now.shown)
    lead all (inl same) = subst (All (LeadsTo bounds scripts rest Cycle)) (sym same) all
    lead all (inr (turns, is, way)) = subst (All (LeadsTo bounds scripts rest Cycle)) (sym is) (All-push (LeadsTo bounds scripts rest Cycle) (alarms_of old.shown) turns all (record {
      log = r.log;
      run = r.run;
      by = way-one old.steps.items state.place (turns_of r.log) turns r.way way;
      bad = r.stands.graph.alarmed.0 alarmed;
    }))

    more : (alarms_of now.shown ≡ alarms_of old.shown) ⊎ ((turns : List ThreadId) × (alarms_of now.shown ≡ alarms_of old.shown ++ turns ∷ []) × IsWay old.steps.items state.place turns) → length (alarms_of old.shown) ≤ length (alarms_of now.shown)
    more (inl same) = omega (arith, ap length same)
    more (inr (turns, is, way)) = omega (arith, ap length is, length-append (alarms_of old.shown) (turns ∷ []))

-- nothing is noted where the state has no cycle, or one was noted before
pub noted-unless : (trail : Trail) (state : State) (alarmed is : Bool) → is ≡ state.marks.alarmed → (is && not alarmed) ≡ false → (alarmed ≡ true → IsNoted trail state) → IsNoted trail state
noted-unless trail state true is same none was = was refl
noted-unless trail state false true same none was = absurd (false≢true (sym none))
noted-unless trail state false false same none was = record { some = λ first alarmed. absurd (false≢true (same ∙ alarmed)) }

-- no more are wanted where there are as many as may be
pub kept-many : (first : Bool) (n most : ℕ) → (not first && nat_lt n most) ≡ false → first ≡ false → most ≤ n
kept-many true n most none all = absurd (false≢true (sym all))
kept-many false n most none all = ⊎_elim (λ few. absurd (false≢true (sym none ∙ lt-ltb n most few))) (λ many. many) (cases_lt n most)

pub wants-none : (first : Bool) → not first ≡ true → first ≡ true → ⊥
wants-none true wants only = false≢true wants
wants-none false wants only = false≢true only

-- what is noted stays so
pub noted-on : (old now : Trail) (state : State) → now.first ≡ old.first → length (alarms_of old.shown) ≤ length (alarms_of now.shown) → IsNoted old state → IsNoted now state
noted-on old now state same more noted = record { some = λ first alarmed. let some = noted.some (sym same ∙ first) alarmed in omega (arith, some, more) }

pub all-noted_on : (old now : Trail) (states : List State) → now.first ≡ old.first → length (alarms_of old.shown) ≤ length (alarms_of now.shown) → All (IsNoted old) states → All (IsNoted now) states
all-noted_on old now states same more all = λ k d l. noted-on old now _ same more (all k d l)

pub goes-same : (old now : Trail) → now ≡ old → GoesOn old now
goes-same old now is = subst (GoesOn old) (sym is) (record { longer = longer-same old.steps.items old.steps.items refl; shown = λ fault. refl; first = refl })

pub goes-next : (first second third : Trail) → GoesOn first second → GoesOn second third → GoesOn first third
goes-next first second third one other = record {
  longer = longer-next first.steps.items second.steps.items third.steps.items one.longer other.longer;
  shown = λ fault. other.shown fault ∙ one.shown fault;
  first = other.first ∙ one.first;
}

-- and what is cut off was not there before
pub goes-cut : (first second third : Trail) → GoesOn first second → third.steps.items ≡ first.steps.items → third.shown ≡ second.shown → third.first ≡ second.first → GoesOn first third
goes-cut first second third one steps shown is = record {
  longer = longer-same first.steps.items third.steps.items steps;
  shown = λ fault. ap (λ x. turns_for x fault) shown ∙ one.shown fault;
  first = is ∙ one.first;
}

module _ (bounds : Bounds) (scripts : List (List Kind)) (rest : List Event → List Event) where
  pub settles_by-same : (trail : Trail) (state : State) → IsReachedBy bounds scripts rest trail.steps.items state → SettlesBy bounds scripts rest trail state trail state
  settles_by-same trail state r = record { settles = settles_same bounds scripts rest state; reached = r; goes_on = goes-same trail trail refl; alarms = refl }

  pub settles_by-next : (one two three : Trail) (first second third : State) → SettlesBy bounds scripts rest one first two second → SettlesBy bounds scripts rest two second three third → SettlesBy bounds scripts rest one first three third
  settles_by-next one two three first second third p q = record {
    settles = settles_next bounds scripts rest first second third p.settles q.settles;
    reached = q.reached;
    goes_on = goes-next one two three p.goes_on q.goes_on;
    alarms = q.alarms ∙ p.alarms;
  }

  -- ---- what is shown

  -- the turns to a state at which a fault was found first
  pub shown-note : (first : Bool) (before after : Found) (old now : Trail) (state : State) → IsReachedBy bounds scripts rest old.steps.items state → AreShown bounds scripts rest first before old →
      ((fault : Fault) → has_fault after fault ≡ false → has_fault before fault ≡ false) →
      ((fault : Fault) → has_fault before fault ≡ false → has_fault after fault ≡ true → (log : List Event) → IsRunOf bounds scripts log → IsStateOf rest log state → IsFault bounds scripts rest fault log) →
      (old.first ≡ false → before.alarm ≡ false → after.alarm ≡ true → 0 < length (alarms_of old.shown)) →
      NotesTurns old state.place before after now → AreShown bounds scripts rest first after now
  shown-note first before after old now state r shown more bad alarm notes = record {
    same = notes.first ∙ shown.same;
    leads = λ fault. leads fault (notes.turns fault);
    each = λ fault found. ⊎_elim
        (λ was. kept fault (shown.each fault (shown-before first before after more fault found was)) (notes.turns fault) was)
        (λ not_before. notes.each fault not_before (subst (λ b. has_fault (shown_of b after) fault ≡ true) (sym shown.same) found))
        (cases_Bool (has_fault before fault));
    alarms = record {
      lead = subst (All (LeadsTo bounds scripts rest Cycle)) (sym notes.alarms) shown.alarms.lead;
      few = subst (λ xs. length xs ≤ MAX_ALARMS) (sym notes.alarms) shown.alarms.few;
      none = λ all. notes.alarms ∙ shown.alarms.none all;
      some = λ all there. subst (λ xs. 0 < length xs) (sym notes.alarms) (at_least_one all there (notes.turns Cycle));
    };
  }
    where
      to : (fault : Fault) → has_fault before fault ≡ false → has_fault after fault ≡ true → (o : Option (List ThreadId)) → IfSome o (IsWay now.steps.items state.place) → IfSome o (LeadsTo bounds scripts rest fault)
      to fault none some None way = tt
      to fault none some (Some turns) way = record {
        log = r.log;
        run = r.run;
        by = way-one old.steps.items state.place (turns_of r.log) turns r.way (subst (λ xs. IsWay xs state.place turns) notes.steps way);
        bad = bad fault none some r.log r.run r.stands;
      }

      leads : (fault : Fault) → (turns_for now.shown fault ≡ turns_for old.shown fault) ⊎ ((has_fault before fault ≡ false) × (has_fault after fault ≡ true) × IfSome (turns_for now.shown fault) (IsWay now.steps.items state.place)) → IfSome (turns_for now.shown fault) (LeadsTo bounds scripts rest fault)
      leads fault (inl same) = subst (λ o. IfSome o (LeadsTo bounds scripts rest fault)) (sym same) (shown.leads fault)
      leads fault (inr (none, some, way)) = to fault none some (turns_for now.shown fault) way

      at_least_one : first ≡ false → IsTrue (is_some (turns_for now.shown Cycle)) → (turns_for now.shown Cycle ≡ turns_for old.shown Cycle) ⊎ ((before.alarm ≡ false) × (after.alarm ≡ true) × IfSome (turns_for now.shown Cycle) (IsWay now.steps.items state.place)) → 0 < length (alarms_of old.shown)
      at_least_one all there (inl same) = shown.alarms.some all (ap is_some (sym same) ∙ there)
      at_least_one all there (inr (none, some, way)) = alarm (shown.same ∙ all) none some

      kept : (fault : Fault) → IsTrue (is_some (turns_for old.shown fault)) → (turns_for now.shown fault ≡ turns_for old.shown fault) ⊎ ((has_fault before fault ≡ false) × (has_fault after fault ≡ true) × IfSome (turns_for now.shown fault) (IsWay now.steps.items state.place)) → has_fault before fault ≡ true → IsTrue (is_some (turns_for now.shown fault))
      kept fault some (inl same) was = ap is_some same ∙ some
      kept fault some (inr (none, found, way)) was = absurd (false≢true (sym none ∙ was))

  -- nothing is, at the start
  pub shown-nothing : (first : Bool) (found : Found) (trail : Trail) → found ≡ nothing → trail.first ≡ first → ((fault : Fault) → turns_for trail.shown fault ≡ None) → alarms_of trail.shown ≡ [] → AreShown bounds scripts rest first found trail
  shown-nothing first found trail is same none empty = record {
    same = same;
    leads = λ fault. subst (λ o. IfSome o (LeadsTo bounds scripts rest fault)) (sym (none fault)) tt;
    each = λ fault h. absurd (nowhere fault (subst (λ (f : Found). has_fault f fault ≡ true) is (shown-found first found fault h)));
    alarms = record {
      lead = subst (All (LeadsTo bounds scripts rest Cycle)) (sym empty) (All-nil (LeadsTo bounds scripts rest Cycle));
      few = omega (arith, ap length empty);
      none = λ all. empty;
      some = λ all there. absurd (false≢true (sym (ap is_some (none Cycle)) ∙ there));
    };
  }
    where
      nowhere : (fault : Fault) → has_fault nothing fault ≡ true → ⊥
      nowhere Cycle h = false≢true h
      nowhere Stuck h = false≢true h
      nowhere Refusing h = false≢true h

  -- it stays shown where the trail goes on
  pub shown-goes_on : (first : Bool) (found : Found) (old now : Trail) → GoesOn old now → AlarmsGoOn bounds scripts rest old now → AreShown bounds scripts rest first found old → AreShown bounds scripts rest first found now
  shown-goes_on first found old now on alarms shown = record {
    same = on.first ∙ shown.same;
    leads = λ fault. subst (λ o. IfSome o (LeadsTo bounds scripts rest fault)) (sym (on.shown fault)) (shown.leads fault);
    each = λ fault h. ap is_some (on.shown fault) ∙ shown.each fault h;
    alarms = record {
      lead = alarms.lead shown.alarms.lead;
      few = alarms.few shown.alarms.few;
      none = λ all. alarms.none (shown.same ∙ all) ∙ shown.alarms.none all;
      some = λ all there. let some = shown.alarms.some all (ap is_some (sym (on.shown Cycle)) ∙ there) in omega (arith, some, alarms.more);
    };
  }

-- ---- a state that is kept, or is there

module _ (old mid now : Trail) (count : ℕ) (all : count ≡ length old.steps.items) (on : GoesOn old mid) where
  cut_back : take count mid.steps.items ≡ old.steps.items
  cut_back = ap (λ n. take n mid.steps.items) all ∙ (ap (take (length old.steps.items)) on.longer.is ∙ take-append_seam old.steps.items on.longer.more)

  pub goes-kept : (states kept : List State) → (now.steps.items ≡ mid.steps.items) ⊎ ((kept ≡ states) × (now.steps.items ≡ take count mid.steps.items)) → now.shown ≡ mid.shown → now.first ≡ mid.first → GoesOn old now
  goes-kept states kept (inl same) shown first = goes-next old mid now on (record { longer = longer-same mid.steps.items now.steps.items same; shown = λ fault. ap (λ x. turns_for x fault) shown; first = first })
  goes-kept states kept (inr (none, steps)) shown first = goes-cut old mid now on (steps ∙ cut_back) shown first

  pub kept-reached : (bounds : Bounds) (scripts : List (List Kind)) (rest : List Event → List Event) (states kept : List State) (state : State) → ((s : State) → Contains kept s → Contains states s ⊎ (state ≡ s)) → IsReachedBy bounds scripts rest mid.steps.items state →
      (now.steps.items ≡ mid.steps.items) ⊎ ((kept ≡ states) × (now.steps.items ≡ take count mid.steps.items)) → All (IsReachedBy bounds scripts rest old.steps.items) states → All (IsReachedBy bounds scripts rest now.steps.items) kept
  kept-reached bounds scripts rest states kept state members here (inl same) all_old =
      subst (λ xs. All (IsReachedBy bounds scripts rest xs) kept) (sym same)
      (All-kept (IsReachedBy bounds scripts rest mid.steps.items) states kept state members (all-longer bounds scripts rest old.steps.items mid.steps.items states on.longer all_old) here)
  kept-reached bounds scripts rest states kept state members here (inr (none, steps)) all_old =
      subst (λ xs. All (IsReachedBy bounds scripts rest xs) kept) (sym (steps ∙ cut_back)) (subst (All (IsReachedBy bounds scripts rest old.steps.items)) (sym none) all_old)
