-- What a state tells once all its threads were looked at.
use Rattle.std.proofs.Common.{◌≡◌, ℕ, ◌+◌, ◌*◌, ◌<◌, ◌≤◌, Bool, true, false, not, ◌&&◌, ◌||◌, List, [], refl, sym, ◌∙◌, subst, arith, ⊎_elim, inl, inr}
use Rattle.std.specs.Prelude.{All, IsTrue, IsFalse}
use Rattle.std.proofs.lemmas.Bool.{and_parts, and_cases, or_parts, or_cases, not-true, not-false, false≢true}
use Rattle.velo_events.specs.declared.config.Bounds.{Bounds}
use Rattle.velo_events.specs.declared.event.Event.{Event}
use Rattle.velo_events.specs.declared.event.Kind.{Kind}
use Rattle.velo_events.specs.Event.{thread_of}
use Rattle.velo_events.specs.Graph.{HasCycle}
use Rattle.velo_heap.specs.Contents.{bounds_of}
use Rattle.velo_search.specs.declared.found.Found.{Found}
use Rattle.velo_search.specs.declared.seen.ThreadsSeen.{ThreadsSeen}
use Rattle.velo_search.specs.declared.state.State.{State}
use Rattle.velo_search.specs.Faults.{IsRefused, Fault, Cycle, Stuck, Refusing, IsFault, IsStuck}
use Rattle.velo_search.specs.Runs.{IsRunOf, IsNext, NeverWithin}
use Rattle.velo_search.specs.States.{IsStateOf}
use Rattle.velo_search.specs.Told.{nothing, is_told, found_after, has_ended}
use Rattle.velo_search.specs.Search.{IsReached, IsClean, IsSearchCut, IsSeen, IsTried, IsTrueOf, has_fault, ways}
use Rattle.velo_search.proofs.OnFaults.{refused-not_waiting, refused-not_idle, next-not_turned, next-not_idle}
use Rattle.velo_search.proofs.OnRuns.{IsRunOf-nil, rule_of_all}

-- ---- of one log

module _ (bounds : Bounds) (scripts : List (List Kind)) (rest : List Event → List Event) (log : List Event) (run : IsRunOf bounds scripts log) (seen : ThreadsSeen) (w : IsSeen bounds scripts log seen bounds.threads) where
  -- 84. stuck, as it was seen
  stuck-told : IsTrue (seen.waits && not (seen.acts || seen.refused)) → IsStuck bounds scripts log
  stuck-told h =
      let parts = and_parts seen.waits (not (seen.acts || seen.refused)) h in
      let none = or_parts seen.acts seen.refused (not-true (seen.acts || seen.refused) parts.1) in
      record { each = w.others none.0 none.1; some = w.waits parts.0 }

  -- 85. not stuck
  stuck-not_told : IsFalse (seen.waits && not (seen.acts || seen.refused)) → ¬ IsStuck bounds scripts log
  stuck-not_told h stuck = ⊎_elim
      (λ none. w.none_waits none stuck.some.0 stuck.some.1 stuck.some.2)
      (λ some. ⊎_elim
      (λ acts. goes_on (w.acts acts))
      (λ refuses. turns_down (w.refused refuses))
      (or_cases seen.acts seen.refused (not-false (seen.acts || seen.refused) some)))
      (and_cases seen.waits (not (seen.acts || seen.refused)) h)
    where
      goes_on : (e : Event) × IsNext bounds scripts log e → ⊥
      goes_on v =
          let e = v.0 in
          let next = v.1 in
          ⊎_elim (λ idle. next-not_idle bounds scripts log (thread_of e) e run refl next idle)
          (λ waits. next-not_turned bounds scripts log (thread_of e) e run refl next waits.refusal waits.turned)
          (stuck.each (thread_of e) next.follows.known_thread)

      turns_down : (u : ℕ) × (u < bounds.threads) × IsRefused bounds scripts log u → ⊥
      turns_down v = ⊎_elim (λ idle. refused-not_idle bounds scripts log v.0 v.2 idle) (λ waits. refused-not_waiting bounds scripts log v.0 v.2 waits) (stuck.each v.0 v.1)

  module _ (alarmed : Bool) (shown : IsTrue alarmed → HasCycle (rest log)) (shows : HasCycle (rest log) → IsTrue alarmed) where
    -- 86. what is told is there
    pub told-true : (fault : Fault) → is_told alarmed seen fault ≡ true → IsFault bounds scripts rest fault log
    told-true Cycle h = shown h
    told-true Stuck h = stuck-told h
    told-true Refusing h = record { some = w.refused h }

    -- 87. and what is not told is not there
    pub told-false : (fault : Fault) → is_told alarmed seen fault ≡ false → ¬ IsFault bounds scripts rest fault log
    told-false Cycle h bad = false≢true (sym h ∙ shows bad)
    told-false Stuck h bad = stuck-not_told h bad
    told-false Refusing h bad = w.none_refused h bad.some.0 bad.some.1 bad.some.2

-- ---- of a state

found-either : (found : Found) (alarmed : Bool) (seen : ThreadsSeen) (fault : Fault) → has_fault (found_after found alarmed seen) fault ≡ (has_fault found fault || is_told alarmed seen fault)
found-either found alarmed seen Cycle = refl
found-either found alarmed seen Stuck = refl
found-either found alarmed seen Refusing = refl

-- a search that goes on, though it would end at the first finding, found nothing
pub goes_on-nothing : (first : Bool) (found : Found) → first ≡ true → has_ended first found ≡ false → (fault : Fault) → has_fault found fault ≡ false
goes_on-nothing first found is goes_on = each
  where
    some : (found.alarm || found.stuck || found.refused) ≡ false
    some = subst (λ b. (b && (found.alarm || found.stuck || found.refused)) ≡ false) is goes_on

    each : (fault : Fault) → has_fault found fault ≡ false
    each Cycle = (or_parts _ _ (or_parts _ _ some).0).0
    each Stuck = (or_parts _ _ (or_parts _ _ some).0).1
    each Refusing = (or_parts _ _ some).1

module _ (bounds : Bounds) (scripts : List (List Kind)) (rest : List Event → List Event) where
  -- where the states are spent, no run of fewer events than there are levels has what was not found
  pub spent-cut : (most : ℕ) (first over : Bool) (found : Found) (states levels : ℕ) (level : List State) → most ≤ states * bounds.threads → states ≤ ways bounds.threads levels →
      ((n : ℕ) (fault : Fault) → has_fault found fault ≡ false → All (IsClean bounds scripts rest n fault) level → NeverWithin (levels + n) (IsFault bounds scripts rest fault) bounds scripts []) →
      IsSearchCut bounds scripts rest most first over found states
  spent-cut most first over found states levels level all few leads = inr (inr (record {
    all = all;
    events = levels;
    tried = record {
      none = λ fault h.
          let never = leads 0 fault h (λ k d l. record { each = λ log run stands more short. absurd (omega (arith, short)) }) in
          λ more short. never more (omega (arith, short));
      few = few;
    };
  }))

  -- why a search has ended that ends after a level
  pub ended-cut : (most : ℕ) (first over : Bool) (said : Bool) (found : Found) (states : ℕ) → (said || has_ended first found) ≡ true → (said ≡ true → over ≡ true) →
      IsSearchCut bounds scripts rest most first over found states
  ended-cut most first over said found states ended told =
      ⊎_elim (λ says. inr (inl (told says))) (λ some. inl some) (or_cases said (has_ended first found) ended)

  -- before any thread
  pub tried-start : (state : State) (start : List State) → All (IsReached bounds scripts rest) start → IsTried bounds scripts rest state start start (record { acts = false; waits = false; refused = false }) 0
  tried-start state start reached = record {
    reached = reached;
    leads = λ n fault all. (all, λ u l. absurd (omega (arith, l)));
    threads = λ log run stands. record {
      acts = λ h. absurd (false≢true h);
      waits = λ h. absurd (false≢true h);
      none_waits = λ h u l. absurd (omega (arith, l));
      refused = λ h. absurd (false≢true h);
      none_refused = λ h u l. absurd (omega (arith, l));
      others = λ a r u l. absurd (omega (arith, l));
    };
  }

  pub nothing-true : IsTrueOf bounds scripts rest nothing
  nothing-true Cycle h = absurd (false≢true h)
  nothing-true Stuck h = absurd (false≢true h)
  nothing-true Refusing h = absurd (false≢true h)

  module _ (state : State) (reached : IsReached bounds scripts rest state) (start now : List State) (seen : ThreadsSeen) (tried : IsTried bounds scripts rest state start now seen bounds.threads) (found : Found) where
    -- 88. what is found stays true
    pub found-true : IsTrueOf bounds scripts rest found → IsTrueOf bounds scripts rest (found_after found state.marks.alarmed seen)
    found-true true_before fault h = ⊎_elim
        (λ old. true_before fault old)
        (λ told. record {
          log = reached.log;
          run = reached.run;
          bad = told-true bounds scripts rest reached.log reached.run seen (tried.threads reached.log reached.run reached.stands) state.marks.alarmed reached.stands.graph.alarmed.0 reached.stands.graph.alarmed.1 fault told;
        })
        (or_cases (has_fault found fault) (is_told state.marks.alarmed seen fault) (sym (found-either found state.marks.alarmed seen fault) ∙ h))

    -- 89. what is not found now was not found before
    pub found-more : (fault : Fault) → has_fault (found_after found state.marks.alarmed seen) fault ≡ false → has_fault found fault ≡ false
    found-more fault h = (or_parts (has_fault found fault) (is_told state.marks.alarmed seen fault) (sym (found-either found state.marks.alarmed seen fault) ∙ h)).0

    -- what is found now and was not before is there after each log of the state
    pub found-shows : (fault : Fault) → has_fault found fault ≡ false → has_fault (found_after found state.marks.alarmed seen) fault ≡ true → (log : List Event) → IsRunOf bounds scripts log → IsStateOf rest log state → IsFault bounds scripts rest fault log
    found-shows fault none some log run stands = ⊎_elim
        (λ old. absurd (false≢true (sym none ∙ old)))
        (λ told. told-true bounds scripts rest log run seen (tried.threads log run stands) state.marks.alarmed stands.graph.alarmed.0 stands.graph.alarmed.1 fault told)
        (or_cases (has_fault found fault) (is_told state.marks.alarmed seen fault) (sym (found-either found state.marks.alarmed seen fault) ∙ some))

    -- 90. and the state is clean of it, where those after it are
    pub found-leads : (n : ℕ) (fault : Fault) → has_fault (found_after found state.marks.alarmed seen) fault ≡ false → All (IsClean bounds scripts rest n fault) now → (All (IsClean bounds scripts rest n fault) start × IsClean bounds scripts rest (n + 1) fault state)
    found-leads n fault h all =
        let none = (or_parts (has_fault found fault) (is_told state.marks.alarmed seen fault) (sym (found-either found state.marks.alarmed seen fault) ∙ h)).1 in
        let w = tried.leads n fault all in (
          w.0,
          record {
            each = λ log run stands. rule_of_all bounds scripts (IsFault bounds scripts rest fault) n log
                (told-false bounds scripts rest log run seen (tried.threads log run stands) state.marks.alarmed stands.graph.alarmed.0 stands.graph.alarmed.1 fault none)
                (λ e next. (w.1 (thread_of e) next.follows.known_thread).each log e run stands refl next);
          },
        )

  -- 91. no event
  pub start-reached : (state : State) → bounds_of state.heap ≡ bounds → IsStateOf rest [] state → IsReached bounds scripts rest state
  start-reached state same stands = record { log = []; run = IsRunOf-nil bounds scripts; stands = stands; same = same }
