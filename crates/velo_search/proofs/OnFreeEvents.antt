-- A free event may be done at once: what is not found after it is not there before it.
use Rattle.std.proofs.Common.{◌≡◌, ℕ, ◌+◌, ◌^◌, ◌<◌, List, [], ◌∷◌, ◌++◌, length, length-append, append_assoc, append-nil, sym, ap, subst, arith, ⊎_elim}
use Rattle.std.specs.Prelude.{slice_index_or}
use Rattle.std.proofs.lemmas.Option.{slice_get_within}
use Rattle.velo_events.specs.declared.config.Bounds.{Bounds}
use Rattle.velo_events.specs.declared.event.Event.{Event}
use Rattle.velo_events.specs.declared.event.Kind.{Kind}
use Rattle.velo_events.specs.Event.{thread_of}
use Rattle.velo_events.specs.Graph.{HasCycle}
use Rattle.velo_events.specs.Tally.{events_of}
use Rattle.velo_heap.specs.Contents.{bounds_of}
use Rattle.velo_heap.proofs.OnTables.{get_or-tabulated}
use Rattle.velo_movers.specs.Free.{GoesAlong, IsFree}
use Rattle.velo_movers.specs.Moves.{DoesNotConflict}
use Rattle.velo_movers.specs.Programs.{IsProgram, IsLog}
use Rattle.velo_movers.specs.Wants as moves
use Rattle.velo_movers.proofs.OnRules.{cases_free, IsLog-forward}
use Rattle.velo_movers.proofs.OnStuck.{IsStuck-goes_along}
use Rattle.velo_movers.proofs.OnRefused.{HasRefusal-goes_along}
use Rattle.velo_search.specs.declared.state.State.{State}
use Rattle.velo_search.specs.Faults.{Fault, Cycle, Stuck, Refusing, IsFault}
use Rattle.velo_search.specs.Runs.{script_of, IsRunOf, IsNext, NeverWithin}
use Rattle.velo_search.specs.States.{IsStateOf}
use Rattle.velo_search.specs.Free.{IsFreeAt}
use Rattle.velo_search.specs.Parts.{Part, rest_by, AreParts}
use Rattle.velo_search.specs.Search.{ArePlain, AreShort, IsReached, Settles}
use Rattle.velo_search.proofs.OnParts.{cycle-goes_along}
use Rattle.velo_search.proofs.OnRuns.{IsRunOf-next}
use Rattle.velo_search.proofs.OnRunsOfScripts.{DoesScript, wants_by, IsProgram-scripts, AreWanted-scripts, IsLog-run, IsFree-at}
use Rattle.velo_search.proofs.OnWanted.{AreKnown, known-run, searched-stuck, searched-refused, wanted-stuck, wanted-refused}

-- ---- the rule of one, with a count

module _ (bounds : Bounds) (May : ℕ → List Event → Type 0) (program : IsProgram May) (Bad : List Event → Type 0) (along : GoesAlong bounds May Bad) (log : List Event) (e : Event) where
  -- nothing bad comes within so many events where none comes after an event that is free
  pub rule_within : (n : ℕ) → IsLog bounds May (log ++ e ∷ []) → IsFree bounds May log e →
      ((rest : List Event) → length rest < n → IsLog bounds May ((log ++ e ∷ []) ++ rest) → ¬ Bad ((log ++ e ∷ []) ++ rest)) →
      (more : List Event) → length more < n → IsLog bounds May (log ++ more) → ¬ Bad (log ++ more)
  rule_within n next free never more few all bad = ⊎_elim
      (λ s. moved s.0 s.1 s.3 (omega (arith, few, ap length s.2, length-append s.0 (e ∷ s.1), length-append s.0 s.1)) (subst (λ es. IsLog bounds May (log ++ es)) s.2 all) (subst (λ es. Bad (log ++ es)) s.2 bad))
      (λ s. moved more [] s.0 (subst (λ es. length es < n) (sym (append-nil more)) few) s.1 (subst Bad (append_assoc log more (e ∷ [])) (along.follow (log ++ more) e s.2 (subst (IsLog bounds May) (sym (append_assoc log more (e ∷ []))) s.1) bad)))
      (cases_free bounds May program e more log next free all)
    where
      moved : (stretch rest : List Event) → DoesNotConflict stretch e → length (stretch ++ rest) < n → IsLog bounds May (log ++ (stretch ++ e ∷ rest)) → Bad (log ++ (stretch ++ e ∷ rest)) → ⊥
      moved stretch rest apart short whole there =
          let longer = sym (append_assoc log (e ∷ []) (stretch ++ rest)) in
          never (stretch ++ rest) short
          (subst (IsLog bounds May) longer (IsLog-forward log stretch e rest apart bounds May whole))
          (subst Bad longer (along.forward log stretch e rest apart whole there))

-- ---- after one log

module _ (bounds : Bounds) (scripts : List (List Kind)) (parts : ℕ → ℕ → Part) (are : AreParts bounds scripts parts) (log : List Event) (e : Event) (run : IsRunOf bounds scripts log) (next : IsNext bounds scripts log e) (plain : ArePlain scripts) (free : IsFreeAt scripts (thread_of e) (events_of log (thread_of e)) e.kind) where
  known : (more : List Event) → IsRunOf bounds scripts more → AreKnown bounds scripts more
  known more longer = known-run bounds scripts (let first = next.follows.known_thread in omega (arith, first)) more longer.well_formed

  -- 93. the rule of one
  rule : (Bad : List Event → Type 0) → GoesAlong bounds (DoesScript scripts) Bad → (n : ℕ) → NeverWithin n Bad bounds scripts (log ++ e ∷ []) → NeverWithin n Bad bounds scripts log
  rule Bad along n never more few longer =
      rule_within bounds (DoesScript scripts) (IsProgram-scripts scripts) Bad along log e n
      ((IsLog-run scripts bounds (log ++ e ∷ [])).0 (IsRunOf-next bounds scripts log e run next))
      (IsFree-at scripts bounds plain log e run next free)
      (λ rest short all. never rest short ((IsLog-run scripts bounds ((log ++ e ∷ []) ++ rest)).1 all))
      more few
      ((IsLog-run scripts bounds (log ++ more)).0 longer)

  -- 94. for each fault
  pub free-never : (n : ℕ) (fault : Fault) → NeverWithin n (IsFault bounds scripts (rest_by parts) fault) bounds scripts (log ++ e ∷ []) → NeverWithin n (IsFault bounds scripts (rest_by parts) fault) bounds scripts log
  free-never n Cycle never more few longer cycle = rule (λ es. HasCycle (rest_by parts es)) (cycle-goes_along bounds scripts parts are) n never more few longer cycle
  free-never n Stuck never more few longer stuck =
      rule (moves.IsStuck bounds (wants_by scripts)) (IsStuck-goes_along bounds (DoesScript scripts) (IsProgram-scripts scripts) (wants_by scripts) (AreWanted-scripts scripts)) n
      (λ rest short all w. never rest short all (searched-stuck bounds scripts ((log ++ e ∷ []) ++ rest) (known ((log ++ e ∷ []) ++ rest) all) w))
      more few longer (wanted-stuck bounds scripts (log ++ more) (known (log ++ more) longer) stuck)
  free-never n Refusing never more few longer refused =
      rule (moves.HasRefusal bounds (wants_by scripts)) (HasRefusal-goes_along bounds (DoesScript scripts) (IsProgram-scripts scripts) (wants_by scripts) (AreWanted-scripts scripts)) n
      (λ rest short all w. never rest short all (searched-refused bounds scripts ((log ++ e ∷ []) ++ rest) (known ((log ++ e ∷ []) ++ rest) all) w))
      more few longer (wanted-refused bounds scripts (log ++ more) (known (log ++ more) longer) refused)

-- ---- from one state to another

module _ (bounds : Bounds) (scripts : List (List Kind)) (rest : List Event → List Event) where
  -- 95. a state and itself
  pub settles_same : (state : State) → Settles bounds scripts rest state state
  settles_same state = record { reached = λ r. r; clean = λ n fault c. c }

  -- 96. one after another
  pub settles_next : (first second third : State) → Settles bounds scripts rest first second → Settles bounds scripts rest second third → Settles bounds scripts rest first third
  settles_next first second third one other = record {
    reached = λ r. other.reached (one.reached r);
    clean = λ n fault c. one.clean n fault (other.clean n fault c);
  }

  -- 98. a state after a next event is reached
  pub next-reached : (before after : State) (e : Event) (r : IsReached bounds scripts rest before) → IsNext bounds scripts r.log e → IsStateOf rest (r.log ++ e ∷ []) after → bounds_of after.heap ≡ bounds → IsReached bounds scripts rest after
  next-reached before after e r next stands same = record { log = r.log ++ e ∷ []; run = IsRunOf-next bounds scripts r.log e r.run next; stands = stands; same = same }

  -- 99. so is the same state once more
  pub same-reached : (before after : State) → IsReached bounds scripts rest before → ((log : List Event) → IsStateOf rest log before → IsStateOf rest log after) → bounds_of after.heap ≡ bounds → IsReached bounds scripts rest after
  same-reached before after r stands same = record { log = r.log; run = r.run; stands = stands r.log r.stands; same = same }

  -- 100. no thread has done more than can be counted
  pub counted-next : AreShort scripts → (state : State) (log : List Event) (e : Event) → bounds_of state.heap ≡ bounds → IsStateOf rest log state → IsNext bounds scripts log e → slice_index_or state.next.items (thread_of e) 0 + 1 < 2 ^ 32
  counted-next short state log e same stands next =
      let t = thread_of e in
      let items = state.next.items in
      let inside : t < length items = subst (λ n. t < n) (sym state.each) (subst (λ b. t < b.threads) (sym same) next.follows.known_thread) in
      let read : slice_index_or items t 0 ≡ events_of log t = get_or-tabulated items (events_of log) 0 t stands.next inside in
      let within : events_of log t < length (script_of scripts t) = slice_get_within (script_of scripts t) (events_of log t) e.kind next.due in
      let few = short t in
      omega (arith, read, within, few)

module _ (bounds : Bounds) (scripts : List (List Kind)) (parts : ℕ → ℕ → Part) (are : AreParts bounds scripts parts) where
  -- 97. a free event
  pub settles_free : (before after : State) (e : Event) → ArePlain scripts →
      ((log : List Event) → IsRunOf bounds scripts log → IsStateOf (rest_by parts) log before → IsFreeAt scripts (thread_of e) (events_of log (thread_of e)) e.kind) →
      ((log : List Event) → IsRunOf bounds scripts log → IsStateOf (rest_by parts) log before → IsNext bounds scripts log e) →
      ((log : List Event) → IsRunOf bounds scripts (log ++ e ∷ []) → IsStateOf (rest_by parts) log before → IsStateOf (rest_by parts) (log ++ e ∷ []) after) →
      (IsReached bounds scripts (rest_by parts) before → IsReached bounds scripts (rest_by parts) after) → Settles bounds scripts (rest_by parts) before after
  settles_free before after e plain free next stands reached = record {
    reached = reached;
    clean = λ n fault clean. record {
      each = λ log run here.
          let due = next log run here in
          free-never bounds scripts parts are log e run due plain (free log run here) n fault (clean.each (log ++ e ∷ []) (IsRunOf-next bounds scripts log e run due) (stands log (IsRunOf-next bounds scripts log e run due) here));
    };
  }
