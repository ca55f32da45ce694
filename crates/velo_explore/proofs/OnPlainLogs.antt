-- The log of a replay without its values is a run of the bodies' scripts: what holds of all runs holds of all replays.
use Rattle.std.proofs.Common.{◌≡◌, ℕ, zero, suc, Bool, true, false, cond, List, [], ◌∷◌, ◌++◌, length, take, map, Option, Some, None, refl, sym, ap, ◌∙◌, subst, ⊎_elim, inl, inr}
use Rattle.std.specs.Option.{option_map}
use Rattle.std.specs.Prelude.{filter, slice_get, slice_index_or}
use Rattle.std.proofs.lemmas.List.{length-map}
use Rattle.std.proofs.lemmas.Option.{slice_get-map, get_or_from_slice_get, same_Some, none-some}
use Rattle.velo_events.specs.declared.event.Action.{Action}
use Rattle.velo_events.specs.declared.event.Event.{Event}
use Rattle.velo_events.specs.declared.event.Kind.{Kind}
use Rattle.velo_events.specs.declared.event.Kind.TheVariants.{Exit}
use Rattle.velo_events.specs.declared.refusal.Refusal.{Refusal}
use Rattle.velo_events.specs.Event.{is_by}
use Rattle.velo_events.specs.Graph.{HasCycle}
use Rattle.velo_events.specs.Meaning.{action_of, kind_for, refusal_of}
use Rattle.velo_events.specs.Tally.{events_of}
use Rattle.velo_events.proofs.OnSerializing.{serializable_law-none}
use Rattle.velo_filter.specs.Left.{Omitted, rest_of}
use Rattle.velo_workload.specs.declared.statement.Statement.{Statement}
use Rattle.velo_workload.specs.Program.{Program}
use Rattle.velo_worker.specs.declared.ending.Ending.TheVariants.{Stuck, Refused}
use Rattle.velo_worker.specs.Counts.{has_event}
use Rattle.velo_worker.specs.Progress.{action_for}
use Rattle.velo_worker.specs.Walk.{walk_of}
use Rattle.velo_search.specs.Plain.{plain_kind, plain_log}
use Rattle.velo_search.specs.Plain as values
use Rattle.velo_search.specs.Runs.{script_of, IsRunOf, Never}
use Rattle.velo_search.proofs.OnPlain.{IsWellFormed-plain, status_in-plain, depth_in-plain, holder_in-plain, shares_in-plain}
use Rattle.velo_movers.specs.Programs.{own}
use Rattle.velo_movers.specs.Scripts.{plain}
use Rattle.velo_movers.specs.Wants.{Does, refusal_at, IsRefused, IsStuck, HasRefusal}
use Rattle.velo_movers.proofs.OnScripts.{plain_events, script_events, AreScripts-wants}
use Rattle.velo_movers.proofs.OnWants.{IsProgram-wants, StandsAlike, refusal-same}
use Rattle.velo_explore.specs.Logs.{wants_of, IsLogOf, AlwaysSerializable, NeverStuck, NeverRefused}
use Rattle.velo_explore.specs.Bodies.{operation, operations_of, operations_by, scripts, all_scripts}
use Rattle.velo_explore.proofs.OnBodyScripts.{HaveScripts-bodies, scripts-done}
use Rattle.velo_explore.proofs.OnReplays.{IsLogOf-replays}
use Rattle.velo_explore.proofs.OnRests.{cycle-plain}
use Rattle.velo_explore.proofs.OnEndings.{IsStuck-replays, HasRefusal-replays}
use Rattle.velo_search.proofs.OnRunsOfScripts.{same_plain, wants_by, length-own}

-- ---- the events of a thread, without values

own-plain : (t : ℕ) (log : List Event) → own t (plain_log log) ≡ map values.plain (own t log)
own-plain t [] = refl
own-plain t (e ∷ log) = ap (λ es. cond (is_by t e) (values.plain e ∷ es) es) (own-plain t log) ∙ by_test (is_by t e)
  where
    by_test : (b : Bool) → cond b (values.plain e ∷ map values.plain (own t log)) (map values.plain (own t log)) ≡ map values.plain (cond b (e ∷ own t log) (own t log))
    by_test true = refl
    by_test false = refl

kinds-plain : (events : List Event) → map (λ (e : Event). e.kind) (map values.plain events) ≡ plain_events events
unfolding plain_events
kinds-plain [] = refl
kinds-plain (e ∷ events) = ap (λ k. k ∷ map (λ (f : Event). f.kind) (map values.plain events)) (sym (same_plain e.kind)) ∙ ap (λ ks. plain (action_of e.kind) ∷ ks) (kinds-plain events)

length-own_plain : (t : ℕ) (log : List Event) → length (own t (plain_log log)) ≡ length (own t log)
length-own_plain t log = ap length (own-plain t log) ∙ length-map (own t log) values.plain

module _ (program : Program) where
  -- the lists of scripts are the same
  pub script_in : (t : ℕ) → script_of (all_scripts program) t ≡ scripts program t
  script_in t = at (slice_get program.bodies t) refl
    where
      at : (o : Option (List Statement)) → slice_get program.bodies t ≡ o → script_of (all_scripts program) t ≡ scripts program t
      at (Some body) is =
          get_or_from_slice_get (all_scripts program) t (operations_of (walk_of body)) [] (slice_get-map (λ b. operations_of (walk_of b)) program.bodies t ∙ ap (option_map (λ b. operations_of (walk_of b))) is)
          ∙ sym (ap operations_by is)
      at None is = nothing (all_scripts program) t (slice_get-map (λ b. operations_of (walk_of b)) program.bodies t ∙ ap (option_map (λ b. operations_of (walk_of b))) is) ∙ sym (ap operations_by is)
        where
          nothing : (xs : List (List Kind)) (k : ℕ) → slice_get xs k ≡ None → slice_index_or xs k [] ≡ []
          nothing [] k h = refl
          nothing (x ∷ xs) zero h = absurd (none-some x (sym h))
          nothing (x ∷ xs) (suc k) h = nothing xs k h

  -- and without values
  pub ArePlain-bodies : (t i : ℕ) (k : Kind) → slice_get (script_of (all_scripts program) t) i ≡ Some k → plain_kind k ≡ k
  ArePlain-bodies t i k h = at (slice_get program.bodies t) refl
    where
      operation-plain : (action : Action) → plain_kind (plain action) ≡ plain action
      operation-plain (Action.Read x) = refl
      operation-plain (Action.Write x v) = refl
      operation-plain _ = refl

      in_script : (statements : List Statement) (j : ℕ) → slice_get (map operation statements ++ Exit ∷ []) j ≡ Some k → plain_kind k ≡ k
      in_script [] zero is = subst (λ l. plain_kind l ≡ l) (same_Some Exit k is) refl
      in_script [] (suc j) is = absurd (none-some k is)
      in_script (s ∷ statements) zero is = subst (λ l. plain_kind l ≡ l) (same_Some (operation s) k is) (operation-plain (action_for 0 (Some s)))
      in_script (s ∷ statements) (suc j) is = in_script statements j is

      at : (o : Option (List Statement)) → slice_get program.bodies t ≡ o → plain_kind k ≡ k
      at (Some body) is = in_script (filter has_event (walk_of body)) i (ap (λ o. slice_get (operations_by o) i) (sym is) ∙ (ap (λ ks. slice_get ks i) (sym (script_in t)) ∙ h))
      at None is = absurd (none-some k (ap (λ o. slice_get (operations_by o) i) (sym is) ∙ (ap (λ ks. slice_get ks i) (sym (script_in t)) ∙ h)))

  module _ (log : List Event) (all : IsLogOf program log) where
    script_own : (t : ℕ) → plain_events (own t log) ≡ take (length (own t log)) (scripts program t)
    script_own t = script_events (Does (wants_of program)) (IsProgram-wants (wants_of program)) (length program.bodies) (scripts program) (AreScripts-wants (wants_of program) (length program.bodies) (scripts program) (HaveScripts-bodies program)) t (own t log) (all.each t)

    -- without its values a log of the program is a run of the scripts
    pub IsRunOf-plain : IsRunOf program.bounds (all_scripts program) (plain_log log)
    IsRunOf-plain = record {
      well_formed = IsWellFormed-plain program.bounds log all.well;
      own = λ t.
          ap (map (λ (e : Event). e.kind)) (own-plain t log)
          ∙ (kinds-plain (own t log)
          ∙ (script_own t
          ∙ (ap (λ n. take n (scripts program t)) (sym (length-own_plain t log) ∙ length-own (all_scripts program) t (plain_log log))
          ∙ ap (take (events_of (plain_log log) t)) (sym (script_in t)))));
    }

    -- ---- what is tried, and what becomes of it

    pub script_at : (t : ℕ) → slice_get (script_of (all_scripts program) t) (length (own t (plain_log log))) ≡ slice_get (scripts program t) (length (own t log))
    script_at t = ap (λ ks. slice_get ks (length (own t (plain_log log)))) (script_in t) ∙ ap (slice_get (scripts program t)) (length-own_plain t log)

    wants-plain : (t : ℕ) (action : Action) → wants_of program t (own t log) ≡ Some action → wants_by (all_scripts program) t (own t (plain_log log)) ≡ Some (action_of (plain action))
    wants-plain t action h = ap (option_map action_of) (script_at t ∙ (HaveScripts-bodies program).next t (own t log) action (all.each t) h)

    done-plain : (t : ℕ) → wants_of program t (own t log) ≡ None → wants_by (all_scripts program) t (own t (plain_log log)) ≡ None
    done-plain t h = ap (option_map action_of) (script_at t ∙ scripts-done program t (own t log) (all.each t) h)

    -- the values play no part in a refusal
    refusal-plain : (t : ℕ) (action : Action) → refusal_of program.bounds log t (kind_for (plain_log log) (action_of (plain action))) ≡ refusal_of program.bounds log t (kind_for log action)
    unfolding refusal_of
    refusal-plain t (Action.Read x) = refl
    refusal-plain t (Action.Write x v) = refl
    refusal-plain t (Action.Acquire m) = refl
    refusal-plain t (Action.Release m) = refl
    refusal-plain t (Action.AcquireShared m) = refl
    refusal-plain t (Action.ReleaseShared m) = refl
    refusal-plain t (Action.Begin l) = refl
    refusal-plain t Action.End = refl
    refusal-plain t (Action.Fork u) = refl
    refusal-plain t (Action.Join u) = refl
    refusal-plain t Action.Exit = refl

    pub alike : StandsAlike log (plain_log log)
    alike = record { holders = holder_in-plain log; sharers = shares_in-plain log; statuses = status_in-plain log; depths = depth_in-plain log }

    IsRefused-plain : (t : ℕ) (r : Refusal) → IsRefused program.bounds (wants_of program) log t r → IsRefused program.bounds (wants_by (all_scripts program)) (plain_log log) t r
    IsRefused-plain t r w = record { born = λ unborn. w.born (sym (status_in-plain log t) ∙ unborn); refused = at (wants_of program t (own t log)) refl }
      where
        at : (o : Option Action) → wants_of program t (own t log) ≡ o → refusal_at program.bounds (plain_log log) t (wants_by (all_scripts program) t (own t (plain_log log))) ≡ Some r
        at None is = absurd (none-some r (sym (ap (refusal_at program.bounds log t) is) ∙ w.refused))
        at (Some action) is =
            ap (refusal_at program.bounds (plain_log log) t) (wants-plain t action is)
            ∙ (refusal-same program.bounds log (plain_log log) alike t (kind_for (plain_log log) (action_of (plain action)))
            ∙ (refusal-plain t action ∙ (sym (ap (refusal_at program.bounds log t) is) ∙ w.refused)))

    IsStuck-plain : IsStuck program.bounds (wants_of program) log → IsStuck program.bounds (wants_by (all_scripts program)) (plain_log log)
    IsStuck-plain w = record {
      waiting = w.waiting;
      reason = w.reason;
      waits = IsRefused-plain w.waiting w.reason w.waits;
      is_waiting = w.is_waiting;
      each = λ t l. ⊎_elim
          (λ idle. inl (⊎_elim (λ done. inl (done-plain t done)) (λ unborn. inr (status_in-plain log t ∙ unborn)) idle))
          (λ r. inr (r.0, IsRefused-plain t r.0 r.1, r.2))
          (w.each t l);
    }

    HasRefusal-plain : HasRefusal program.bounds (wants_of program) log → HasRefusal program.bounds (wants_by (all_scripts program)) (plain_log log)
    HasRefusal-plain w = record { thread = w.thread; reason = w.reason; refused = IsRefused-plain w.thread w.reason w.refused; no_wait = w.no_wait }

  -- ---- all replays

  -- Where what is left of no run of the scripts has a cycle, what is left of all replays is serializable
  pub AlwaysSerializable-runs : (omitted : Omitted) → Never (λ log. HasCycle (rest_of omitted log)) program.bounds (all_scripts program) [] → AlwaysSerializable (rest_of omitted) program
  AlwaysSerializable-runs omitted never schedule config ending closed is r =
      let all = IsLogOf-replays program schedule config ending closed is r in
      (serializable_law-none (rest_of omitted closed.log)).0 (λ c. never (plain_log closed.log) (IsRunOf-plain closed.log all) (cycle-plain omitted closed.log c))

  -- where none is stuck, no replay is
  pub NeverStuck-runs : Never (IsStuck program.bounds (wants_by (all_scripts program))) program.bounds (all_scripts program) [] → NeverStuck program
  NeverStuck-runs never schedule config closed is r =
      let all = IsLogOf-replays program schedule config Stuck closed is r in
      never (plain_log closed.log) (IsRunOf-plain closed.log all) (IsStuck-plain closed.log all (IsStuck-replays program schedule config closed is r))

  -- and where in none a thread is refused, replays are for want of room alone
  pub NeverRefused-runs : Never (HasRefusal program.bounds (wants_by (all_scripts program))) program.bounds (all_scripts program) [] → NeverRefused program
  NeverRefused-runs never schedule config u r closed is w =
      let all = IsLogOf-replays program schedule config (Refused u r) closed is w in
      ⊎_elim (λ refused. absurd (never (plain_log closed.log) (IsRunOf-plain closed.log all) (HasRefusal-plain closed.log all refused))) (λ room. room)
      (HasRefusal-replays program schedule config u r closed is w)
