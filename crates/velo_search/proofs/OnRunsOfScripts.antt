-- The runs of scripts are the logs of a program, and what is free by the scripts is free after them.
use Rattle.std.proofs.Common.{◌≡◌, ℕ, ◌+◌, List, [], ◌∷◌, ◌++◌, length, length-append, take, map, Option, Some, None, refl, sym, ap, ◌∙◌, subst, arith, ⊎_elim}
use Rattle.std.specs.Option.{option_map}
use Rattle.std.specs.Prelude.{◌≤◌, ◌==◌, ◌↔◌, if◌then◌else◌, slice_get, IsTrue}
use Rattle.std.proofs.Math.Seq.{take-length}
use Rattle.std.proofs.lemmas.Bool.{cases_Bool, cases_lt, eq-eqb, eqb-true}
use Rattle.std.proofs.lemmas.List.{length-map, map-append, take-append-le, take_more, get_or_past}
use Rattle.std.proofs.lemmas.List.Elements.{filter_passes}
use Rattle.std.proofs.lemmas.List.Sums.{length-filter}
use Rattle.std.proofs.lemmas.Option.{slice_get_within, get_or_from_slice_get, same_Some}
use Rattle.velo_events.specs.declared.config.Bounds.{Bounds}
use Rattle.velo_events.specs.declared.event.Action.{Action}
use Rattle.velo_events.specs.declared.event.Event.{Event}
use Rattle.velo_events.specs.declared.event.ThreadId.{ThreadId}
use Rattle.velo_events.specs.declared.event.Kind.{Kind}
use Rattle.velo_events.specs.declared.event.Kind.TheVariants.{Read, Write, Acquire, Release, AcquireShared, ReleaseShared, Begin, End, Fork, Join, Exit}
use Rattle.velo_events.specs.Event.{thread_of, is_by}
use Rattle.velo_events.specs.Heap.{times}
use Rattle.velo_events.specs.Meaning.{action_of}
use Rattle.velo_events.specs.Tally.{events_of}
use Rattle.velo_events.proofs.OnScans.{take-take_le}
use Rattle.velo_events.proofs.OnTraces.{slice_get-push, slice_get-take, slice_get-append}
use Rattle.velo_search.specs.Plain.{plain_kind}
use Rattle.velo_search.specs.Free.{done_by_one, IsFreeAt}
use Rattle.velo_search.specs.Runs.{script_of, IsRunOf, IsNext}
use Rattle.velo_movers.specs.Programs.{own, IsProgram, IsLog}
use Rattle.velo_movers.specs.Free.{IsFree}
use Rattle.velo_movers.specs.Wants.{AreWanted}
use Rattle.velo_movers.specs.Scripts.{plain, AreScripts, is_free}
use Rattle.velo_movers.proofs.OnScripts.{IsFree-script}

-- the events are of thread t, and the first of its script
pub record DoesScript (scripts : List (List Kind)) (t : ℕ) (events : List Event) : Type 0 where
  pub by : (i : ℕ) (e : Event) → slice_get events i ≡ Some e → thread_of e ≡ t
  pub kinds : map (λ e. e.kind) events ≡ take (length events) (script_of scripts t)

-- the operation without its value, in both senses
pub same_plain : (k : Kind) → plain (action_of k) ≡ plain_kind k
same_plain (Read x v) = refl
same_plain (Write x v) = refl
same_plain _ = refl

-- what thread t tries after these events
abbrev pub wants_by : List (List Kind) → ℕ → List Event → Option Action
wants_by scripts t events = option_map action_of (slice_get (script_of scripts t) (length events))

module _ (scripts : List (List Kind)) where
  kinds_of : List Event → List Kind
  kinds_of events = map (λ e. e.kind) events

  length-kinds : (events : List Event) → length (kinds_of events) ≡ length events
  unfolding kinds_of
  length-kinds events = length-map events (λ e. e.kind)

  script-earlier : (t : ℕ) (events more : List Event) → DoesScript scripts t (events ++ more) → DoesScript scripts t events
  unfolding kinds_of
  script-earlier t events more d = record {
    by = λ i e h. d.by i e (slice_get-append events more i (slice_get_within events i e h) ∙ h);
    kinds =
        let n = length events in
        sym (take-length (kinds_of events))
        ∙ (ap (λ k. take k (kinds_of events)) (length-kinds events)
        ∙ (sym (take-append-le n (kinds_of events) (kinds_of more) (omega (arith, length-kinds events)))
        ∙ (ap (take n) (sym (map-append (λ e. e.kind) events more) ∙ d.kinds)
        ∙ take-take_le n (length (events ++ more)) (script_of scripts t) (omega (arith, length-append events more)))));
  }

  -- the next event is the next of the script
  script-next : (t : ℕ) (events : List Event) (e : Event) → DoesScript scripts t (events ++ e ∷ []) → slice_get (script_of scripts t) (length events) ≡ Some e.kind
  unfolding kinds_of
  script-next t events e d =
      let n = length events in
      let long = length-append events (e ∷ []) in
      let all : kinds_of events ++ e.kind ∷ [] ≡ take (n + 1) (script_of scripts t) = sym (map-append (λ f. f.kind) events (e ∷ [])) ∙ (d.kinds ∙ ap (λ k. take k (script_of scripts t)) long) in
      sym (slice_get-take (script_of scripts t) (n + 1) n (omega arith))
      ∙ (ap (λ xs. slice_get xs n) (sym all)
      ∙ (ap (slice_get (kinds_of events ++ e.kind ∷ [])) (sym (length-kinds events)) ∙ slice_get-push (kinds_of events) e.kind))

  pub IsProgram-scripts : IsProgram (DoesScript scripts)
  IsProgram-scripts = record {
    earlier = script-earlier;
    next = λ t events e f d c. ap action_of (same_Some e.kind f.kind (sym (script-next t events e d) ∙ script-next t events f c));
  }

  -- a script without values
  pub AreScripts-scripts : ((t i : ℕ) (k : Kind) → slice_get (script_of scripts t) i ≡ Some k → plain_kind k ≡ k) → AreScripts (DoesScript scripts) (length scripts) (script_of scripts)
  AreScripts-scripts plain_ones = record {
    by = λ t events d. d.by;
    next = λ t events e d.
        let here = script-next t events e d in
        here ∙ ap Some (sym (plain_ones t (length events) e.kind here) ∙ sym (same_plain e.kind));
    others = λ t beyond. get_or_past scripts t [] beyond;
  }

  -- ---- runs are logs

  pub length-own : (t : ℕ) (log : List Event) → length (own t log) ≡ events_of log t
  unfolding times
  length-own t log = length-filter (is_by t) log

  own-by : (t : ℕ) (log : List Event) (i : ℕ) (e : Event) → slice_get (own t log) i ≡ Some e → thread_of e ≡ t
  own-by t log i e h =
      let l = slice_get_within (own t log) i e h in
      eqb-true (thread_of e) t (subst (λ x. IsTrue (is_by t x)) (get_or_from_slice_get (own t log) i e e h) (filter_passes (is_by t) log i e l))

  pub IsLog-run : (bounds : Bounds) (log : List Event) → IsRunOf bounds scripts log ↔ IsLog bounds (DoesScript scripts) log
  IsLog-run bounds log = (
    (λ run. record {
      well = run.well_formed;
      each = λ t. record { by = own-by t log; kinds = run.own t ∙ ap (λ n. take n (script_of scripts t)) (sym (length-own t log)) };
    }),
    (λ all. record {
      well_formed = all.well;
      own = λ t. (all.each t).kinds ∙ ap (λ n. take n (script_of scripts t)) (length-own t log);
    }),
  )

  -- ---- what is wanted

  -- one event more, the next of the script
  script-push : (t : ℕ) (events : List Event) (e : Event) → DoesScript scripts t events → thread_of e ≡ t → slice_get (script_of scripts t) (length events) ≡ Some e.kind → DoesScript scripts t (events ++ e ∷ [])
  script-push t events e d own_e now =
      let n = length events in
      let script = script_of scripts t in
      let more : take (n + 1) script ≡ take n script ++ e.kind ∷ [] =
      take_more script n e.kind (slice_get_within script n e.kind now) ∙ ap (λ k. take n script ++ k ∷ []) (get_or_from_slice_get script n e.kind e.kind now) in
      record {
        by = λ i f h. ⊎_elim
            (λ l. d.by i f (sym (slice_get-append events (e ∷ []) i l) ∙ h))
            (λ g.
            let last : length events ≡ i = let l = slice_get_within (events ++ e ∷ []) i f h in let long = length-append events (e ∷ []) in omega (arith, g, l, long) in
            ap thread_of (sym (same_Some e f (sym (slice_get-push events e) ∙ (ap (slice_get (events ++ e ∷ [])) last ∙ h)))) ∙ own_e)
            (cases_lt i (length events));
        kinds = map-append (λ f. f.kind) events (e ∷ []) ∙ (ap (λ ks. ks ++ e.kind ∷ []) d.kinds ∙ (sym more ∙ ap (λ k. take k script) (sym (length-append events (e ∷ [])))));
      }

  -- what asks for a join is one
  join_of : (o : Option Kind) (v : ThreadId) → option_map action_of o ≡ Some (Action.Join v) → o ≡ Some (Join v)
  join_of (Some (Join u)) v h = let same : Action.Join u ≡ Action.Join v = same_Some (Action.Join u) (Action.Join v) h in let is : u ≡ v = cc in ap (λ w. Some (Join w)) is
  join_of (Some (Read x u)) v h = cc
  join_of (Some (Write x u)) v h = cc
  join_of (Some (Acquire m)) v h = cc
  join_of (Some (Release m)) v h = cc
  join_of (Some (AcquireShared m)) v h = cc
  join_of (Some (ReleaseShared m)) v h = cc
  join_of (Some (Begin l)) v h = cc
  join_of (Some End) v h = cc
  join_of (Some (Fork u)) v h = cc
  join_of (Some Exit) v h = cc
  join_of None v h = cc

  pub AreWanted-scripts : AreWanted (DoesScript scripts) (wants_by scripts)
  AreWanted-scripts = record {
    done = λ t events e d. ap (option_map action_of) (script-next t events e d);
    joins = λ t events v d now. script-push t.0 events (record { thread = t; kind = Join v }) d refl (join_of (slice_get (script_of scripts t.0) (length events)) v now);
  }

  -- ---- what is free at any time is free after each run

  module _ (bounds : Bounds) (plain_ones : (t i : ℕ) (k : Kind) → slice_get (script_of scripts t) i ≡ Some k → plain_kind k ≡ k) (log : List Event) (e : Event) (run : IsRunOf bounds scripts log) (next : IsNext bounds scripts log e) where
    done_here : done_by_one (thread_of e) (events_of log (thread_of e)) (thread_of e) ≡ length (own (thread_of e) log)
    done_here = ap (λ b. if b then events_of log (thread_of e) else 0) (eq-eqb (thread_of e) (thread_of e) refl) ∙ sym (length-own (thread_of e) log)

    done_least : (u : ℕ) → done_by_one (thread_of e) (events_of log (thread_of e)) u ≤ length (own u log)
    done_least u = ⊎_elim
        (λ same.
        let is : u ≡ thread_of e = eqb-true u (thread_of e) same in
        let count : events_of log (thread_of e) ≡ length (own u log) = ap (events_of log) (sym is) ∙ sym (length-own u log) in
        subst (λ n. n ≤ length (own u log)) (sym (ap (λ b. if b then events_of log (thread_of e) else 0) same)) (omega (arith, count)))
        (λ differ. subst (λ n. n ≤ length (own u log)) (sym (ap (λ b. if b then events_of log (thread_of e) else 0) differ)) (omega arith))
        (cases_Bool (u == thread_of e))

    pub IsFree-at : IsFreeAt scripts (thread_of e) (events_of log (thread_of e)) e.kind → IsFree bounds (DoesScript scripts) log e
    IsFree-at free =
        IsFree-script (DoesScript scripts) IsProgram-scripts (length scripts) (script_of scripts) (AreScripts-scripts plain_ones) bounds free.locks log e
        (done_by_one (thread_of e) (events_of log (thread_of e)))
        ((IsLog-run bounds log).0 run)
        done_here
        done_least
        (subst (λ k. IsTrue (is_free (length scripts) free.locks (script_of scripts) (done_by_one (thread_of e) (events_of log (thread_of e))) (thread_of e) k)) (sym (plain_ones (thread_of e) (events_of log (thread_of e)) e.kind next.due) ∙ sym (same_plain e.kind)) free.free)
