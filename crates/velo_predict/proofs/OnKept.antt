-- A prediction in which no thread goes on whose next action is unknown is a run of the program.
use Rattle.std.proofs.Common.{◌≡◌, ℕ, Bool, List, [], ◌∷◌, ◌++◌, length, take, Option, Some, refl, sym, ap, ◌∙◌, subst, arith, true, false, ⊎_elim, inl, inr}
use Rattle.std.specs.Prelude.{◌⊎◌, slice_get, IsTrue, IsFalse}
use Rattle.std.proofs.Math.Seq.{take-append_seam}
use Rattle.std.proofs.lemmas.Bool.{eqb-true}
use Rattle.std.proofs.lemmas.List.{take-append-le}
use Rattle.std.proofs.lemmas.Option.{slice_get_within}
use Rattle.velo_events.specs.declared.config.Bounds.{Bounds}
use Rattle.velo_events.specs.declared.event.Action.{Action}
use Rattle.velo_events.specs.declared.event.Event.{Event}
use Rattle.velo_events.specs.Event.{thread_of, is_by}
use Rattle.velo_events.specs.Graph.{Path, IsCycle}
use Rattle.velo_events.specs.Meaning.{action_of}
use Rattle.velo_events.specs.WellFormed.{MayFollow, IsWellFormed}
use Rattle.velo_events.proofs.OnTraces.{slice_get-append, slice_get-push}
use Rattle.velo_events.proofs.OnWellFormed.{IsWellFormed-induct}
use Rattle.velo_movers.specs.Programs.{own}
use Rattle.velo_movers.specs.Wants.{Does}
use Rattle.velo_movers.proofs.OnHolders.{own-push_yes, own-push_no}
use Rattle.velo_movers.proofs.OnWants.{Does-push}
use Rattle.velo_predict.specs.Deadlocks.{WaitsFor, HasDeadlock, IsNextAction}
use Rattle.velo_predict.specs.Deadlocks.WaitsFor.{ForLock, ForShare, ForEnd}
use Rattle.velo_predict.specs.Feasible.{IsRun, IsKept, KeptAreRuns, KeptDeadlocksAreFeasible}
use Rattle.velo_predict.specs.Predictions.{IsUnsure, IsNextOf, IsForetold, IsPrediction}
use Rattle.velo_predict.specs.Predictions.IsForetold.{Known, Unknown}

yes_or_no : (b : Bool) → IsFalse b ⊎ IsTrue b
yes_or_no false = inl refl
yes_or_no true = inr refl

module _ (bounds : Bounds) (wants : ℕ → List Event → Option Action) (log : List Event) (run : IsRun bounds wants log) where
  -- what a thread that is sure did next in the log, it wants
  pub wanted_next : (trace : List Event) (t : ℕ) (next : Event) → IsNextOf log trace t next → wants t (own t trace) ≡ Some (action_of next.kind)
  wanted_next trace t next its =
      let here : slice_get (own t log) (length (own t trace)) ≡ Some next =
      ap (λ es. slice_get es (length (own t trace))) its.along ∙ at_seam (own t trace) next its.rest in
      let seam : take (length (own t trace)) (own t log) ≡ own t trace =
      ap (take (length (own t trace))) its.along ∙ take-append_seam (own t trace) (next ∷ its.rest) in
      ap (wants t) (sym seam) ∙ (run.each t).each (length (own t trace)) next here
    where
      at_seam : (xs : List Event) (y : Event) (ys : List Event) → slice_get (xs ++ y ∷ ys) (length xs) ≡ Some y
      at_seam [] y ys = refl
      at_seam (x ∷ xs) y ys = at_seam xs y ys

  -- each event is of the action that its thread did next in the log
  record IsFollowed (trace : List Event) : Type 0 where
    each : (i : ℕ) (e : Event) → slice_get trace i ≡ Some e → (next : Event) × IsNextOf log (take i trace) (thread_of e) next × (action_of e.kind ≡ action_of next.kind)

  does_what_it_wants : (trace : List Event) → IsWellFormed bounds trace → IsFollowed trace → (t : ℕ) → Does wants t (own t trace)
  does_what_it_wants = IsWellFormed-induct bounds (λ trace. IsFollowed trace → (t : ℕ) → Does wants t (own t trace)) start next
    where
      start : IsFollowed [] → (t : ℕ) → Does wants t []
      start followed t = record { by = λ i e at. absurd (omega (arith, slice_get_within {A = Event} [] i e at)); each = λ i e at. absurd (omega (arith, slice_get_within {A = Event} [] i e at)) }

      next : (earlier : List Event) (e : Event) → IsWellFormed bounds earlier → (IsFollowed earlier → (t : ℕ) → Does wants t (own t earlier)) → MayFollow bounds earlier e → IsFollowed (earlier ++ e ∷ []) → (t : ℕ) → Does wants t (own t (earlier ++ e ∷ []))
      next earlier e well before follows followed t =
          let shorter : IsFollowed earlier = record {
            each = λ i f at.
                let within = slice_get_within earlier i f at in
                subst (λ es. (n : Event) × IsNextOf log es (thread_of f) n × (action_of f.kind ≡ action_of n.kind)) (take-append-le i earlier (e ∷ []) (omega (arith, within))) (followed.each i f (slice_get-append earlier (e ∷ []) i within ∙ at));
          } in
          let last = subst (λ es. (n : Event) × IsNextOf log es (thread_of e) n × (action_of e.kind ≡ action_of n.kind)) (take-append_seam earlier (e ∷ [])) (followed.each (length earlier) e (slice_get-push earlier e)) in
          ⊎_elim
          (λ not_its. subst (Does wants t) (sym (own-push_no t earlier e not_its)) (before shorter t))
          (λ its.
          let same : thread_of e ≡ t = eqb-true (thread_of e) t its in
          subst (Does wants t) (sym (own-push_yes t earlier e its))
          (Does-push wants t (own t earlier) e (before shorter t) same
          (wanted_next earlier t last.0 (subst (λ u. IsNextOf log earlier u last.0) same last.1) ∙ ap Some (sym last.2))))
          (yes_or_no (is_by t e))

  kept_follows : (trace : List Event) → IsPrediction bounds log trace → IsKept log trace → IsFollowed trace
  kept_follows trace prediction kept = record { each = λ i e at. known (take i trace) e (kept.each i e at) (prediction.each i e at) }
    where
      known : (earlier : List Event) (e : Event) → ¬ IsUnsure log earlier (thread_of e) → IsForetold log earlier e → (next : Event) × IsNextOf log earlier (thread_of e) next × (action_of e.kind ≡ action_of next.kind)
      known earlier e sure (Known next its same) = (next, its, same)
      known earlier e sure (Unknown unsure release) = absurd (sure unsure)

  pub kept_is_run : (trace : List Event) → IsPrediction bounds log trace → IsKept log trace → IsRun bounds wants trace
  kept_is_run trace prediction kept = record { well = prediction.well_formed; each = does_what_it_wants trace prediction.well_formed (kept_follows trace prediction kept) }

  -- ---- circles of waits

  pub waits_alike : (trace : List Event) (t u : ℕ) → WaitsFor (IsNextAction log trace) trace t u → WaitsFor (λ t action. wants t (own t trace) ≡ Some action) trace t u
  waits_alike trace t u (ForLock m due lives other has) = ForLock m (wanted_next trace t due.event due.next ∙ ap Some due.is_action) lives other has
  waits_alike trace t u (ForShare m due lives other has) = ForShare m (wanted_next trace t due.event due.next ∙ ap Some due.is_action) lives other has
  waits_alike trace t u (ForEnd v due lives same other) = ForEnd v (wanted_next trace t due.event due.next ∙ ap Some due.is_action) lives same other

  path_alike : (R S : ℕ → ℕ → Type 0) → ((a b : ℕ) → R a b → S a b) → (a : ℕ) (between : List ℕ) (b : ℕ) → Path R a between b → Path S a between b
  path_alike R S f a [] b p = f a b p
  path_alike R S f a (c ∷ cs) b p = (f a c p.0, path_alike R S f c cs b p.1)

  cycle_alike : (R S : ℕ → ℕ → Type 0) → ((a b : ℕ) → R a b → S a b) → (cycle : List ℕ) → IsCycle R cycle → IsCycle S cycle
  cycle_alike R S f [] c = c
  cycle_alike R S f (a ∷ []) c = c
  cycle_alike R S f (a ∷ b ∷ rest) c = path_alike R S f a (b ∷ rest) a c

  pub deadlock_alike : (trace : List Event) → HasDeadlock (IsNextAction log trace) trace → HasDeadlock (λ t action. wants t (own t trace) ≡ Some action) trace
  deadlock_alike trace d = record {
    threads = d.threads;
    circle = cycle_alike (WaitsFor (IsNextAction log trace) trace) (WaitsFor (λ t action. wants t (own t trace) ≡ Some action) trace) (waits_alike trace) d.threads d.circle;
  }

pub kept_are_runs : KeptAreRuns
kept_are_runs bounds wants log trace run prediction kept = kept_is_run bounds wants log run trace prediction kept

pub kept_deadlocks : KeptDeadlocksAreFeasible
kept_deadlocks bounds wants log trace run predicts kept = (kept_is_run bounds wants log run trace predicts.prediction kept, deadlock_alike bounds wants log run trace predicts.deadlock)
