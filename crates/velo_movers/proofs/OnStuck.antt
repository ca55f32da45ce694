-- That all threads wait goes along where an event is brought forward, and cannot be where a free event is due.
use Rattle.std.proofs.Common.{◌≡◌, ℕ, List, [], ◌∷◌, ◌++◌, Option, Some, None, refl, sym, ap, ◌∙◌, subst, ⊎_elim}
use Rattle.std.proofs.lemmas.Bool.{eq-eqb, both_ways}
use Rattle.std.proofs.lemmas.Option.{none-some}
use Rattle.velo_events.specs.declared.config.Bounds.{Bounds}
use Rattle.velo_events.specs.declared.event.Action.{Action}
use Rattle.velo_events.specs.declared.event.Event.{Event}
use Rattle.velo_events.specs.declared.refusal.Refusal.{Refusal}
use Rattle.velo_events.specs.Event.{thread_of}
use Rattle.velo_events.specs.Meaning.{action_of, refusal_of, is_unborn}
use Rattle.velo_events.specs.WellFormed.{MayFollow}
use Rattle.velo_events.proofs.OnMeaning.{MayFollow-refusal_of}
use Rattle.velo_events.proofs.OnStatuses.{actor-born}
use Rattle.velo_events.proofs.OnWellFormed.{IsWellFormed-before, IsWellFormed-last}
use Rattle.velo_movers.specs.Programs.{own, IsProgram, IsLog, IsNever}
use Rattle.velo_movers.specs.Free.{IsFree, GoesAlong}
use Rattle.velo_movers.specs.Wants.{AreWanted, refusal_at, IsRefused, IsStuck}
use Rattle.velo_movers.proofs.OnHolders.{own-push_yes}
use Rattle.velo_movers.proofs.OnMoves.{LeavesSameHeap-forward}
use Rattle.velo_movers.proofs.OnRules.{own-forward, kind-by_action, rule_of_one}
use Rattle.velo_movers.proofs.OnWants.{IsStuck-same}

module _ (bounds : Bounds) (May : ℕ → List Event → Type 0) (program : IsProgram May) (wants : ℕ → List Event → Option Action) (are : AreWanted May wants) where
  module _ (log : List Event) (e : Event) (next : IsLog bounds May (log ++ e ∷ [])) where
    pub due_follows : MayFollow bounds log e
    due_follows = IsWellFormed-last bounds log e next.well

    -- the thread of an event that is due wants it
    pub due_wanted : wants (thread_of e) (own (thread_of e) log) ≡ Some (action_of e.kind)
    due_wanted = are.done (thread_of e) (own (thread_of e) log) e
        (subst (May (thread_of e)) (own-push_yes (thread_of e) log e (eq-eqb (thread_of e) (thread_of e) refl)) (next.each (thread_of e)))

    -- and nothing refuses it
    not_refused : refusal_at bounds log (thread_of e) (wants (thread_of e) (own (thread_of e) log)) ≡ None
    not_refused =
        ap (refusal_at bounds log (thread_of e)) due_wanted
        ∙ (ap (refusal_of bounds log (thread_of e)) (sym (kind-by_action log (thread_of e) e.kind due_follows.in_turn))
        ∙ ((MayFollow-refusal_of bounds log e (IsWellFormed-before bounds log (e ∷ []) next.well)).0 due_follows).0)

    pub due-not_refused : (r : Refusal) → IsRefused bounds wants log (thread_of e) r → ⊥
    due-not_refused r w = none-some _ (sym not_refused ∙ w.refused)

    due-not_stuck : IsStuck bounds wants log → ⊥
    due-not_stuck w = ⊎_elim
        (λ idle. ⊎_elim (λ none. none-some _ (sym none ∙ due_wanted))
        (λ unborn. both_ways _ (actor-born bounds log e due_follows) (ap is_unborn unborn)) idle)
        (λ r. due-not_refused r.0 r.1) (w.each (thread_of e) due_follows.known_thread)

  pub IsStuck-goes_along : GoesAlong bounds May (IsStuck bounds wants)
  IsStuck-goes_along = record {
    forward = λ log stretch e rest apart all w.
        IsStuck-same bounds (log ++ (stretch ++ e ∷ rest)) (log ++ e ∷ (stretch ++ rest)) (LeavesSameHeap-forward log stretch e rest apart) wants (own-forward log stretch e rest apart) w;
    follow = λ log e free next w. absurd (due-not_stuck log e next w);
  }

  -- No trace that goes on from the log is stuck, where none is that goes on from it with a free event
  pub not_stuck-rule_of_one : (log : List Event) (e : Event) → IsLog bounds May (log ++ e ∷ []) → IsFree bounds May log e → IsNever bounds May (IsStuck bounds wants) (log ++ e ∷ []) → IsNever bounds May (IsStuck bounds wants) log
  not_stuck-rule_of_one = rule_of_one bounds May program (IsStuck bounds wants) IsStuck-goes_along
