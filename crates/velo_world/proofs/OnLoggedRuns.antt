-- What an action does to a run on its way.
use Rattle.std.proofs.Common.{◌≡◌, ℕ, List, [], ◌∷◌, ◌++◌, length, take, Ok, refl, sym, subst, inl, inr, ⊎_elim}
use Rattle.std.specs.Prelude.{IsOk}
use Rattle.velo_events.specs.declared.event.Action.{Action}
use Rattle.velo_events.specs.declared.event.Event.{Event}
use Rattle.velo_events.specs.declared.event.ThreadId.{ThreadId}
use Rattle.velo_events.specs.declared.refusal.Refusal.{Refusal}
use Rattle.velo_events.specs.WellFormed.{IsWellFormed, MayFollow}
use Rattle.velo_world.specs.declared.logged_run.LoggedRun.{LoggedRun}
use Rattle.velo_world.specs.World.{WorldState, meaning, Refuses}
use Rattle.velo_world.specs.LoggedRun.{logged_state, FollowsFromItsLog, FindsNoRoom}
use Rattle.velo_world.proofs.OnAnswers.{MayFollow-meaning}
use Rattle.velo_world.proofs.OnAnalyses.{take-before}

-- the log is well-formed within the run's bounds
pub well_formed-logged : (c : LoggedRun) → FollowsFromItsLog c → IsWellFormed c.config.bounds c.log.events
well_formed-logged c stands = subst (λ b. IsWellFormed b c.log.events) stands.bounds stands.analysis.heap.well_formed

-- what is due may follow
pub follows-logged : (c : LoggedRun) (t : ThreadId) (action : Action) (e : Event) → FollowsFromItsLog c → meaning (logged_state c) t action ≡ Ok e → MayFollow c.config.bounds c.log.events e
follows-logged c t action e stands due = MayFollow-meaning (logged_state c) t action e (well_formed-logged c stands) due

-- the events before the one that was pushed
pub pushed-part : (log events : List Event) (e : Event) (position : ℕ) → events ≡ log ++ e ∷ [] → position ≡ length log → take position events ≡ log
pushed-part log events e position is here = rw (is, here) (take-before log e)

pub Refuses-no_room : (w w' : WorldState) (t : ThreadId) (action : Action) (e : Event) (refusal : Refusal) → meaning w t action ≡ Ok e → w' ≡ w → FindsNoRoom w e refusal → Refuses w t (meaning w t action) refusal w' t
Refuses-no_room w w' t action e refusal due same none = record {
  world = same;
  holding = refl;
  cause = inr (⊎_elim
      (λ memory. inl (memory.0, (subst IsOk (sym due) refl, memory.1)))
      (λ full. inr (full.0, record { event = e; is_due = due; finds_none = full.1 }))
      none);
}
