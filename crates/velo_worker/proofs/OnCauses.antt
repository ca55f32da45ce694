-- Why a run ends for want of memory.
use Rattle.std.proofs.Common.{◌≡◌, inl, inr, ⊎_elim}
use Rattle.std.specs.Prelude.{Bool, List, [], ◌∷◌, Option, Some, None, Result, Ok, Err, IfSome, OnErr, true, false, if◌then◌else◌, nat_le}
use Rattle.std.proofs.lemmas.Bool.{false≢true}
use Rattle.velo_events.specs.declared.event.ThreadId.{ThreadId}
use Rattle.velo_events.specs.declared.refusal.Refusal.{Refusal}
use Rattle.velo_events.specs.declared.refusal.Refusal.TheVariants as refusal
use Rattle.velo_runtime.proofs.OnRefusals.{is_of_world, meaning-refusal}
use Rattle.velo_world.specs.World.{WorldState}
use Rattle.velo_worker.specs.declared.ending.Ending.{Ending}
use Rattle.velo_worker.specs.declared.ending.Ending.TheVariants as run
use Rattle.velo_worker.specs.declared.outcome.Outcome.{Outcome}
use Rattle.velo_worker.specs.declared.outcome.Outcome.TheVariants.{Done, Gated, Refused}
use Rattle.velo_worker.specs.declared.progress.Progress.{Progress}
use Rattle.velo_worker.specs.Causes.{HasCause, RefusedByGrowth, EndedWithCause, EndsByGrowth}
use Rattle.velo_worker.specs.Live.{lesser, met}
use Rattle.velo_worker.specs.Schedule.{ReplayState, ReplaysTo, Tries, TurnOf, TurnsOf, RoundsOf}

-- ---- of one refusal

pub on_err : {X E P : Type 0} (result : Result X E) → P → OnErr result P
on_err (Ok x) p = tt
on_err (Err e) p = p

of_world : (r : Refusal) → is_of_world r ≡ true → RefusedByGrowth r
of_world refusal.Memory is = absurd (false≢true is)
of_world refusal.RuntimeMemory is = absurd (false≢true is)
of_world _ is = tt

-- ---- of the ends of workers

pub of_met : (outcome : Outcome) (r : Refusal) → EndedWithCause outcome → met outcome ≡ Some r → HasCause r
of_met Done r cause is = cc
of_met Gated r cause is = cc
of_met (Refused refusal.Halted) r cause is = cc
of_met (Refused s) r cause is = let same : s ≡ r = cc in rw (← same) cause

pub of_lesser : (least : Option (ThreadId × Refusal)) (t : ThreadId) (r : Refusal) → IfSome least (λ found. HasCause found.1) → HasCause r → HasCause (lesser least t r).1
of_lesser None t r before now = now
of_lesser (Some found) t r before now = go (nat_le found.0.0 t.0)
  where
    go : (b : Bool) → HasCause (if b then found else (t, r)).1
    go true = before
    go false = now

-- ---- of a replay

of_tries : (w : WorldState) (t : ThreadId) (p : Progress) (ending : Ending) (w' : WorldState) (p' : Progress) → Tries w t p (Some ending) w' p' → EndsByGrowth ending
of_tries w t p run.Halted w' p' tries = tt
of_tries w t p (run.Refused u r) w' p' (own, not_halted, ends, same, after) = ⊎_elim
    (λ due. of_world r (meaning-refusal w t _ r due))
    (λ other. ⊎_elim (λ memory. rw memory.0 memory.1.1) (λ full. rw full.0 tt) other)
    ends.cause
of_tries w t p run.Done w' p' tries = tt
of_tries w t p run.Stuck w' p' tries = tt
of_tries w t p run.Gated w' p' tries = tt

of_turn : (c : ReplayState) (t : ThreadId) (ending : Ending) (c' : ReplayState) → TurnOf c t (Some ending) c' → EndsByGrowth ending
of_turn c t ending c' (inl (idle, none, same)) = cc
of_turn c t ending c' (inr turn) = of_tries c.world t turn.before ending c'.world turn.after turn.tries

of_turns : (ts : List ThreadId) (c : ReplayState) (ending : Ending) (c' : ReplayState) → TurnsOf c ts (Some ending) c' → EndsByGrowth ending
unfolding TurnsOf
of_turns [] c ending c' (none, same) = cc
of_turns (t ∷ ts) c ending c' (inl (told, is, turn)) = of_turn c t ending c' turn
of_turns (t ∷ ts) c ending c' (inr (mid, turn, rest)) = of_turns ts mid ending c' rest

of_rounds : (c : ReplayState) (ending : Ending) (c' : ReplayState) → RoundsOf c ending c' → EndsByGrowth ending
of_rounds _ _ _ (RoundsOf.all_idle c idle) = tt
of_rounds _ _ _ (RoundsOf.no_event c c' round same) = tt
of_rounds _ _ _ (RoundsOf.ended c c' ending round) = of_turns _ c ending c' round.turns
of_rounds _ _ _ (RoundsOf.goes_on c mid c' ending round more rest) = of_rounds mid ending c' rest

pub of_run : (c : ReplayState) (schedule : List ThreadId) (ending : Ending) (c' : ReplayState) → ReplaysTo c schedule ending c' → EndsByGrowth ending
of_run c schedule ending c' (inl turns) = of_turns schedule c ending c' turns
of_run c schedule ending c' (inr (mid, turns, rounds)) = of_rounds mid ending c' rounds
