-- Turns of threads that there are not pass.
use Rattle.std.proofs.Common.{◌≡◌, ◌∙◌, ℕ, List, [], ◌∷◌, ◌++◌, ◌+◌, ◌<◌, ◌≤◌, append_assoc, append-nil, length, map, take, get_or, Option, Some, None, refl, sym, subst, ap, arith, inl, inr, ⊎_elim}
use Rattle.std.specs.Prelude.{slice_get}
use Rattle.std.proofs.lemmas.List.{length-map, take_all, take_more}
use Rattle.std.proofs.lemmas.Option.{none-some, slice_get_within}
use Rattle.velo_events.specs.declared.config.Config.{Config}
use Rattle.velo_events.specs.declared.event.ThreadId.{ThreadId}
use Rattle.velo_workload.specs.Program.{Program}
use Rattle.velo_worker.specs.declared.ending.Ending.{Ending}
use Rattle.velo_worker.specs.Progress.{start_of}
use Rattle.velo_worker.specs.Schedule.{ReplayState, TurnOf, TurnsOf, ReplaysTo, start}
use Rattle.velo_worker.proofs.OnTurns.{Kept-turn}
use Rattle.velo_explore.specs.declared.goal.Goal.{Goal}
use Rattle.velo_explore.specs.Goals.{Reached}

-- its turn passes
passes : (c : ReplayState) (t : ThreadId) (stop : Option Ending) (c' : ReplayState) → length c.threads ≤ t.0 → TurnOf c t stop c' → (stop ≡ None) × (c' ≡ c)
passes c t stop c' beyond (inl (idle, none, same)) = (none, same)
passes c t stop c' beyond (inr turn) = absurd (let within = slice_get_within c.threads t.0 turn.before turn.there in omega (arith, within, beyond))

-- so it can be left out
left-out : (front rest : List ThreadId) (t : ThreadId) (c : ReplayState) (stop : Option Ending) (c' : ReplayState) → length c.threads ≤ t.0 → TurnsOf c (front ++ t ∷ rest) stop c' → TurnsOf c (front ++ rest) stop c'
unfolding TurnsOf
left-out [] rest t c stop c' beyond (inl (ending, is, turn)) = absurd (none-some ending (sym (passes c t stop c' beyond turn).0 ∙ is))
left-out [] rest t c stop c' beyond (inr (mid, turn, turns)) = subst (λ (d : ReplayState). TurnsOf d rest stop c') (passes c t None mid beyond turn).1 turns
left-out (u ∷ front) rest t c stop c' beyond (inl ended) = inl ended
left-out (u ∷ front) rest t c stop c' beyond (inr (mid, turn, turns)) =
    inr (mid, turn, left-out front rest t mid stop c' (let kept = (Kept-turn c u None mid turn).threads in omega (arith, kept, beyond)) turns)

-- the turns before the next place
one_more : (schedule : List ThreadId) (i : ℕ) (t d : ThreadId) (rest : List ThreadId) → i < length schedule → get_or schedule i d ≡ t → take (i + 1) schedule ++ rest ≡ take i schedule ++ t ∷ rest
one_more schedule i t d rest less is =
    ap (λ (l : List ThreadId). l ++ rest) (take_more schedule i d less ∙ ap (λ (x : ThreadId). take i schedule ++ x ∷ []) is) ∙ append_assoc (take i schedule) (t ∷ []) rest

-- what the turns lead to, the others lead to
abbrev pub Leads : Program → List ThreadId → List ThreadId → Type 0
Leads program turns others = (config : Config) (goal : Goal) → Reached program config goal turns → Reached program config goal others

-- the turns before a place, with all that may follow
abbrev pub LeadsBefore : Program → List ThreadId → ℕ → List ThreadId → Type 0
LeadsBefore program schedule i turns = (rest : List ThreadId) → Leads program (take i schedule ++ rest) (turns ++ rest)

module _ (program : Program) (count : length program.bodies ≡ program.bounds.threads) where
  stranger : (front rest : List ThreadId) (t : ThreadId) → program.bounds.threads ≤ t.0 → Leads program (front ++ t ∷ rest) (front ++ rest)
  stranger front rest t beyond config goal r =
      let run = r.replay in
      record {
        closed = r.closed;
        replay = record {
          ending = run.ending;
          replays = record { last = run.replays.last; runs = along run.replays.last run.ending run.replays.runs; world = run.replays.world };
          memory = run.memory;
          alarm = run.alarm;
          reaches = run.reaches;
        };
      }
    where
      outside : length (start program config).threads ≤ t.0
      outside = omega (arith, length-map program.bodies start_of, count, beyond)

      along : (last : ReplayState) (ending : Ending) → ReplaysTo (start program config) (front ++ t ∷ rest) ending last → ReplaysTo (start program config) (front ++ rest) ending last
      along last ending (inl turns) = inl (left-out front rest t (start program config) (Some ending) last outside turns)
      along last ending (inr (mid, turns, rounds)) = inr (mid, left-out front rest t (start program config) None mid outside turns, rounds)

  -- one more, of a thread that there is or is not
  pub before-kept : (schedule turns : List ThreadId) (i : ℕ) (t d : ThreadId) → i < length schedule → get_or schedule i d ≡ t → LeadsBefore program schedule i turns → LeadsBefore program schedule (i + 1) (turns ++ t ∷ [])
  before-kept schedule turns i t d less is before rest config goal r =
      subst (Reached program config goal) (sym (append_assoc turns (t ∷ []) rest)) (before (t ∷ rest) config goal (subst (Reached program config goal) (one_more schedule i t d rest less is) r))

  pub before-passed : (schedule turns : List ThreadId) (i : ℕ) (t d : ThreadId) → i < length schedule → get_or schedule i d ≡ t → program.bounds.threads ≤ t.0 → LeadsBefore program schedule i turns → LeadsBefore program schedule (i + 1) turns
  before-passed schedule turns i t d less is beyond before rest config goal r =
      stranger turns rest t beyond config goal (before (t ∷ rest) config goal (subst (Reached program config goal) (one_more schedule i t d rest less is) r))

  pub all-before : (schedule turns : List ThreadId) (i : ℕ) → length schedule ≤ i → LeadsBefore program schedule i turns → Leads program schedule turns
  all-before schedule turns i all before config goal r =
      subst (Reached program config goal) (append-nil turns)
      (before [] config goal (subst (Reached program config goal) (sym (append-nil (take i schedule) ∙ take_all i schedule all)) r))
