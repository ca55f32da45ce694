-- Why the next event of a log cannot happen where something is left out.
use Rattle.std.proofs.Common.{◌≡◌, ◌∙◌, ◌<◌, ◌≤◌, false, List, [], ◌∷◌, ◌++◌, length, None, arith, inl, inr, refl, sym}
use Rattle.velo_events.specs.declared.config.Config.{Config}
use Rattle.velo_events.specs.declared.event.Event.{Event}
use Rattle.velo_events.specs.WellFormed.{IsWellFormed}
use Rattle.velo_events.proofs.OnWellFormed.{IsWellFormed-before, IsWellFormed-last}
use Rattle.velo_traces.specs.Flaws.{flaw_of}
use Rattle.velo_traces.proofs.OnFlaws.{no_flaw-from_MayFollow}
use Rattle.velo_filter.specs.Left.{Omitted, is_left_out, rest_of}
use Rattle.velo_world.specs.Faults.{IsFaultAtEvent}
use Rattle.velo_world.specs.declared.log_replay.LogReplayFault.{LogReplayFault}
use Rattle.velo_world.specs.declared.log_replay.LogReplayFault.TheVariants.{Memory, Refused, WrongValue}
use Rattle.velo_watch.specs.Faults.{IsFaultOfRest, fault_at}

-- what keeps one that has no flaw from coming next after what is left: no node is free
module _ (omitted : Omitted) (config : Config) (log : List Event) (e : Event) (none : flaw_of config.bounds log e ≡ None) (short : length log < config.events)
    (few : length (rest_of omitted log) ≤ length log) (stays : is_left_out omitted (log ++ e ∷ []) (length log) ≡ false)
    (well : IsWellFormed config.bounds (rest_of omitted log ++ e ∷ [])) where
  abbrev rest : List Event
  rest = rest_of omitted log

  flawless : flaw_of config.bounds rest e ≡ None
  flawless = no_flaw-from_MayFollow config.bounds rest e (IsWellFormed-before config.bounds rest (e ∷ []) well) (IsWellFormed-last config.bounds rest e well)

  pub of_rest : (own : LogReplayFault) → IsFaultAtEvent config rest e own → IsFaultOfRest omitted config log e (fault_at (length log) own)
  of_rest (Refused p refusal) (at, inl flawed) = absurd (let both = sym flawless ∙ flawed in cc)
  of_rest (Refused p refusal) (at, inr (clear, inl full)) = absurd (let most = full.1 in omega (arith, most, few, short))
  of_rest (Refused p refusal) (at, inr (clear, inr full)) = (refl, inr (none, inr (full.0, short, record { stays = stays; finds_none = full.2 })))
  of_rest (WrongValue p) (at, flawed) = absurd (let both = sym flawless ∙ flawed in cc)
  of_rest Memory refused = refused
