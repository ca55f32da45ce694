-- A recorded event after the log of a world: it comes about, or it does not for a reason.
use Rattle.std.specs.Prelude.{◌≡◌, List, [], ◌∷◌, ◌++◌, Option, Result, Ok, Err}
use Rattle.velo_events.specs.declared.event.Event.{Event}
use Rattle.velo_events.specs.Meaning.{action_of}
use Rattle.velo_ledger.specs.Views.{Holding}
use Rattle.velo_world.specs.declared.analysis.Reply.{Reply}
use Rattle.velo_world.specs.declared.log_replay.LogReplayFault.{LogReplayFault}
use Rattle.velo_world.specs.World.{WorldState, ActsAt}
use Rattle.velo_world.specs.Faults.{IsFaultAtEvent}

-- its thread did its action, and the one event of it is the recorded one; or the event does not come next, for this reason, and
-- nothing changed
abbrev pub Replays : WorldState → List (Option Holding) → Event → Result Reply LogReplayFault → WorldState → List (Option Holding) → Type 0
Replays w places e (Ok reply) w' places' =
    ActsAt w places e.thread (action_of e.kind) reply w' places' × (w'.log ≡ w.log ++ e ∷ [])
Replays w places e (Err fault) w' places' =
    IsFaultAtEvent w.config w.log e fault × (w' ≡ w) × (places' ≡ places)
