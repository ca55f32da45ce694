-- A run on its way, and what an action does to it. Private contracts cite these words.
use Rattle.std.specs.Prelude.{◌≡◌, ◌≤◌, ◌⊎◌, ◌++◌, ◌∷◌, ◌&&◌, [], length, Result, Ok, Err}
use Rattle.velo_events.specs.declared.event.Action.{Action}
use Rattle.velo_events.specs.declared.event.Event.{Event}
use Rattle.velo_events.specs.declared.event.ThreadId.{ThreadId}
use Rattle.velo_events.specs.declared.refusal.Refusal.{Refusal}
use Rattle.velo_events.specs.declared.refusal.Refusal.TheVariants.{GraphFull, Memory}
use Rattle.velo_events.specs.Refusals.{GrowthRefused}
use Rattle.velo_arena.specs.Slots.{limit_of}
use Rattle.velo_heap.specs.Contents.{bounds_of}
use Rattle.velo_world.specs.declared.analysis.Reply.{Reply}
use Rattle.velo_world.specs.declared.logged_run.LoggedRun.{LoggedRun}
use Rattle.velo_world.specs.World.{WorldState, meaning, FindsNoNode, Replies, Refuses}
use Rattle.velo_world.specs.Analysis.{IsAnalysisOf}

abbrev pub logged_state : LoggedRun → WorldState
logged_state c = record { config = c.config; halted = c.halted; log = c.log.events }

-- the log is within its limit, the run within its bounds, and heap, monitor, clocks and alarm follow from the log
pub record FollowsFromItsLog (c : LoggedRun) : Type 0 where
  pub short : length c.log.events ≤ c.config.events
  pub bounds : bounds_of c.analysis.heap ≡ c.config.bounds
  pub nodes : limit_of c.analysis.monitor.nodes.slots ≡ c.config.nodes
  pub analysis : IsAnalysisOf c.analysis c.log.events

-- a growth for the event was refused, or it finds no node
abbrev pub FindsNoRoom : WorldState → Event → Refusal → Type 0
FindsNoRoom w e refusal = ((refusal ≡ Memory) × GrowthRefused) ⊎ ((refusal ≡ GraphFull) × FindsNoNode w.config.bounds.threads w.log e w.config.nodes)

-- the event that is due was added to the log, and the reply is the one to it
pub record AddsToLog (w : WorldState) (t : ThreadId) (action : Action) (e : Event) (reply : Reply) (w' : WorldState) : Type 0 where
  pub due : meaning w t action ≡ Ok e
  pub config : w'.config ≡ w.config
  pub log : w'.log ≡ w.log ++ e ∷ []
  pub halted : w'.halted ≡ (w.config.stop && reply.alarmed)
  pub replies : Replies w.log e reply

-- an action of the thread: the one event that it is, or a refusal
abbrev pub Performs : WorldState → ThreadId → Action → Result (Event × Reply) Refusal → WorldState → Type 0
Performs w t action (Ok done) w' = AddsToLog w t action done.0 done.1 w'
Performs w t action (Err refusal) w' = Refuses w t (meaning w t action) refusal w' t
