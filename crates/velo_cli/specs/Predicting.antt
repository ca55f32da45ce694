-- What a search for predictions finds.
use Rattle.std.specs.Prelude.{◌≡◌, Bool, true, false, List}
use Rattle.velo_events.specs.declared.config.Bounds.{Bounds}
use Rattle.velo_events.specs.declared.event.Event.{Event}
use Rattle.velo_filter.specs.Left.{Omitted}
use Rattle.velo_delays.specs.Anew.{IsRenewed}
use Rattle.velo_delays.specs.Deadlock.{AreDeadlocksIn}
use Rattle.velo_delays.specs.Found.{AreFoundIn}
use Rattle.velo_finding.specs.declared.findings.PredictedFindings.{PredictedFindings}

-- The log that is searched: as read, where its values are those of the program; and else with values
-- by which two reads have the same one where they read from the same write.
abbrev pub IsSearched : Bool → List Event → List Event → Type 0
IsSearched true log searched = searched ≡ log
IsSearched false log searched = IsRenewed log searched

-- What the search found are predictions of this log without what is left out. It predicts the trace of
-- each (`PredictsCycle` of `velo_predict`), and the reads told are those that have another value than
-- in the log. Each event of it that is one of the log is told with the position there
-- (`AreSourcesAsRead` of `velo_delays`). That there are no other predictions is not claimed.
pub record ArePredictionsOf (values : Bool) (bounds : Bounds) (log : List Event) (omitted : Omitted)
    (findings : PredictedFindings) : Type 0 where
  pub searched : List Event
  pub is_searched : IsSearched values log searched
  -- The trace has a cycle, and the blocks told are those to blame at its first alarm. What is left out
  -- stays so, and maybe the begins and ends of labels that those before it blame. Each blames a label
  -- that is not left out and that none before it blames.
  pub cycles : AreFoundIn bounds searched omitted findings.cycles.items
  -- After the trace threads wait in a circle (`IsDeadlock`), to do the events that are told. Each has a
  -- lock that is waited for in none before it.
  pub deadlocks : AreDeadlocksIn bounds searched omitted findings.deadlocks.items
