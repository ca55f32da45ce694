use Rattle.std.proofs.Common.{◌≡◌, ◌+◌, ◌≤◌, ◌++◌, length}
use Rattle.velo_events.specs.declared.limits.TheConstants.{MAX_EVENTS}
use Rattle.velo_logtext.specs.Text.{AreEventsIn, event_lines}
use Rattle.velo_logtext.proofs.reader.append_lines.Given as goal

abbrev pub invariant-loop-rest : goal.invariant-loop-rest
invariant-loop-rest l =
    record {
      stream : event_lines l.trace.events ++ l.rest ≡ event_lines l.fn.trace.events ++ l.bytes;
      fit : AreEventsIn l.shares l.fn.trace.events → AreEventsIn l.shares l.trace.events;
      count : l.given + length l.fn.trace.events ≡ l.fn.given + length l.trace.events;
      few : l.given ≤ MAX_EVENTS;
      grows : length l.fn.trace.events ≤ length l.trace.events;
      shorter : length l.rest ≤ length l.bytes;
    }

abbrev pub decreases-loop-rest : goal.decreases-loop-rest
decreases-loop-rest l = length l.rest
