use Rattle.std.proofs.Common.{◌≡◌, ◌-◌, length}
use Rattle.velo_events.specs.declared.limits.TheConstants.{MAX_EVENTS}
use Rattle.velo_logtext.specs.Reader.{HasGiven}
use Rattle.velo_logtext.proofs.read.read_log.Given as goal

abbrev pub invariant-loop-trace : goal.invariant-loop-trace
invariant-loop-trace g l =
    record {
      given : HasGiven (g.S.Source.remaining l.fn.source) l.trace.events l.reader (g.S.Source.remaining l.source);
      failures : g.S.Source.failures l.source ≡ g.S.Source.failures l.fn.source;
    }

abbrev pub decreases-loop-trace : goal.decreases-loop-trace
decreases-loop-trace g l = MAX_EVENTS - length l.trace.events
