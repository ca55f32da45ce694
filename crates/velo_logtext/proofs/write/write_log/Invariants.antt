use Rattle.std.proofs.Common.{◌≡◌, true, ◌≤◌, ◌++◌, take}
use Rattle.velo_logtext.specs.Text.{header_line, event_lines, AreEventsIn}
use Rattle.velo_bytes.proofs.OnDevices.{WroteSome}
use Rattle.velo_logtext.specs.declared.write.TheConstants.{ROOM}
use Rattle.velo_logtext.proofs.write.write_log.Given as goal

abbrev pub invariant-loop-event : goal.invariant-loop-event
invariant-loop-event g l =
    let contents = g.S.Sink.contents in
    record {
      within : l.used ≤ ROOM;
      wrote : WroteSome (contents l.fn.sink) (contents l.sink) (take l.used l.buffer) (header_line (true, l.fn.bounds) ++ event_lines (take l.event-index l.event-items));
      fits : AreEventsIn true (take l.event-index l.event-items);
      failures : g.S.Sink.failures l.sink ≡ g.S.Sink.failures l.fn.sink;
    }
