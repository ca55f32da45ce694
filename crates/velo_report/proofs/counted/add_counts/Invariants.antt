use Rattle.std.proofs.Common.{◌≡◌, List}
use Rattle.velo_events.specs.declared.event.Event.{Event}
use Rattle.velo_report.specs.Counted.{AreEventCountsOf}
use Rattle.velo_report.specs.Lines.{Buffers}
use Rattle.velo_report.specs.Report.{thread_lines}
use Rattle.velo_report.proofs.counted.add_counts.Given as goal

abbrev pub invariant-loop-thread : goal.invariant-loop-thread
invariant-loop-thread g l =
    record {
      buffers : (log : List Event) → AreEventCountsOf log l.counts → Buffers (g.S.Sink.contents l.fn.sink) (g.S.Sink.contents l.sink) l.fn.lines l.lines (thread_lines l.names log l.thread);
      failures : g.S.Sink.failures l.sink ≡ g.S.Sink.failures l.fn.sink;
    }
