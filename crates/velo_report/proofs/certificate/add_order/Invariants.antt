use Rattle.std.proofs.Common.{◌≡◌, ◌-◌, ◌<◌, length, take}
use Rattle.std.specs.List.{flat_map}
use Rattle.std.specs.Prelude.{filter}
use Rattle.velo_report.specs.Certificate.{is_first, serial_line}
use Rattle.velo_report.specs.Lines.{Buffers}
use Rattle.velo_report.specs.Runs.{IsStart}
use Rattle.velo_report.proofs.certificate.add_order.Given as goal

abbrev pub invariant-loop-from : goal.invariant-loop-from
invariant-loop-from g l =
    record {
      buffers : Buffers (g.S.Sink.contents l.fn.sink) (g.S.Sink.contents l.sink) l.fn.lines l.lines (flat_map (serial_line l.events) (filter (is_first l.events) (take l.from l.order)));
      failures : g.S.Sink.failures l.sink ≡ g.S.Sink.failures l.fn.sink;
      start : l.from < length l.order → IsStart l.events l.order l.from;
    }

abbrev pub decreases-loop-from : goal.decreases-loop-from
decreases-loop-from g l = length l.order - l.from
