use Rattle.std.proofs.Common.{◌≡◌, take}
use Rattle.std.specs.List.{flat_map}
use Rattle.velo_report.specs.Alarm.{blame_text}
use Rattle.velo_report.specs.Lines.{Buffers}
use Rattle.velo_report.proofs.alarm.add_all_blamed.Given as goal

abbrev pub invariant-loop-block : goal.invariant-loop-block
invariant-loop-block g l =
    record {
      buffers : Buffers (g.S.Sink.contents l.fn.sink) (g.S.Sink.contents l.sink) l.fn.lines l.lines (flat_map blame_text (take l.block-index l.blamed));
      failures : g.S.Sink.failures l.sink ≡ g.S.Sink.failures l.fn.sink;
    }
