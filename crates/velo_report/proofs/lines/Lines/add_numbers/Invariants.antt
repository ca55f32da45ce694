use Rattle.std.proofs.Common.{◌≡◌}
use Rattle.std.specs.Prelude.{decimal}
use Rattle.velo_report.specs.Lines.{Buffers}
use Rattle.velo_report.proofs.OnLines.{begun}
use Rattle.velo_report.proofs.lines.Lines.add_numbers.Given as goal

abbrev pub invariant-loop-number : goal.invariant-loop-number
invariant-loop-number g l =
    record {
      buffers : Buffers (g.S.Sink.contents l.fn.sink) (g.S.Sink.contents l.sink) l.fn.self l.self (begun decimal l.fn.first l.numbers l.number-index);
      failures : g.S.Sink.failures l.sink ≡ g.S.Sink.failures l.fn.sink;
    }
