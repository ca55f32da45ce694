use Rattle.std.proofs.Common.{◌≡◌}
use Rattle.velo_report.specs.Lines.{Buffers, word_text}
use Rattle.velo_report.proofs.OnLines.{begun}
use Rattle.velo_report.proofs.lines.Lines.add_line.Given as goal

abbrev pub invariant-loop-word : goal.invariant-loop-word
invariant-loop-word g l =
    record {
      buffers : Buffers (g.S.Sink.contents l.fn.sink) (g.S.Sink.contents l.sink) l.fn.self l.self (begun word_text l.fn.first l.others l.word-index);
      failures : g.S.Sink.failures l.sink ≡ g.S.Sink.failures l.fn.sink;
    }
