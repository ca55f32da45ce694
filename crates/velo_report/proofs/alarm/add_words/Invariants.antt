use Rattle.std.proofs.Common.{◌≡◌, take}
use Rattle.velo_report.specs.Lines.{word_text, Buffers}
use Rattle.velo_report.proofs.OnLines.{spaced_words}
use Rattle.velo_report.proofs.alarm.add_words.Given as goal

abbrev pub invariant-loop-word : goal.invariant-loop-word
invariant-loop-word g l =
    record {
      buffers : Buffers (g.S.Sink.contents l.fn.sink) (g.S.Sink.contents l.sink) l.fn.lines l.lines (spaced_words word_text (take l.word-index l.words));
      failures : g.S.Sink.failures l.sink ≡ g.S.Sink.failures l.fn.sink;
    }
