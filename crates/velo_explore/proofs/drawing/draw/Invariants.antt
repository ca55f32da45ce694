use Rattle.std.proofs.Common.{◌≡◌}
use Rattle.velo_explore.specs.Drawing.{behind_words, drawn, stream}
use Rattle.velo_explore.proofs.drawing.draw.Given as goal

abbrev pub invariant-loop : goal.invariant-loop
invariant-loop l = record {
  turns : l.turns.items ≡ drawn l.fn.threads l.counter (stream l.fn.random);
  rest : stream l.random ≡ behind_words l.counter (stream l.fn.random);
}
