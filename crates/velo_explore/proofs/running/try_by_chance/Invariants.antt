use Rattle.std.proofs.Common.{◌≡◌, ◌*◌}
use Rattle.velo_explore.specs.Drawing.{all_drawn, behind_words, stream, stream_of_seed}
use Rattle.velo_explore.specs.Tallies.{IsTriedBy}
use Rattle.velo_explore.proofs.running.try_by_chance.Given as goal

abbrev pub invariant-loop : goal.invariant-loop
invariant-loop l = record {
  tried : IsTriedBy l.fn.workload l.fn.config (all_drawn l.counter l.fn.workload.bounds.threads l.turns (stream_of_seed l.fn.seed)) l.tally;
  runs : l.tally.runs ≡ l.counter;
  rest : stream l.random ≡ behind_words (l.counter * l.turns) (stream_of_seed l.fn.seed);
}
