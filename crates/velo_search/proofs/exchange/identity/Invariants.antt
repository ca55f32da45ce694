use Rattle.std.proofs.Common.{◌≡◌, ℕ, length}
use Rattle.velo_search.specs.Exchanges.{number_in}
use Rattle.velo_search.proofs.exchange.identity.Given as goal

abbrev pub invariant-loop-number : goal.invariant-loop-number
invariant-loop-number l = record {
  count : length l.list.items ≡ l.number;
  each : (x : ℕ) → number_in l.list.items x ≡ x;
}
