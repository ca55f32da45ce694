-- What an explanation rests on.
use Rattle.std.proofs.Common.{◌≡◌, ◌*◌, ◌≤◌, arith}
use Rattle.std.specs.Prelude.{ℕ, List}
use Rattle.std.proofs.lemmas.Nat.{mul-le}
use Rattle.velo_events.specs.declared.config.Config.{Config}
use Rattle.velo_events.specs.declared.event.Event.{Event}
use Rattle.velo_events.specs.declared.limits.TheConstants.{MAX_NODES}
use Rattle.velo_filter.specs.Left.{Omitted}
use Rattle.velo_audit.specs.Audit.{IsFullAt}

-- with as many nodes as there may be at most, the graph of no log is full
pub never_full : (config : Config) (log : List Event) (left : Omitted) (place : ℕ) → config.nodes ≡ MAX_NODES → ¬ IsFullAt config log left place
never_full config log left place greatest full =
    let threads = config.bounds.threads in
    let squared : threads * threads ≤ 4096 = mul-le threads threads 64 64 config.few_threads config.few_threads in
    let few = full.finds_none.finds_none.few_nodes in
    omega (arith, squared, few, greatest)
