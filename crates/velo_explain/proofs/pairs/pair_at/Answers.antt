use Rattle.std.proofs.Common.{◌≡◌, ◌≤◌, ◌<◌, ℕ, List, length, Option, Some, None, sym, subst}
use Rattle.std.specs.Prelude.{IfSome}
use Rattle.velo_events.specs.declared.event.Event.{Event}
use Rattle.velo_certify.specs.declared.edges.EdgeEvents.{EdgeEvents}
use Rattle.velo_explain.specs.Latest.{IsWithinLog}
use Rattle.velo_explain.proofs.OnLatest.{latest_for-le}
use Rattle.velo_explain.proofs.pairs.pair_at.Goals as goal

within_log : (log : List Event) (at : ℕ) (pair : Option EdgeEvents) → at < length log → IfSome pair (λ p. (p.from < p.to) × (p.to ≡ at)) → IfSome pair (IsWithinLog log)
within_log log at None within is = is
within_log log at (Some p) within is = record {
  in_order = is.0;
  in_log = subst (λ k. k < length log) (sym is.1) within;
}

pub returns-clause-within : goal.returns-clause-within
returns-clause-within c from are =
    within_log c.args.events.now c.args.at c.pair_behind.result c.requires.within
    (c.pair_behind.ensures.in_order
    (subst (λ k. k ≤ c.args.at) (sym (c.latest_for.ensures c.args.events.now from c.args.at are))
    (latest_for-le c.args.events.now from c.args.at _)))
