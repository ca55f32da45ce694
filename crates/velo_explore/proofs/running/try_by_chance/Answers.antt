use Rattle.std.proofs.Common.{◌≡◌, ◌∙◌, ◌+◌, ℕ, List, ap, arith, refl, subst, sym}
use Rattle.velo_events.specs.declared.config.Bounds.{Bounds}
use Rattle.velo_events.specs.declared.event.ThreadId.{ThreadId}
use Rattle.velo_explore.specs.Drawing.{all_drawn, drawn, stream, stream_of_seed}
use Rattle.velo_explore.specs.Tallies.{IsTriedBy}
use Rattle.velo_explore.proofs.OnDrawing.{behind-no_runs, behind-runs, none_drawn, one_more_drawn}
use Rattle.velo_explore.proofs.OnRuns.{IsTriedBy-ordered, are-shown}
use Rattle.velo_explore.proofs.running.try_by_chance.Goals as goal

pub loop-init : goal.loop-init
loop-init c = record {
  tried =
      subst (λ (s : List (List ThreadId)). IsTriedBy c.args.workload.now c.args.config s c.no_runs-tally.result) (sym (none_drawn _ _ _))
      (c.no_runs-tally.ensures.tried c.args.workload.now c.args.config);
  runs = c.no_runs-tally.ensures.runs;
  rest = ap stream c.seed_from_u64-random.ensures ∙ sym (behind-no_runs c.turns_for-turns.result (stream_of_seed c.args.seed));
}

pub loop-preserved : goal.loop-preserved
loop-preserved c =
    record {
      tried =
          subst (λ (s : List (List ThreadId)). IsTriedBy c.args.workload.now c.args.config s c.in_ok-tally.tally)
          (one_more_drawn c.loop.counter c.args.workload.now.bounds.threads c.turns_for-turns.result (stream_of_seed c.args.seed) _ c.deref.result.now c.loop.invariant.rest
          (c.deref.ensures.value ∙ (c.in_ok-schedule.ensures.turns ∙ ap (λ (b : Bounds). drawn b.threads c.turns_for-turns.result (stream c.loop.random)) c.bounds.ensures.bounds)))
          (c.in_ok-tally.ensures.tried _ c.loop.invariant.tried);
      runs = c.in_ok-tally.ensures.runs ∙ ap (λ n. n + 1) c.loop.invariant.runs;
      rest = behind-runs c.loop.counter c.turns_for-turns.result (stream_of_seed c.args.seed) _ _ c.loop.invariant.rest c.in_ok-schedule.ensures.rest;
    }

pub returns-clause-tried : goal.returns-clause-tried
returns-clause-tried c =
    let all : c.loop.counter ≡ c.args.runs = omega (arith, c.loop-test.false, c.loop.auto.counter-end) in
    let done = record c.loop.tally { blamed = c.put_in_order.new.blamed } in
    let threads = c.args.workload.now.bounds.threads in
    subst (λ (n : ℕ). IsTriedBy c.args.workload.now c.args.config (all_drawn c.args.runs threads n (stream_of_seed c.args.seed)) done) c.turns_for-turns.ensures
    (subst (λ (n : ℕ). IsTriedBy c.args.workload.now c.args.config (all_drawn n threads c.turns_for-turns.result (stream_of_seed c.args.seed)) done) all
    (IsTriedBy-ordered c.args.workload.now c.args.config _ c.loop.tally done refl c.put_in_order.ensures.moved c.loop.invariant.tried))

pub returns-clause-shows : goal.returns-clause-shows
returns-clause-shows c = λ fault. are-shown c.args.workload.now c.args.config _ c.loop.tally c.loop.invariant.tried fault
