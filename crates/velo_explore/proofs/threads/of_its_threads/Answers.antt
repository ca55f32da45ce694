use Rattle.std.proofs.Common.{◌≡◌, ◌∙◌, ◌+◌, ◌<◌, ◌≤◌, ◌∷◌, ◌++◌, All, List, [], ap, arith, get_or, length, length-append, refl, subst, sym}
use Rattle.std.specs.Global.{Vec}
use Rattle.std.proofs.lemmas.List.Elements.{All-push}
use Rattle.velo_events.specs.declared.config.Bounds.{Bounds}
use Rattle.velo_events.specs.declared.event.ThreadId.{ThreadId}
use Rattle.velo_events.specs.declared.limits.TheConstants.{MAX_THREADS}
use Rattle.velo_explore.proofs.OnStrangers.{LeadsBefore, all-before, before-kept, before-passed}
use Rattle.velo_explore.proofs.threads.of_its_threads.Goals as goal
use Rattle.velo_explore.proofs.threads.of_its_threads.Goals.{then-turn-threads+in_ok-reserve, else-turn-threads}

abbrev no_thread : ThreadId
no_thread = record { 0 = 0 }

pub loop-turn-preserved : goal.loop-turn-preserved
loop-turn-preserved c =
    let program = c.args.workload.now in
    let s = c.args.schedule.now in
    let l = c.loop-turn in
    let turn = get_or s l.turn-index no_thread in
    let bounds = ap (λ (b : Bounds). b.threads) c.bounds-threads.ensures.bounds in
    let count = c.bounds-threads.ensures.bodies ∙ bounds in
    elim c.if-turn-threads.branch [
      | then-turn-threads+in_ok-reserve w ↦
          (let items : c.if-turn-threads.turns.items ≡ l.turns.items ++ turn ∷ [] =
          ap (λ (v : Vec ThreadId). v.items) w.turns-is ∙ (w.push_reserved.ensures.items ∙ ap (λ (ts : List ThreadId). ts ++ turn ∷ []) w.reserve.ensures.items) in
          record {
            shows =
                subst (LeadsBefore program s (l.turn-index + 1)) (sym items)
                (before-kept program count s l.turns.items l.turn-index turn no_thread c.loop-turn-test.true refl l.invariant.shows);
            threads =
                subst (All (λ (t : ThreadId). t.0 < MAX_THREADS)) (sym items)
                (All-push (λ (t : ThreadId). t.0 < MAX_THREADS) l.turns.items turn l.invariant.threads (omega (arith, w.if-turn-threads.true, c.bounds-threads.ensures.few_threads)));
            fewer = omega (arith, ap length items, length-append l.turns.items (turn ∷ []), l.invariant.fewer);
          })
      | else-turn-threads w ↦
          record {
            shows =
                subst (λ (v : Vec ThreadId). LeadsBefore program s (l.turn-index + 1) v.items) (sym w.turns-is)
                (before-passed program count s l.turns.items l.turn-index turn no_thread c.loop-turn-test.true refl (omega (arith, w.if-turn-threads.false, bounds)) l.invariant.shows);
            threads = subst (λ (v : Vec ThreadId). All (λ (t : ThreadId). t.0 < MAX_THREADS) v.items) (sym w.turns-is) l.invariant.threads;
            fewer = omega (arith, ap (λ (v : Vec ThreadId). length v.items) w.turns-is, l.invariant.fewer);
          }
    ]

pub returns-clause-shows : goal.returns-clause-shows
returns-clause-shows c = λ config goal shows.
    all-before c.args.workload.now (c.bounds-threads.ensures.bodies ∙ ap (λ (b : Bounds). b.threads) c.bounds-threads.ensures.bounds) c.args.schedule.now c.loop-turn.turns.items
    c.loop-turn.turn-index (omega (arith, c.loop-turn-test.false)) c.loop-turn.invariant.shows config goal shows
