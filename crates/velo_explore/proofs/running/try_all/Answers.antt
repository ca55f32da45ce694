use Rattle.std.proofs.Common.{◌∙◌, ◌+◌, ◌++◌, ◌∷◌, [], List, ap, arith, map, refl, subst, sym, take}
use Rattle.std.proofs.lemmas.List.{map_more, take_all}
use Rattle.std.specs.Global.{Vec}
use Rattle.velo_events.specs.declared.event.ThreadId.{ThreadId}
use Rattle.velo_explore.specs.Tallies.{IsTriedBy}
use Rattle.velo_explore.proofs.OnRuns.{IsTriedBy-ordered}
use Rattle.velo_explore.proofs.running.try_all.Goals as goal

pub returns-clause-tried : goal.returns-clause-tried
returns-clause-tried c =
    let l = c.loop-place in
    subst (λ (s : List (Vec ThreadId)). IsTriedBy c.args.workload.now c.args.config (map (λ schedule. schedule.items) s) (record l.tally { blamed = c.put_in_order.new.blamed }))
    (take_all l.place c.args.schedules.now (omega (arith, c.loop-place-test.false)))
    (IsTriedBy-ordered c.args.workload.now c.args.config _ l.tally (record l.tally { blamed = c.put_in_order.new.blamed }) refl c.put_in_order.ensures.moved l.invariant.tried)

pub loop-place-preserved : goal.loop-place-preserved
loop-place-preserved c =
    let l = c.loop-place in
    let of = λ (schedule : Vec ThreadId). schedule.items in
    let schedules = c.args.schedules.now in
    let here = c.index-schedules-place in
    let more =
    map_more of schedules l.place here.result (omega (arith, c.loop-place-test.true))
    ∙ ap (λ (s : Vec ThreadId). map of (take l.place schedules) ++ of s ∷ []) (sym here.is) in
    record {
      tried =
          subst (λ (s : List (List ThreadId)). IsTriedBy c.args.workload.now c.args.config s c.in_ok-tally.tally)
          (ap (λ (turns : List ThreadId). map of (take l.place schedules) ++ turns ∷ []) c.deref.ensures.value ∙ sym more)
          (c.in_ok-tally.ensures.tried (map of (take l.place schedules)) l.invariant.tried);
      runs = c.in_ok-tally.ensures.runs ∙ ap (λ n. n + 1) l.invariant.runs;
    }
