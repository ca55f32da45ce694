use Rattle.std.proofs.Common.{[], ◌∷◌, ◌++◌, take, sym, ap, ◌∙◌, subst, rules}
use Rattle.velo_heap.specs.Contents.{bounds_of, IsHeapOf}
use Rattle.velo_world.proofs.OnAnalyses.{IsAnalysisOf-applied}
use Rattle.velo_world.proofs.analysis.Analysis.take_in.Goals as goal

pub returns-clause-follows : goal.returns-clause-follows
returns-clause-follows c =
    let same = c.watch.ensures.heap in
    let past = take c.args.position c.args.events.now in
    let heap = subst (λ e. IsHeapOf c.apply.new.self (past ++ e ∷ [])) c.event.ensures (c.apply.ensures.next past (subst (λ h. IsHeapOf h past) (sym same) c.requires.next.stands.heap)) in
    IsAnalysisOf-applied c.watch.new.self c.apply.new.self (bounds_of c.args.self.now.heap) _ heap (c.apply.ensures.bounds ∙ ap bounds_of same) c.watch.ensures.watched

pub watch-requires-clause-next : goal.watch-requires-clause-next
watch-requires-clause-next c = search rules

pub watch-requires-clause-room : goal.watch-requires-clause-room
watch-requires-clause-room c = search rules
