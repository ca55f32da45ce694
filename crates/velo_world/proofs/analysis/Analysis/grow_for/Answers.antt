use Rattle.std.proofs.Common.{ap, refl}
use Rattle.std.specs.Prelude.{is_some}
use Rattle.velo_heap.specs.Contents.{bounds_of}
use Rattle.velo_world.proofs.OnAnalyses.{OnOk-then, monitor-quiet, room-reserved, threads-next, IsAnalysisOf-reserved}
use Rattle.velo_world.proofs.analysis.Analysis.grow_for.Goals as goal

pub returns-in_err-reserve_for-clause-follows : goal.returns-in_err-reserve_for-clause-follows
returns-in_err-reserve_for-clause-follows c = λ trace stands.
    IsAnalysisOf-reserved c.args.self.now c.args.self.now.monitor c.reserve_for.new.self trace (λ bounds past is. is) c.reserve_for.ensures.same c.reserve_for.ensures.bounds stands

pub returns-clause-follows : goal.returns-clause-follows
returns-clause-follows c = λ trace stands.
    IsAnalysisOf-reserved c.args.self.now c.reserve.new.self c.reserve_for.new.self trace c.reserve.ensures.same c.reserve_for.ensures.same c.reserve_for.ensures.bounds stands

pub returns-clause-room : goal.returns-clause-room
returns-clause-room c =
    let old = c.args.self.now in
    let e = c.args.event.now in
    OnOk-then c.reserve.result _ _ c.reserve.ensures.room (λ made trace stands follows slot.
    room-reserved old _ trace e refl c.reserve.ensures.nodes c.reserve.ensures.entries slot (λ none. made (bounds_of old.heap) trace (monitor-quiet old _ trace (ap is_some none) stands.watched) follows) (c.in_ok-reserve_for.ensures.ok (threads-next old trace e stands follows)))
