use Rattle.std.proofs.Common.{List, subst}
use Rattle.std.specs.Prelude.{OnOk}
use Rattle.velo_events.specs.declared.event.Event.{Event}
use Rattle.velo_events.specs.WellFormed.{MayFollow}
use Rattle.velo_heap.specs.Contents.{bounds_of}
use Rattle.velo_world.specs.Analysis.{HasRoomForNext, HasSlotFor, IsAnalysisOf}
use Rattle.velo_world.proofs.analysis.Analysis.reserve_for.Goals as goal

pub returns-clause-room : goal.returns-clause-room
returns-clause-room c =
    let old = c.args.self.now in
    let new = c.grow_for.new.self in
    subst (λ e. OnOk c.grow_for.result ((trace : List Event) → IsAnalysisOf old trace → MayFollow (bounds_of old.heap) trace e → HasSlotFor old trace e → HasRoomForNext new trace e)) c.event.ensures c.grow_for.ensures.room
