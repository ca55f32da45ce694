use Rattle.std.proofs.Common.{sym, subst}
use Rattle.std.specs.Prelude.{IsTrue}
use Rattle.velo_arena.specs.Slots.{Slots, bears}
use Rattle.velo_arena.proofs.OnSlots.{node_of_stamp, stamps-finish}
use Rattle.velo_arena.proofs.OnFree.{tracks-rewrite}
use Rattle.velo_arena.proofs.arena.Arena.finish.Goals as goal

pub invariant_of-self : goal.invariant_of-self
invariant_of-self c =
    let inner = c.self.inside in
    let borne = subst (λ (slots : Slots). IsTrue (bears slots c.args.step.slot c.args.step.stamp)) (sym c.self.view_is) c.requires in
    let node = node_of_stamp _ c.args.step.stamp borne in
    record {
      tracks = tracks-rewrite inner.nodes.items inner.free.items c.args.step.slot _ inner.extent node.0 _ node.1 c.self.invariant.tracks;
      stamps = stamps-finish _ c.args.step.slot c.args.step.stamp borne c.self.invariant.stamps;
    }
