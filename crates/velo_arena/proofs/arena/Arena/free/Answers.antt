use Rattle.std.proofs.Common.{sym, subst}
use Rattle.std.specs.Prelude.{IsTrue}
use Rattle.velo_arena.specs.Slots.{Slots, is_used}
use Rattle.velo_arena.proofs.OnSlots.{node_of_used, stamps-free}
use Rattle.velo_arena.proofs.OnFree.{tracks-free}
use Rattle.velo_arena.proofs.arena.Arena.free.Goals as goal

pub invariant_of-self : goal.invariant_of-self
invariant_of-self c =
    let inner = c.self.inside in
    let used = subst (λ (slots : Slots). IsTrue (is_used slots c.args.slot)) (sym c.self.view_is) c.requires in
    let node = node_of_used _ used in
    record {
      tracks = rw (c.push_reserved.ensures.items, c.push_reserved.ensures.capacity) (tracks-free inner.nodes.items inner.free.items c.args.slot _ inner.extent node.0 node.1 c.self.invariant.tracks);
      stamps = stamps-free _ c.args.slot c.self.invariant.stamps;
    }
