use Rattle.std.proofs.Common.{arith}
use Rattle.velo_arena.proofs.OnFree.{counts_down-push, counts_down-none}
use Rattle.velo_arena.proofs.arena.slots_below.Goals as goal

pub push_reserved-requires : goal.push_reserved-requires
push_reserved-requires c = omega (arith, c.loop-taken.invariant.0.length_is, c.loop-taken.slots.ok.0, c.loop-taken.invariant.1)

pub loop-taken-init : goal.loop-taken-init
loop-taken-init c = (rw c.in_ok-slots.ensures.items (counts_down-none c.args.limit), omega (arith, c.in_ok-slots.ensures.exact))

pub loop-taken-preserved : goal.loop-taken-preserved
loop-taken-preserved c =
    (rw c.push_reserved.ensures.items (counts_down-push c.loop-taken.slots.items c.args.limit c.loop-taken.taken (omega arith) c.loop-taken.invariant.0), rw c.push_reserved.ensures.capacity c.loop-taken.invariant.1)
