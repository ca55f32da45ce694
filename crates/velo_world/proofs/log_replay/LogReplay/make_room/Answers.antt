use Rattle.std.proofs.Common.{refl, sym, ap, ◌∙◌, subst, inr}
use Rattle.velo_events.specs.WellFormed.{MayFollow}
use Rattle.std.proofs.lemmas.Result.{err_from_is_err_and}
use Rattle.velo_arena.specs.Slots.{limit_of}
use Rattle.velo_graph.specs.Nodes.{Nodes}
use Rattle.velo_tables.specs.LastAccesses.{HasRoomFor}
use Rattle.velo_traces.proofs.OnFlaws.{MayFollow-from_no_flaw}
use Rattle.velo_world.specs.NodeRoom.{HasSlot}
use Rattle.velo_world.proofs.OnNodeRoom.{HasSlot-reserved}
use Rattle.velo_world.proofs.OnLogReplays.{flaw-by, follows-by, on_ok-at, on_err-at}
use Rattle.velo_world.proofs.log_replay.LogReplay.make_room.Goals as goal

pub make_node_room-requires-clause-follows : goal.make_node_room-requires-clause-follows
make_node_room-requires-clause-follows c =
    let stands = c.requires.stands.entered in
    follows-by _ _ _ c.event-recorded.result.now stands.bounds (MayFollow-from_no_flaw _ _ c.event-recorded.result.now stands.heap.well_formed (c.in_ok-judge.ensures.flawless _ stands.heap))

pub returns-then-is_err-clause-stands : goal.returns-then-is_err-clause-stands
returns-then-is_err-clause-stands c =
    let stands = c.requires.stands.entered in
    record {
      entered = record { short = stands.short; bounds = stands.bounds; heap = stands.heap; book = stands.book; unborn = stands.unborn; shares = stands.shares };
      watched = c.make_node_room.ensures.stands;
    }

pub returns-then-is_err-clause-fault : goal.returns-then-is_err-clause-fault
returns-then-is_err-clause-fault c =
    let stands = c.requires.stands.entered in
    let none = c.in_ok-judge.ensures.flawless _ stands.heap in
    rw (← c.event-recorded.ensures) (
      refl,
      inr (
        flaw-by _ _ _ c.event-recorded.result.now stands.bounds none,
        inr (refl, c.in_ok-judge.ensures.short, on_err-at c.make_node_room.result (sym c.is_err.ensures.value ∙ c.if-is_err.true) c.make_node_room.ensures.full),
      ),
    )

pub returns-then-has_room_for-clause-stands : goal.returns-then-has_room_for-clause-stands
returns-then-has_room_for-clause-stands c =
    let stands = c.requires.stands.entered in
    record {
      entered = record { short = stands.short; bounds = stands.bounds; heap = stands.heap; book = stands.book; unborn = stands.unborn; shares = stands.shares };
      watched = c.make_node_room.ensures.stands;
    }

pub returns-then-has_room_for-clause-flawless : goal.returns-then-has_room_for-clause-flawless
returns-then-has_room_for-clause-flawless c =
    let stands = c.requires.stands.entered in
    rw (← c.event-recorded.ensures) (flaw-by _ _ _ c.event-recorded.result.now stands.bounds (c.in_ok-judge.ensures.flawless _ stands.heap))

pub returns-then-has_room_for-clause-slot : goal.returns-then-has_room_for-clause-slot
returns-then-has_room_for-clause-slot c =
    subst (HasSlot _ _) c.event-recorded.ensures (on_ok-at c.make_node_room.result (sym c.is_err.ensures.value ∙ c.if-is_err.false) c.make_node_room.ensures.slot)

pub returns-then-has_room_for-clause-room : goal.returns-then-has_room_for-clause-room
returns-then-has_room_for-clause-room c =
    let stands = c.requires.stands.entered in
    let follows = subst (MayFollow _ _) c.event-recorded.ensures (follows-by _ _ _ c.event-recorded.result.now stands.bounds (MayFollow-from_no_flaw _ _ c.event-recorded.result.now stands.heap.well_formed (c.in_ok-judge.ensures.flawless _ stands.heap))) in
    (c.has_room_for.ensures _ _ c.make_node_room.ensures.stands.stands follows).0 c.if-has_room_for.true

pub returns-in-Ok-clause-stands : goal.returns-in-Ok-clause-stands
returns-in-Ok-clause-stands c =
    let stands = c.requires.stands.entered in
    record {
      entered = record { short = stands.short; bounds = stands.bounds; heap = stands.heap; book = stands.book; unborn = stands.unborn; shares = stands.shares };
      watched = record {
        stands = c.reserve.ensures.same _ _ c.make_node_room.ensures.stands.stands;
        nodes = ap (λ (n : Nodes). limit_of n.slots) c.reserve.ensures.nodes ∙ c.make_node_room.ensures.stands.nodes;
      };
    }

pub returns-in-Err-clause-stands : goal.returns-in-Err-clause-stands
returns-in-Err-clause-stands c =
    let stands = c.requires.stands.entered in
    record {
      entered = record { short = stands.short; bounds = stands.bounds; heap = stands.heap; book = stands.book; unborn = stands.unborn; shares = stands.shares };
      watched = record {
        stands = c.reserve.ensures.same _ _ c.make_node_room.ensures.stands.stands;
        nodes = ap (λ (n : Nodes). limit_of n.slots) c.reserve.ensures.nodes ∙ c.make_node_room.ensures.stands.nodes;
      };
    }

pub returns-in-Ok-clause-flawless : goal.returns-in-Ok-clause-flawless
returns-in-Ok-clause-flawless c =
    let stands = c.requires.stands.entered in
    rw (← c.event-recorded.ensures) (flaw-by _ _ _ c.event-recorded.result.now stands.bounds (c.in_ok-judge.ensures.flawless _ stands.heap))

pub returns-in-Ok-clause-slot : goal.returns-in-Ok-clause-slot
returns-in-Ok-clause-slot c =
    HasSlot-reserved _ _ _ _ c.reserve.ensures.nodes c.reserve.ensures.entries
    (subst (HasSlot _ _) c.event-recorded.ensures (on_ok-at c.make_node_room.result (sym c.is_err.ensures.value ∙ c.if-is_err.false) c.make_node_room.ensures.slot))

pub returns-in-Ok-clause-room : goal.returns-in-Ok-clause-room
returns-in-Ok-clause-room c =
    let stands = c.requires.stands.entered in
    let follows = follows-by _ _ _ c.event-recorded.result.now stands.bounds (MayFollow-from_no_flaw _ _ c.event-recorded.result.now stands.heap.well_formed (c.in_ok-judge.ensures.flawless _ stands.heap)) in
    subst (HasRoomFor _) c.event-recorded.ensures (c.in-Ok.ensures.room _ _ c.make_node_room.ensures.stands.stands follows)

pub returns-in_err-judge-clause-fault : goal.returns-in_err-judge-clause-fault
returns-in_err-judge-clause-fault c =
    let failed = err_from_is_err_and c.from_residual.result c.from_residual.ensures.1 in
    rw (failed.1, failed.2, ← c.event-recorded.ensures) (c.in_err-judge.ensures.fault _ c.requires.stands.entered.heap refl)
