use Rattle.std.proofs.Common.{◌≡◌, ℕ, ◌<◌, ◌≤◌, List, ⊎_elim, sym, ap, ◌∙◌, subst, arith}
use Rattle.std.specs.Prelude.{◌||◌, Some, IsFalse}
use Rattle.velo_events.specs.declared.config.Bounds.{Bounds}
use Rattle.velo_events.specs.declared.event.Event.{Event}
use Rattle.velo_events.specs.declared.thread_set.ThreadSet.{ThreadSet}
use Rattle.velo_events.specs.Heap.{status_in}
use Rattle.velo_events.specs.ThreadSets.{has_thread}
use Rattle.velo_heap.specs.Contents.{bounds_of}
use Rattle.velo_runtime.specs.declared.wait.Wanted.TheVariants.{Lock, LockShared, Thread}
use Rattle.velo_runtime.specs.Leads.{AreLeads, set_of}
use Rattle.velo_runtime.specs.Rooms.{RoomState}
use Rattle.velo_runtime.specs.Waits.{has_exited}
use Rattle.velo_runtime.proofs.OnLeads.{AreLeads-lock, AreLeads-lock_shared, AreLeads-thread, holder_few}
use Rattle.velo_runtime.proofs.room.Room.leads.Goals as goal

pub set_of-requires : goal.set_of-requires
set_of-requires c =
    let stands = c.heap-heap.ensures.stands in
    let few : (bounds_of c.heap-heap.result.now).threads ≤ 64 = subst (λ (b : Bounds). b.threads ≤ 64) (sym c.heap-heap.ensures.bounds) c.self.inside.world.config.few_threads in
    holder_few (bounds_of c.heap-heap.result.now) c.self.inside.world.log c.in-Lock.m.0 c.holder.result stands.well_formed few (c.holder.ensures c.self.inside.world.log stands)

pub set_of-requires-in-LockShared : goal.set_of-requires-in-LockShared
set_of-requires-in-LockShared c =
    let stands = c.heap-heap.ensures.stands in
    let few : (bounds_of c.heap-heap.result.now).threads ≤ 64 = subst (λ (b : Bounds). b.threads ≤ 64) (sym c.heap-heap.ensures.bounds) c.self.inside.world.config.few_threads in
    holder_few (bounds_of c.heap-heap.result.now) c.self.inside.world.log c.in-LockShared.m.0 c.holder-in-LockShared.result stands.well_formed few (c.holder-in-LockShared.ensures c.self.inside.world.log stands)

pub returns-in-Lock : goal.returns-in-Lock
returns-in-Lock c =
    let log = c.self.inside.world.log in
    let stands = c.heap-heap.ensures.stands in
    let few : (bounds_of c.heap-heap.result.now).threads ≤ 64 = subst (λ (b : Bounds). b.threads ≤ 64) (sym c.heap-heap.ensures.bounds) c.self.inside.world.config.few_threads in
    let same = ap (λ (room : RoomState). room.world.log) c.self.view_is in
    let members : (u : ℕ) → has_thread c.union.result u ≡ (has_thread c.sharers.result u || has_thread (set_of c.holder.result) u) =
    λ u. c.union.ensures u ∙ ap (λ (s : ThreadSet). has_thread c.sharers.result u || has_thread s u) c.set_of.ensures in
    rw c.in-Lock.is
    (subst (λ (events : List Event). AreLeads events (Lock c.in-Lock.m) c.union.result) same
    (AreLeads-lock (bounds_of c.heap-heap.result.now) log c.in-Lock.m c.holder.result stands.well_formed few (c.holder.ensures log stands) c.sharers.result c.union.result (c.sharers.ensures log stands) members))

pub returns-in-LockShared : goal.returns-in-LockShared
returns-in-LockShared c =
    let log = c.self.inside.world.log in
    let stands = c.heap-heap.ensures.stands in
    let few : (bounds_of c.heap-heap.result.now).threads ≤ 64 = subst (λ (b : Bounds). b.threads ≤ 64) (sym c.heap-heap.ensures.bounds) c.self.inside.world.config.few_threads in
    let same = ap (λ (room : RoomState). room.world.log) c.self.view_is in
    rw (c.in-LockShared.is, c.set_of-in-LockShared.ensures)
    (subst (λ (events : List Event). AreLeads events (LockShared c.in-LockShared.m) (set_of c.holder-in-LockShared.result)) same
    (AreLeads-lock_shared (bounds_of c.heap-heap.result.now) log c.in-LockShared.m c.holder-in-LockShared.result stands.well_formed few (c.holder-in-LockShared.ensures log stands)))

pub returns-in-Unborn : goal.returns-in-Unborn
returns-in-Unborn c =
    let log = c.self.inside.world.log in
    let status = c.status.ensures log c.heap-heap.ensures.stands in
    let few : c.args.self.now.world.config.bounds.threads ≤ 64 = c.args.self.now.world.config.few_threads in
    let there : c.in-Thread.u.0 < c.args.self.now.world.config.bounds.threads = rw c.in-Thread.is at c.requires in
    let within : c.in-Thread.u.0 < 64 = omega (arith, there, few) in
    let unfinished : IsFalse (has_exited (status_in log c.in-Thread.u.0)) = ⊎_elim (λ is. ap has_exited (sym status ∙ is)) (λ is. ap has_exited (sym status ∙ is)) c.in-Unborn.is in
    let same = ap (λ (room : RoomState). room.world.log) c.self.view_is in
    rw (c.in-Thread.is, c.set_of-in-Unborn.ensures)
    (subst (λ (events : List Event). AreLeads events (Thread c.in-Thread.u) (set_of (Some c.in-Thread.u))) same (AreLeads-thread log c.in-Thread.u within unfinished))
