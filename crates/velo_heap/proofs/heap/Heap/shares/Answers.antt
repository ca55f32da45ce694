use Rattle.std.proofs.Common.{◌≡◌, ◌<◌, length, get_or, sym, ap, ◌∙◌, subst}
use Rattle.velo_events.specs.ThreadSets.{has_thread}
use Rattle.velo_events.proofs.OnWellFormed.{Facts-from}
use Rattle.velo_heap.specs.declared.lock.Lock.{Lock}
use Rattle.velo_heap.specs.Contents.{Contents, bounds_of, lock_in, IsHeapOf}
use Rattle.velo_heap.proofs.OnLocks.{is_sharer-in}
use Rattle.velo_heap.proofs.OnTables.{get_or-tabulated}
use Rattle.velo_heap.proofs.heap.Heap.shares.Goals as goal

pub returns : goal.returns
returns c = λ trace stands.
    let m = c.args.m.0 in
    let inside = c.self.inside in
    let same = subst (λ (heap : Contents). IsHeapOf heap trace) (sym c.self.view_is) stands in
    let within : m < length inside.locks.items = subst (λ (heap : Contents). m < length heap.locks) (sym c.self.view_is) c.requires in
    let at = c.index.ensures
    ∙ (ap (λ i. get_or inside.locks.items i c.index.result.now) c.from-at.ensures
    ∙ get_or-tabulated inside.locks.items (lock_in (length inside.threads.items) trace) c.index.result.now m same.locks within) in
    c.is_shared_by.ensures
    ∙ (ap (λ (lock : Lock). has_thread lock.sharers c.args.t.0) at
    ∙ is_sharer-in (record { threads = length inside.threads.items; variables = length inside.values.items; locks = length inside.locks.items }) trace (Facts-from _ trace same.well_formed) c.args.t m)
