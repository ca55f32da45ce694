use Rattle.std.proofs.Common.{◌≡◌, ◌<◌, ◌+◌, length, [], ◌∷◌, ◌++◌, set, sym, subst}
use Rattle.std.specs.Prelude.{slice_index_or}
use Rattle.velo_events.specs.Event.{thread_of}
use Rattle.velo_events.specs.Tally.{events_of}
use Rattle.velo_events.specs.WellFormed.{MayFollow}
use Rattle.velo_heap.specs.Contents.{Tabulates, bounds_of}
use Rattle.velo_heap.proofs.OnAdmission.{MayFollow-each}
use Rattle.velo_search.specs.Parts.{IsPart}
use Rattle.velo_search.proofs.OnStates.{next-after}
use Rattle.velo_search.proofs.state.State.step.Goals as goal

pub returns-clause-next : goal.returns-clause-next
returns-clause-next c rest log stands part =
    let state = c.args.self.now in
    let e = c.args.event.now in
    let admitted = c.requires.admitted in
    let follows : MayFollow (bounds_of state.heap) log e = MayFollow-each state.heap admitted.trace log e admitted.stands stands.heap admitted.follows in
    let longer = c.apply.ensures.next log stands.heap in
    let within : thread_of e < length state.next.items = subst (λ n. thread_of e < n) (sym state.each) follows.known_thread in
    record {
      heap = longer;
      next = subst (λ i. Tabulates (set state.next.items i (c.index_mut.result.now + 1)) (events_of (log ++ e ∷ []))) (sym c.from.ensures)
          (next-after state.next.items log e c.index_mut.result.now stands.next within
          (subst (λ i. c.index_mut.result.now ≡ slice_index_or state.next.items i c.index_mut.result.now) c.from.ensures c.index_mut.ensures.value));
      graph = c.take_in.ensures.next rest log (subst (λ b. IsPart rest b log e c.args.part) (sym state.same) part) stands.graph;
    }
