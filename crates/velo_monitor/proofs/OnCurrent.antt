-- Inside a block, the step of the thread's last event names the thread's own node.
use Rattle.std.proofs.Common.{◌≡◌, ◌≢◌, ℕ, ◌<◌, ◌≤◌, false, List, length, get_or, Option, Some, None, refl, sym, ap, ◌∙◌, subst, ⊎_elim, arith, get_or-set_same, get_or-set_other}
use Rattle.std.specs.Prelude.{slice_index_or}
use Rattle.std.specs.Ordering.{nat_cmp}
use Rattle.std.specs.FinSet as set
use Rattle.std.specs.FinSet.{FinSet}
use Rattle.std.proofs.lemmas.Bool.{cases_lt, both_ways, eq-eqb, false≢true}
use Rattle.velo_events.specs.declared.config.Bounds.{Bounds}
use Rattle.velo_events.specs.declared.event.Event.{Event}
use Rattle.velo_events.specs.Event.{thread_of}
use Rattle.velo_events.specs.Heap.{depth_in}
use Rattle.velo_events.specs.WellFormed.{IsWellFormed, MayFollow}
use Rattle.velo_events.specs.Block.{owner, IsFinished}
use Rattle.velo_monitor.specs.Collection.{IsLive, IsCovered}
use Rattle.velo_events.proofs.OnGraphs.{newest}
use Rattle.velo_events.proofs.OnOwners.{newest-le, newest-alone, newest-not_alone}
use Rattle.velo_events.proofs.OnUnfinished.{newest-unfinished, depth_in-none, depth_in-some, unfinished-not_finished}
use Rattle.velo_monitor.proofs.OnCollection.{IsLive-unfinished, IsCovered-finished}
use Rattle.velo_arena.specs.declared.step.Step.{Step}
use Rattle.velo_arena.specs.declared.step.Node.{Node}
use Rattle.velo_arena.specs.Slots.{node_in, has_stamp, Opens, bears}
use Rattle.velo_graph.specs.Nodes.{Nodes, is_ancestor, IsAlone}
use Rattle.velo_events.specs.Place.{LastOf}
use Rattle.velo_tables.specs.LastAccesses.{entry}
use Rattle.velo_tables.proofs.OnGraphLookUps.{current}
use Rattle.velo_merge.specs.Named.{Bears}
use Rattle.velo_monitor.specs.Watched.{Watched, IsMonitorOf}
use Rattle.velo_monitor.proofs.OnLooks.{entry-live}
use Rattle.velo_monitor.proofs.OnOpening.{HasFresh}

-- the thread's depth tells whether the event belongs to an earlier transaction
pub inside-depth : (bounds : Bounds) (trace : List Event) (e : Event) → IsWellFormed bounds trace → 0 < depth_in trace (thread_of e) → newest trace e < length trace
inside-depth bounds trace e well deep =
    ⊎_elim (λ (l : newest trace e < length trace). l)
    (λ (g : length trace ≤ newest trace e).
    let most = newest-le trace e in
    let alone : newest trace e ≡ length trace = omega (arith, g, most) in
    let some = depth_in-some bounds trace (thread_of e) well deep in
    absurd (both_ways _ (newest-not_alone trace e alone some.0) some.1))
    (cases_lt (newest trace e) (length trace))

pub outside-depth : (bounds : Bounds) (trace : List Event) (e : Event) → IsWellFormed bounds trace → depth_in trace (thread_of e) ≡ 0 → newest trace e ≡ length trace
outside-depth bounds trace e well none = newest-alone trace e (depth_in-none bounds trace (thread_of e) well none)

-- inside a block the entry of the thread's last event is a step of the own node
pub current-node : (bounds : Bounds) (w : Watched) (trace : List Event) (e : Event) → IsMonitorOf bounds w trace → MayFollow bounds trace e → newest trace e < length trace → (s : Step) × (entry w.kept (LastOf (thread_of e)) ≡ Some s) × Bears w.nodes s.slot s.stamp × (s.stamp ≡ newest trace e)
current-node bounds w trace e stands follows inside =
    let k = current bounds trace e stands.well_formed follows stands.few inside in
    let unfinished_now = newest-unfinished trace e inside in
    let live : IsLive trace (owner trace k.0) = subst (IsLive trace) (sym k.2) (IsLive-unfinished trace (newest trace e) unfinished_now) in
    let s = entry-live w.nodes trace (entry w.kept (LastOf (thread_of e))) (owner trace k.0) (stands.entries.last (LastOf (thread_of e)) k.0 k.1) live in (
      s.0,
      s.1,
      s.2.borne,
      ⊎_elim (λ (same : s.0.stamp ≡ owner trace k.0). same ∙ k.2)
          (λ (covered : IsCovered trace (owner trace k.0) s.0.stamp).
          absurd (unfinished-not_finished trace (newest trace e) unfinished_now (subst (IsFinished trace) k.2 (IsCovered-finished trace (owner trace k.0) s.0.stamp stands.acyclic covered))))
          s.2.which,
    )

-- opening a node leaves the graph with a fresh one
pub fresh-opens : (old mid : Nodes) (c p : ℕ) → Opens old.slots mid.slots c p → mid.ancestors ≡ old.ancestors → IsAlone mid c → HasFresh old mid c p
unfolding is_ancestor
fresh-opens old mid c p opens rows alone = record {
  fresh = ap (λ (ns : List (Option Node)). has_stamp (get_or ns c None) p) opens.nodes ∙ ap (λ o. has_stamp o p) (get_or-set_same old.slots.nodes c (Some (record { stamp = p; finished = false })) None opens.in_range) ∙ eq-eqb p p refl;
  was = λ k a other borne. sym (away k a other) ∙ borne;
  stays = λ k a borne.
      let other : k ≢ c = λ (same : k ≡ c). false≢true (sym (ap (λ i. has_stamp (node_in old.slots i) a) same ∙ ap (λ o. has_stamp o a) opens.was_free) ∙ borne) in
      (other, away k a other ∙ borne);
  same = λ m n. ap (λ (r : List (FinSet nat_cmp)). set.contains (slice_index_or r n set.empty) m) rows;
  alone = alone;
}
  where
    away : (k a : ℕ) → k ≢ c → bears mid.slots k a ≡ bears old.slots k a
    away k a other = ap (λ (ns : List (Option Node)). has_stamp (get_or ns k None) a) opens.nodes ∙ ap (λ o. has_stamp o a) (get_or-set_other old.slots.nodes c k (Some (record { stamp = p; finished = false })) None other)
