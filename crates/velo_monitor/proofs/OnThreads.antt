-- The threads of the nodes in use, and of which thread a node is unfinished.
use Rattle.std.proofs.Common.{◌≡◌, ℕ, ◌<◌, false, List, [], ◌∷◌, length, Option, Some, None, refl, sym, ap, ◌∙◌, subst, ⊎_elim, arith}
use Rattle.std.specs.Prelude.{◌==◌, IsTrue, is_some, slice_get}
use Rattle.std.specs.Option.{option_map_or}
use Rattle.std.proofs.lemmas.Bool.{both_ways, eq-eqb, eqb-true, false≢true, or_cases, or_right}
use Rattle.std.proofs.lemmas.Option.{slice_get-get_or}
use Rattle.velo_events.specs.declared.config.Bounds.{Bounds}
use Rattle.velo_events.specs.declared.event.Event.{Event}
use Rattle.velo_events.specs.Event.{thread_of, is_by}
use Rattle.velo_events.specs.Heap.{depth_in}
use Rattle.velo_events.specs.Block.{passes_at, is_open_at, IsUnfinished}
use Rattle.velo_events.proofs.OnScans.{passes_at-is}
use Rattle.velo_events.proofs.OnUnfinished.{unfinished-one, unfinished-block, depth_in-none}
use Rattle.velo_arena.specs.Slots.{node_in, stamp_of_node, stamp_in, is_used, is_finished_in, limit_of}
use Rattle.velo_arena.proofs.OnSlots.{node_of_used}
use Rattle.velo_graph.specs.Nodes.{Nodes, is_ancestor}
use Rattle.velo_graph.proofs.OnNodes.{used_in_range}
use Rattle.velo_merge.specs.Named.{Bears}
use Rattle.velo_monitor.specs.Watched.{Watched, IsMonitorOf}
use Rattle.velo_monitor.specs.Heirs.{thread_at, thread_in, HaveThreads, going_in, IsStill, AreGoing, is_reached}
use Rattle.velo_monitor.proofs.OnLive.{bears-node, unfinished-node}

-- ---- a slot and its stamp

pub bears-own : (nodes : Nodes) (k : ℕ) → IsTrue (is_used nodes.slots k) → Bears nodes k (stamp_in nodes.slots k)
bears-own nodes k used =
    let n = node_of_used (node_in nodes.slots k) used in
    subst (Bears nodes k) (sym (ap stamp_of_node n.1)) (bears-node nodes k n.0 n.1)

-- ---- threads

-- the event at a position is by its thread
pub by-thread : (trace : List Event) (i : ℕ) → i < length trace → (e : Event) × (slice_get trace i ≡ Some e) × (thread_at trace i ≡ thread_of e)
by-thread [] i l = absurd (omega (arith, l))
by-thread (d ∷ trace) i l =
    let at = slice_get-get_or (d ∷ trace) i d l in
    (_, at, ap (λ o. option_map_or thread_of o 0) at)

pub own-thread : (trace : List Event) (i : ℕ) → i < length trace → IsTrue (passes_at trace (is_by (thread_at trace i)) i)
own-thread trace i l = let e = by-thread trace i l in passes_at-is trace (is_by (thread_at trace i)) i e.0 e.1 ∙ eq-eqb (thread_of e.0) (thread_at trace i) (sym e.2)

module _ (bounds : Bounds) (w : Watched) (trace : List Event) (stands : IsMonitorOf bounds w trace) where
  abbrev thread : ℕ → ℕ
  thread k = thread_in w.nodes trace k

  abbrev stamp : ℕ → ℕ
  stamp k = stamp_in w.nodes.slots k

  pub stamp-within : (k : ℕ) → IsTrue (is_used w.nodes.slots k) → stamp k < length trace
  stamp-within k used = (stands.founded.transaction k (stamp k) (bears-own w.nodes k used)).within

  pub thread-known : (k : ℕ) → IsTrue (is_used w.nodes.slots k) → thread k < bounds.threads
  thread-known k used = let e = by-thread trace (stamp k) (stamp-within k used) in subst (λ t. t < bounds.threads) (sym e.2) (stands.well_formed.each (stamp k) e.0 e.1).known_thread

  pub have-threads : HaveThreads w.nodes trace bounds.threads
  have-threads = record { own = stamp-within; few = thread-known }

  -- the event of a node is by the node's thread
  pub own-node : (k : ℕ) → IsTrue (is_used w.nodes.slots k) → IsTrue (passes_at trace (is_by (thread k)) (stamp k))
  own-node k used = own-thread trace (stamp k) (stamp-within k used)

  -- nodes with one stamp stand in one slot
  pub one-slot : (j k : ℕ) → IsTrue (is_used w.nodes.slots j) → IsTrue (is_used w.nodes.slots k) → stamp j ≡ stamp k → j ≡ k
  one-slot j k first second same =
      let m = node_of_used (node_in w.nodes.slots j) first in
      let n = node_of_used (node_in w.nodes.slots k) second in
      stands.sound.own_stamps.apart j k m.0 n.0 m.1 n.1 (sym (ap stamp_of_node m.1) ∙ same ∙ ap stamp_of_node n.1)

  -- ---- unfinished nodes

  pub still-unfinished : (u : ℕ) → IsStill w.nodes u → IsUnfinished trace (stamp u)
  still-unfinished u still = unfinished-node bounds w trace stands u (stamp u) (bears-own w.nodes u still.used) still.unfinished

  -- a thread has one at most
  pub one-still : (u v : ℕ) → IsStill w.nodes u → IsStill w.nodes v → thread u ≡ thread v → u ≡ v
  one-still u v first second same =
      one-slot u v first.used second.used
      (unfinished-one trace (thread v) (stamp u) (stamp v) (still-unfinished u first) (still-unfinished v second) (subst (λ t. IsTrue (passes_at trace (is_by t) (stamp u))) same (own-node u first.used)) (own-node v second.used))

  -- and none where it has no block open
  pub none-still : (t u : ℕ) → depth_in trace t ≡ 0 → IsStill w.nodes u → thread u ≡ t → ⊥
  none-still t u none still same =
      both_ways (is_open_at trace t (stamp u) (length trace)) (depth_in-none bounds trace t stands.well_formed none (stamp u))
      (unfinished-block trace t (stamp u) (still-unfinished u still) (subst (λ z. IsTrue (passes_at trace (is_by z) (stamp u))) same (own-node u still.used)))

  -- ---- the unfinished node of a thread

  module _ (going : List (Option ℕ)) (are : AreGoing w.nodes trace going (limit_of w.nodes.slots)) where
    pub going-still : (u : ℕ) → IsStill w.nodes u → going_in going (thread u) ≡ Some u
    going-still u still = from (going_in going (thread u)) refl (are.all u (used_in_range w.nodes.slots u still.used) still)
      where
        from : (o : Option ℕ) → going_in going (thread u) ≡ o → IsTrue (is_some o) → going_in going (thread u) ≡ Some u
        from None there some = absurd (false≢true some)
        from (Some v) there some = let is = are.each (thread u) v there in there ∙ ap Some (one-still v u is.0 still is.1)

    -- what reaches a finished node is an unfinished ancestor of it
    pub reached-by : (s k : ℕ) → IsTrue (is_finished_in w.nodes.slots k) → IsTrue (is_reached w.nodes (going_in going s) k) → (u : ℕ) × (going_in going s ≡ Some u) × IsTrue (is_ancestor w.nodes u k)
    reached-by s k done reached = from (going_in going s) refl reached
      where
        from : (o : Option ℕ) → going_in going s ≡ o → IsTrue (is_reached w.nodes o k) → (u : ℕ) × (going_in going s ≡ Some u) × IsTrue (is_ancestor w.nodes u k)
        from None there reach = absurd (false≢true reach)
        from (Some u) there reach = (
          u,
          there,
          ⊎_elim
              (λ (same : IsTrue (u == k)). absurd (both_ways (is_finished_in w.nodes.slots k) (subst (λ z. is_finished_in w.nodes.slots z ≡ false) (eqb-true u k same) (are.each s u there).0.unfinished) done))
              (λ (before : IsTrue (is_ancestor w.nodes u k)). before)
              (or_cases (u == k) (is_ancestor w.nodes u k) reach),
        )

    -- the other way round
    pub reached-from : (u k : ℕ) → IsStill w.nodes u → IsTrue (is_ancestor w.nodes u k) → IsTrue (is_reached w.nodes (going_in going (thread u)) k)
    reached-from u k still before = ap (λ o. is_reached w.nodes o k) (going-still u still) ∙ or_right (u == k) (is_ancestor w.nodes u k) before
