-- What a compaction keeps, by what its three calls leave.
use Rattle.std.proofs.Common.{◌≡◌, ℕ, ◌*◌, ◌<◌, ◌≤◌, List, length, Option, sym, subst, arith}
use Rattle.velo_events.specs.declared.limits.TheConstants.{MAX_THREADS}
use Rattle.velo_events.specs.declared.config.Bounds.{Bounds}
use Rattle.velo_events.specs.declared.event.Event.{Event}
use Rattle.velo_events.specs.Heap.{depth_in}
use Rattle.velo_arena.specs.declared.step.Heir.{Heir}
use Rattle.velo_arena.specs.Slots.{used_in}
use Rattle.velo_graph.specs.Nodes.{Nodes, IsSound}
use Rattle.velo_graph.specs.Leaves.{LeavesOut}
use Rattle.velo_tables.specs.LastAccesses.{LastAccesses, IsRenamed}
use Rattle.velo_monitor.specs.Watched.{Watched, IsMonitorOf}
use Rattle.velo_monitor.specs.Heirs.{HaveThreads, AreHeirs}
use Rattle.velo_monitor.proofs.OnThreads.{have-threads}
use Rattle.velo_monitor.proofs.OnHeirs.{is-heir}
use Rattle.velo_monitor.proofs.OnCompacted.{stands-compacted}
use Rattle.velo_monitor.proofs.OnLeft.{few-left}

module _ (trace : List Event) (graph : Nodes) (tables : LastAccesses) (depths : List ℕ) (w : Watched) (view : record { nodes = graph; kept = tables; depths = depths } ≡ w) where
  before : (bounds : Bounds) → IsMonitorOf bounds w trace → IsMonitorOf bounds (record { nodes = graph; kept = tables; depths = depths }) trace
  before bounds stands = subst (λ (m : Watched). IsMonitorOf bounds m trace) (sym view) stands

  pub threads-few : (bounds : Bounds) × IsMonitorOf bounds w trace → length depths ≤ MAX_THREADS
  threads-few some = let stands = before some.0 some.1 in omega (arith, stands.depths.0, stands.few)

  pub threads-known : (bounds : Bounds) × IsMonitorOf bounds w trace → HaveThreads graph trace (length depths)
  threads-known some =
      let stands = before some.0 some.1 in
      subst (HaveThreads graph trace) (sym stands.depths.0) (have-threads some.0 (record { nodes = graph; kept = tables; depths = depths }) trace stands)

  module _ (heirs listed : List (Option Heir)) (are : AreHeirs graph trace heirs) (lists : listed ≡ heirs) (nodes : Nodes) (leaves : LeavesOut graph nodes listed) where
    leaves-out : LeavesOut graph nodes heirs
    leaves-out = subst (λ (hs : List (Option Heir)). LeavesOut graph nodes hs) lists leaves

    pub few-compacted : (bounds : Bounds) (t : ℕ) → IsMonitorOf bounds w trace → t < bounds.threads → depth_in trace t ≡ 0 → used_in nodes.slots < bounds.threads * bounds.threads
    few-compacted bounds t stands known none = few-left bounds (record { nodes = graph; kept = tables; depths = depths }) trace (before bounds stands) heirs are t known none nodes leaves-out

    pub same-compacted : (listed' : List (Option Heir)) (kept : LastAccesses) → listed' ≡ heirs → IsSound nodes → IsRenamed tables listed' kept → length kept.threads ≡ length tables.threads →
        (bounds : Bounds) → IsMonitorOf bounds w trace → IsMonitorOf bounds (record { nodes = nodes; kept = kept; depths = depths }) trace
    same-compacted listed' kept lists' sound renames threads bounds stands =
        let was : Watched = record { nodes = graph; kept = tables; depths = depths } in
        stands-compacted bounds was trace (before bounds stands) heirs (is-heir bounds was trace (before bounds stands) heirs are) nodes leaves-out kept (subst (λ (hs : List (Option Heir)). IsRenamed tables hs kept) lists' renames) threads sound
