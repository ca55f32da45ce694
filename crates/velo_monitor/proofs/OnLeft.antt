-- How many nodes are left where the others gave way to their heirs.
use Rattle.std.proofs.Common.{◌≡◌, ◌≢◌, ℕ, ◌*◌, ◌<◌, ◌≤◌, true, false, List, Option, Some, None, refl, sym, ap, ◌∙◌, subst, ⊎_elim, inl, inr}
use Rattle.std.specs.Prelude.{◌⊎◌, IsTrue, is_some, if◌then◌else◌}
use Rattle.std.proofs.lemmas.Bool.{cases_Bool, false≢true}
use Rattle.velo_events.specs.declared.config.Bounds.{Bounds}
use Rattle.velo_events.specs.declared.event.Event.{Event}
use Rattle.velo_events.specs.Heap.{depth_in}
use Rattle.velo_arena.specs.declared.step.Heir.{Heir}
use Rattle.velo_arena.specs.Slots.{node_in, stamp_in, is_used, is_finished_in, used_in}
use Rattle.velo_arena.specs.Heirs.{heir_in}
use Rattle.velo_graph.specs.Nodes.{Nodes}
use Rattle.velo_graph.specs.Leaves.{LeavesOut}
use Rattle.velo_monitor.specs.Watched.{Watched, IsMonitorOf}
use Rattle.velo_monitor.specs.Heirs.{thread_in, going_in, IsStill, first_in, Stays, IsHeirOf, AreHeirs}
use Rattle.velo_monitor.proofs.OnThreads.{thread-known, none-still, going-still, reached-by, reached-from}
use Rattle.velo_monitor.proofs.OnHeirs.{in_cell, small, first-of}
use Rattle.velo_monitor.proofs.OnFew.{used-lt}

module _ (bounds : Bounds) (w : Watched) (trace : List Event) (stands : IsMonitorOf bounds w trace) (heirs : List (Option Heir)) (are : AreHeirs w.nodes trace heirs) (t0 : ℕ) (known : t0 < bounds.threads) (outside : depth_in trace t0 ≡ 0) where
  abbrev thread : ℕ → ℕ
  thread k = thread_in w.nodes trace k

  abbrev IsInCell : ℕ → Type 0
  IsInCell k = ((s : ℕ) × (s < bounds.threads) × (s ≢ t0) × (going_in are.going s ≡ Some k)) ⊎ ((t s : ℕ) × (t < bounds.threads) × (s < bounds.threads) × (s ≢ t0) × (first_in are.firsts t s ≡ Some k))

  -- an unfinished node is of another thread
  other-thread : (u : ℕ) → IsStill w.nodes u → thread u ≢ t0
  other-thread u still same = none-still bounds w trace stands t0 u outside still same

  still-cell : (k : ℕ) → IsStill w.nodes k → IsInCell k
  still-cell k still = inl (thread k, thread-known bounds w trace stands k still.used, other-thread k still, going-still bounds w trace stands are.going are.are_going k still)

  -- a finished one that stays is the first of its thread that an unfinished one reaches
  finished-cell : (k : ℕ) → IsTrue (is_used w.nodes.slots k) → IsTrue (is_finished_in w.nodes.slots k) → Stays w.nodes trace are.going are.firsts k → IsInCell k
  finished-cell k used done stays =
      let latest = stays.is done in
      let by = stands.collected.each k done in
      let still : IsStill w.nodes by.0 = record { used = stands.sound.ancestor_used by.0 k by.1; unfinished = by.2 } in
      let few = small bounds w trace stands heirs are in
      let reached = reached-from bounds w trace stands are.going are.are_going by.0 k still by.1 in
      let first = first-of bounds w trace stands heirs are (thread by.0) k (few by.0 still.used) done reached in
      let some = in_cell stays.latest (λ h. stamp_in w.nodes.slots first.0 ≤ stamp_in w.nodes.slots h) (latest.above (thread by.0) first.0 (few by.0 still.used) reached first.1) in
      let at = latest.among some.0 some.1 in
      let u = reached-by bounds w trace stands are.going are.are_going at.0 k done at.2 in
      let is = are.are_going.each at.0 u.0 u.1 in
      inr (
        thread k,
        at.0,
        thread-known bounds w trace stands k used,
        subst (λ s. s < bounds.threads) is.1 (thread-known bounds w trace stands u.0 is.0.used),
        subst (λ s. s ≢ t0) is.1 (other-thread u.0 is.0),
        subst (λ z. first_in are.firsts (thread k) at.0 ≡ Some z) (stays.itself some.0 some.1) at.3,
      )

  module _ (nodes : Nodes) (leaves : LeavesOut w.nodes nodes heirs) where
    -- what is left was there, and gave way to none
    left-cell : (k : ℕ) → IsTrue (is_used nodes.slots k) → IsInCell k
    left-cell k used = by (heir_in heirs k) refl
      where
        by : (o : Option Heir) → heir_in heirs k ≡ o → IsInCell k
        by (Some h) there = absurd (false≢true (sym (ap is_some (leaves.each k ∙ ap (λ (o : Option Heir). if is_some o then None else node_in w.nodes.slots k) there)) ∙ used))
        by None there =
            let was : IsTrue (is_used w.nodes.slots k) = sym (ap is_some (leaves.each k ∙ ap (λ (o : Option Heir). if is_some o then None else node_in w.nodes.slots k) there)) ∙ used in
            ⊎_elim
            (λ (done : is_finished_in w.nodes.slots k ≡ true). finished-cell k was done (subst (λ o. IsHeirOf w.nodes trace are.going are.firsts k o) there (are.each k)))
            (λ (unfinished : is_finished_in w.nodes.slots k ≡ false). still-cell k (record { used = was; unfinished = unfinished }))
            (cases_Bool (is_finished_in w.nodes.slots k))

    pub few-left : used_in nodes.slots < bounds.threads * bounds.threads
    few-left = used-lt nodes.slots bounds.threads t0 (going_in are.going) (first_in are.firsts) known left-cell
