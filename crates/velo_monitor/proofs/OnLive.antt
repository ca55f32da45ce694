-- The nodes in use are live transactions, so there are at most as many as these.
use Rattle.std.proofs.Common.{◌≡◌, ℕ, Bool, true, false, not, List, Some, refl, sym, ap, ◌∙◌, subst, ⊎_elim, inl, inr, arith}
use Rattle.std.specs.Prelude.{◌⊎◌, Contains}
use Rattle.std.proofs.lemmas.Bool.{cases_Bool, eq-eqb}
use Rattle.std.proofs.lemmas.List.Kept.{AllPairs-from_increasing}
use Rattle.velo_events.specs.declared.config.Bounds.{Bounds}
use Rattle.velo_events.specs.declared.event.Event.{Event}
use Rattle.velo_events.specs.Block.{is_open, IsTransaction, IsUnfinished}
use Rattle.velo_monitor.specs.Collection.{IsLive, IsCovered, IsAccountedFor, IsGivenUp, IsHarmless, HasManyLive}
use Rattle.velo_monitor.proofs.OnCollection.{IsLive-unfinished, HasManyLive-by, IsGivenUp-harmless}
use Rattle.velo_arena.specs.declared.step.Node.{Node}
use Rattle.velo_arena.specs.Slots.{Slots, node_in, has_stamp, is_finished_in, used_in}
use Rattle.velo_arena.specs.Stamps.{stamps_in}
use Rattle.velo_arena.proofs.OnSlots.{node_of_used, node_of_stamp}
use Rattle.velo_arena.proofs.OnStamps.{length-stamps_in, IsStrictlyIncreasing-stamps_in, slot_of_stamp, Contains-stamp}
use Rattle.velo_graph.specs.Nodes.{Nodes}
use Rattle.velo_merge.specs.Named.{Bears}
use Rattle.velo_monitor.specs.Watched.{Watched, IsMonitorOf}

-- a node bears its stamp
pub bears-node : (nodes : Nodes) (k : ℕ) (n : Node) → node_in nodes.slots k ≡ Some n → Bears nodes k n.stamp
bears-node nodes k n there = ap (λ o. has_stamp o n.stamp) there ∙ eq-eqb n.stamp n.stamp refl

module _ (bounds : Bounds) (w : Watched) (trace : List Event) (stands : IsMonitorOf bounds w trace) where
  pub unfinished-node : (k a : ℕ) → Bears w.nodes k a → is_finished_in w.nodes.slots k ≡ false → IsUnfinished trace a
  unfinished-node k a borne going = record { transaction = stands.founded.transaction k a borne; open_block = flip (is_open trace a) (sym (stands.founded.finished k a borne) ∙ going) }
    where
      flip : (b : Bool) → not b ≡ false → b ≡ true
      flip true h = refl
      flip false h = sym h

  pub node-live : (k a : ℕ) → Bears w.nodes k a → IsLive trace a
  node-live k a borne =
      ⊎_elim
      (λ (done : is_finished_in w.nodes.slots k ≡ true).
      let by = stands.collected.each k done in
      let n = node_of_used (node_in w.nodes.slots by.0) (stands.sound.ancestor_used by.0 k by.1) in
      let from = bears-node w.nodes by.0 n.0 n.1 in
      record { root = n.0.stamp; unfinished = unfinished-node by.0 n.0.stamp from by.2; reaches = stands.ancestors.sound by.0 k n.0.stamp a from borne by.1 })
      (λ (going : is_finished_in w.nodes.slots k ≡ false). IsLive-unfinished trace a (unfinished-node k a borne going))
      (cases_Bool (is_finished_in w.nodes.slots k))

  -- as many transactions are live as there are slots in use
  pub used-live : HasManyLive trace (used_in w.nodes.slots)
  used-live =
      let slots : Slots = w.nodes.slots in
      let rising = AllPairs-from_increasing (stamps_in slots) (IsStrictlyIncreasing-stamps_in slots stands.sound.own_stamps) in
      subst (HasManyLive trace) (length-stamps_in slots)
      (HasManyLive-by trace (stamps_in slots) (λ i j d l m same. omega (arith, same, rising i j d l m))
      (λ a among. let s = slot_of_stamp slots a among in node-live s.0 a (subst (λ z. Bears w.nodes s.0 z) s.3 (bears-node w.nodes s.0 s.1 s.2))))

  -- each transaction is accounted for by the stamps in use
  pub accounted-by_stamps : (a : ℕ) → IsTransaction trace a → IsAccountedFor trace (stamps_in w.nodes.slots) a
  accounted-by_stamps a transaction = record {
    transaction = transaction;
    account =
        ⊎_elim
        (λ (founds : (k : ℕ) × Bears w.nodes k a). inl (in_use founds.0 a founds.1))
        (λ (others : ((k n : ℕ) × Bears w.nodes k n × IsCovered trace a n) ⊎ (¬ IsLive trace a)).
        ⊎_elim
        (λ (covered : (k n : ℕ) × Bears w.nodes k n × IsCovered trace a n). inr (inl (covered.1, in_use covered.0 covered.1 covered.2, covered.3)))
        (λ (dead : ¬ IsLive trace a). inr (inr dead))
        others)
        (stands.accounted a transaction);
  }
    where
      in_use : (k z : ℕ) → Bears w.nodes k z → Contains (stamps_in w.nodes.slots) z
      in_use k z borne =
          let n = node_of_stamp (node_in w.nodes.slots k) z borne in
          subst (Contains (stamps_in w.nodes.slots)) n.2 (Contains-stamp w.nodes.slots k n.0 n.1)

  -- and one that is given up is harmless
  pub given_up-harmless : (a : ℕ) → IsGivenUp trace (stamps_in w.nodes.slots) a → IsHarmless bounds trace a
  given_up-harmless a gone = IsGivenUp-harmless bounds trace (stamps_in w.nodes.slots) a stands.acyclic gone (accounted-by_stamps a gone.transaction)
