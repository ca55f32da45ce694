-- What is known of the blocks of all threads, one event further.
use Rattle.std.proofs.Common.{◌≡◌, ℕ, ◌+◌, ◌<◌, ◌≤◌, List, length, set, replicate, sym, ap, ◌∙◌, subst, arith, ⊎_elim}
use Rattle.std.specs.Prelude.{slice_index_or}
use Rattle.std.proofs.lemmas.Bool.{cases_eq, ne_eqb}
use Rattle.std.proofs.lemmas.List.{length-set, get_or-set_same, get_or-set_other, length-replicate, get_or-replicate}
use Rattle.velo_events.specs.declared.event.Event.{Event}
use Rattle.velo_events.specs.Scan.{IsScanned}
use Rattle.velo_events.proofs.OnScans.{IsScanned-start, IsScanned-other_thread}
use Rattle.velo_traces.proofs.Past.{past}
use Rattle.velo_traces.specs.declared.scanned.ThreadBlocks.{ThreadBlocks}
use Rattle.velo_certify.specs.Owners.{AreScanned, event_at, no_blocks}

-- before the first event nothing is known
pub AreScanned-start : (trace : List Event) (threads : List ThreadBlocks) → threads ≡ replicate 256 no_blocks → AreScanned trace 0 threads
AreScanned-start trace threads is = subst (AreScanned trace 0) (sym is) (record {
  count = length-replicate 256 no_blocks;
  small = λ t l. subst (λ (s : ThreadBlocks). s.depth ≤ 0) (sym (blank t l)) (omega arith);
  scanned = λ t l. subst (λ (s : ThreadBlocks). IsScanned trace t 0 s.depth s.first) (sym (blank t l)) (IsScanned-start trace t 0);
})
  where
    blank : (t : ℕ) → t < 256 → slice_index_or (replicate 256 no_blocks) t no_blocks ≡ no_blocks
    blank t l = get_or-replicate 256 t no_blocks no_blocks l

-- the event at position n is of one thread, whose blocks go on
pub AreScanned-next : (trace : List Event) (n : ℕ) (threads : List ThreadBlocks) (blocks : ThreadBlocks) → n < length trace → (event_at trace n).thread.0 < 256 → AreScanned trace n threads → blocks.depth ≤ n + 1 → IsScanned trace (event_at trace n).thread.0 (n + 1) blocks.depth blocks.first → AreScanned trace (n + 1) (set threads (event_at trace n).thread.0 blocks)
AreScanned-next trace n threads blocks within known w small scanned = record {
  count = length-set threads at_hand blocks ∙ w.count;
  small = λ t l. ⊎_elim
      (λ same. subst (λ (s : ThreadBlocks). s.depth ≤ n + 1) (sym (there t same)) small)
      (λ other. subst (λ (s : ThreadBlocks). s.depth ≤ n + 1) (sym (elsewhere t other)) (let was = w.small t l in omega (arith, was)))
      (cases_eq t at_hand);
  scanned = λ t l. ⊎_elim
      (λ same. subst (λ (s : ThreadBlocks). IsScanned trace t (n + 1) s.depth s.first) (sym (there t same)) (subst (λ u. IsScanned trace u (n + 1) blocks.depth blocks.first) (sym same) scanned))
      (λ other. subst (λ (s : ThreadBlocks). IsScanned trace t (n + 1) s.depth s.first) (sym (elsewhere t other))
      (IsScanned-other_thread trace t n past within (slice_index_or threads t no_blocks).depth (slice_index_or threads t no_blocks).first (ne_eqb at_hand t (λ e. other (sym e))) (w.scanned t l)))
      (cases_eq t at_hand);
}
  where
    at_hand : ℕ
    at_hand = (event_at trace n).thread.0

    there : (t : ℕ) → t ≡ at_hand → slice_index_or (set threads at_hand blocks) t no_blocks ≡ blocks
    there t same = ap (λ u. slice_index_or (set threads at_hand blocks) u no_blocks) same ∙ get_or-set_same threads at_hand blocks no_blocks (omega (arith, known, w.count))

    elsewhere : (t : ℕ) → (t ≡ at_hand → ⊥) → slice_index_or (set threads at_hand blocks) t no_blocks ≡ slice_index_or threads t no_blocks
    elsewhere t other = get_or-set_other threads at_hand t blocks no_blocks other
