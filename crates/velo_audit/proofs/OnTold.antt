-- What is told of an alarm.
use Rattle.std.proofs.Common.{◌≡◌, ℕ, ◌<◌, List, [], ◌∷◌, length, map, get_or, refl, sym, ap, ◌∙◌, arith}
use Rattle.std.specs.Prelude.{All, Contains, slice_index}
use Rattle.std.proofs.lemmas.List.{length-map, get_or-map}
use Rattle.std.proofs.lemmas.Simd.{map-map}
use Rattle.velo_events.specs.declared.event.Event.{Event}
use Rattle.velo_events.specs.Event.{is_begin}
use Rattle.velo_events.proofs.OnBlocks.{owner-le}
use Rattle.velo_events.proofs.OnOwners.{passes_at-within}
use Rattle.velo_traces.specs.declared.block.Block.{Block}
use Rattle.velo_traces.specs.Blocks.{block_at}
use Rattle.velo_blame.specs.Blamed.{begins_of}
use Rattle.velo_world.specs.declared.analysis.Alarm.{Alarm}
use Rattle.velo_world.specs.World.{IsAlarm}
use Rattle.velo_audit.specs.Rounds.{told_of}
use Rattle.velo_audit.specs.Witness.{block_as_read}
use Rattle.velo_audit.proofs.OnRounds.{blamed-begins}

module _ (what : List Event) (alarm : Alarm) (is : IsAlarm what alarm) where
  pub transaction-within : alarm.transaction < length what
  transaction-within = let most = owner-le what alarm.position in let same = is.transaction in let l = is.closing.in_trace in omega (arith, most, same, l)

  pub blamed-within : All (λ block. block.first < length what) alarm.blamed.items
  blamed-within k d l =
      let b = (get_or alarm.blamed.items k d).first in
      let among : Contains (begins_of alarm.blamed.items) b = (k, (let long = length-map alarm.blamed.items (λ (x : Block). x.first) in omega (arith, l, long)), get_or-map (λ (x : Block). x.first) alarm.blamed.items k d b l) in
      passes_at-within what (λ e. is_begin e.kind) b (blamed-begins what alarm.position (begins_of alarm.blamed.items) is.closing.in_trace is.blamed b among)

  -- the blocks to blame
  pub told-blamed_blocks : (places : List ℕ) → (alarm.blamed.items ≡ [] → ⊥) → map (block_as_read (slice_index places)) alarm.blamed.items ≡ map (λ b. block_as_read (slice_index places) (block_at what b)) (told_of (begins_of alarm.blamed.items) alarm.transaction)
  told-blamed_blocks places some =
      ap (map (block_as_read (slice_index places))) is.blocks ∙ (map-map (block_as_read (slice_index places)) (block_at what) (begins_of alarm.blamed.items) ∙ ap (map (λ b. block_as_read (slice_index places) (block_at what b))) (sym (told_some alarm.blamed.items some)))
    where
      told_some : (xs : List Block) → (xs ≡ [] → ⊥) → told_of (begins_of xs) alarm.transaction ≡ begins_of xs
      told_some [] h = absurd (h refl)
      told_some (x ∷ xs) h = refl

  -- or none
  pub told-first_block : (places : List ℕ) → alarm.blamed.items ≡ [] → map (block_as_read (slice_index places)) (block_at what alarm.transaction ∷ []) ≡ map (λ b. block_as_read (slice_index places) (block_at what b)) (told_of (begins_of alarm.blamed.items) alarm.transaction)
  told-first_block places none = sym (ap (λ (xs : List Block). map (λ b. block_as_read (slice_index places) (block_at what b)) (told_of (begins_of xs) alarm.transaction)) none)
