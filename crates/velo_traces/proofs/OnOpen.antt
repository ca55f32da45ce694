-- The block that begins at a position, if it is open at the end: found or not, and what this says of the open blocks from there on.
use Rattle.std.proofs.Common.{◌≡◌, ℕ, ◌+◌, ◌<◌, Bool, true, false, cond, List, ◌∷◌, length, map, Option, Some, None, refl, sym, ap, ◌∙◌}
use Rattle.std.specs.Prelude.{IsTrue, IsFalse}
use Rattle.std.proofs.lemmas.Option.{none-some, same_Some}
use Rattle.velo_events.specs.declared.event.Event.{Event}
use Rattle.velo_events.specs.Block.{is_open_at}
use Rattle.velo_events.specs.Scan.{open_from}
use Rattle.velo_events.proofs.OnOpenBlocks.{open_from-closed, open_from-opened}
use Rattle.velo_traces.specs.declared.block.Block.{Block}
use Rattle.velo_traces.specs.Blocks.{block_at}
use Rattle.velo_traces.specs.Open.{open_block_at}

pub open_block_at-closed : (trace : List Event) (t n : ℕ) → IsFalse (is_open_at trace t n (length trace)) → None ≡ open_block_at trace t n
open_block_at-closed trace t n h = sym (ap (λ b. cond b (Some (block_at trace n)) None) h)

pub open_block_at-opened : (trace : List Event) (t n : ℕ) → IsTrue (is_open_at trace t n (length trace)) → Some (block_at trace n) ≡ open_block_at trace t n
open_block_at-opened trace t n h = sym (ap (λ b. cond b (Some (block_at trace n)) None) h)

some_if : (b : Bool) (x y : Block) → Some x ≡ cond b (Some y) None → IsTrue b × (x ≡ y)
some_if true x y h = (refl, same_Some x y h)
some_if false x y h = absurd (none-some x (sym h))

none_if : (b : Bool) (y : Block) → None ≡ cond b (Some y) None → IsFalse b
none_if true y h = absurd (none-some y h)
none_if false y h = refl

module _ (trace : List Event) (t n : ℕ) where
  -- a block that is found is open, and is the one there
  pub found_open : (block : Block) → Some block ≡ open_block_at trace t n → IsTrue (is_open_at trace t n (length trace)) × (block ≡ block_at trace n)
  found_open block h = some_if (is_open_at trace t n (length trace)) block (block_at trace n) h

  pub found_none : None ≡ open_block_at trace t n → IsFalse (is_open_at trace t n (length trace))
  found_none h = none_if (is_open_at trace t n (length trace)) (block_at trace n) h

  -- one position further up
  pub blocks-found : (block : Block) → n < length trace → Some block ≡ open_block_at trace t n → map (block_at trace) (open_from trace t n) ≡ block ∷ map (block_at trace) (open_from trace t (n + 1))
  blocks-found block within h =
      let found = found_open block h in
      ap (map (block_at trace)) (open_from-opened trace t n within found.0) ∙ ap (λ b. b ∷ map (block_at trace) (open_from trace t (n + 1))) (sym found.1)

  pub blocks-none : n < length trace → None ≡ open_block_at trace t n → map (block_at trace) (open_from trace t n) ≡ map (block_at trace) (open_from trace t (n + 1))
  blocks-none within h = ap (map (block_at trace)) (open_from-closed trace t n within (found_none h))
