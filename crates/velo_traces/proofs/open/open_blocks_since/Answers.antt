use Rattle.std.proofs.Common.{◌≡◌, ℕ, zero, suc, ◌+◌, ◌<◌, ◌≤◌, List, length, map, sym, ap, ◌∙◌, arith}
use Rattle.std.specs.Prelude.{IsFalse}
use Rattle.velo_events.specs.declared.event.Event.{Event}
use Rattle.velo_events.specs.Block.{is_open_at, open_blocks}
use Rattle.velo_events.specs.Scan.{open_from}
use Rattle.velo_events.proofs.OnOpenBlocks.{LeavesEnds-start, open_from-end, open_from-zero, open_from-closed}
use Rattle.velo_traces.specs.Blocks.{block_at}
use Rattle.velo_traces.proofs.open.open_blocks_since.Goals as goal

-- where none is open before a position, those from there on are all
open_from-none : (trace : List Event) (t n : ℕ) → n ≤ length trace → ((b : ℕ) → b < n → IsFalse (is_open_at trace t b (length trace))) → open_from trace t n ≡ open_blocks trace t
open_from-none trace t zero within none = open_from-zero trace t
open_from-none trace t (suc n) within none =
    let next : n + 1 ≡ suc n = omega arith in
    sym (ap (open_from trace t) next) ∙ (sym (open_from-closed trace t n (omega (arith, within)) (none n (omega arith)))
    ∙ open_from-none trace t n (omega (arith, within)) (λ b below. none b (omega (arith, below))))

pub loop-at-init : goal.loop-at-init
loop-at-init c = record {
  few_ends = omega arith;
  ends = LeavesEnds-start c.args.events.now c.args.thread.0;
  blocks = c.new-blocks.ensures.items ∙ sym (ap (map (block_at c.args.events.now)) (open_from-end c.args.events.now c.args.thread.0));
  inline = c.new-blocks.ensures.capacity;
}

pub returns : goal.returns
returns c =
    let trace = c.args.events.now in let t = c.args.thread.0 in let at = c.loop-at.at in
    let within : at ≤ length trace = omega (arith, c.loop-at.invariant.few_ends) in
    c.loop-at.invariant.blocks ∙ ap (map (block_at trace)) (open_from-none trace t at within (λ b below. c.requires.none_before b (omega (arith, below))))
