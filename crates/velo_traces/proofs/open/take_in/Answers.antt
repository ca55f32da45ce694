use Rattle.std.proofs.Common.{length, map, sym, ap, ◌∙◌, ◌+◌, ◌∷◌, arith}
use Rattle.std.proofs.lemmas.List.{length-map}
use Rattle.velo_events.specs.Scan.{open_from}
use Rattle.velo_events.proofs.OnOpenBlocks.{length-open_from}
use Rattle.velo_traces.specs.Blocks.{block_at}
use Rattle.velo_traces.proofs.OnOpen.{blocks-found, blocks-none}
use Rattle.velo_traces.proofs.open.take_in.Goals as goal

pub put_first-requires-clause-room : goal.put_first-requires-clause-room
put_first-requires-clause-room c =
    let trace = c.args.events.now in let t = c.args.thread.0 in let n = c.args.at in
    let one_more = ap length (blocks-found trace t n c.in-Some.block c.requires.within (sym c.in-Some.is ∙ c.scan_back-found.ensures.block)) in
    let here = length-map (open_from trace t n) (block_at trace) in
    let among = length-open_from trace t n (omega (arith, c.requires.within)) in
    let kept = ap length c.requires.blocks in
    omega (arith, one_more, here, among, kept, c.requires.few_blocks)

pub returns-in-Some-clause-blocks : goal.returns-in-Some-clause-blocks
returns-in-Some-clause-blocks c =
    let trace = c.args.events.now in let t = c.args.thread.0 in let n = c.args.at in
    c.put_first.ensures.items
    ∙ (ap (λ rest. c.in-Some.block ∷ rest) c.requires.blocks
    ∙ sym (blocks-found trace t n c.in-Some.block c.requires.within (sym c.in-Some.is ∙ c.scan_back-found.ensures.block)))

pub returns-in_default-clause-blocks : goal.returns-in_default-clause-blocks
returns-in_default-clause-blocks c =
    let trace = c.args.events.now in let t = c.args.thread.0 in let n = c.args.at in
    c.requires.blocks ∙ sym (blocks-none trace t n c.requires.within (sym c.in_default.is ∙ c.scan_back-found.ensures.block))
