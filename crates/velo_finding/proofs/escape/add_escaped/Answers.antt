use Rattle.std.proofs.Common.{get_or}
use Rattle.std.proofs.lemmas.List.{take_more}
use Rattle.json.specs.Print.{escape_byte}
use Rattle.velo_finding.proofs.OnLists.{flat_map-next}
use Rattle.velo_finding.proofs.escape.add_escaped.Goals as goal

pub loop-byte-preserved : goal.loop-byte-preserved
loop-byte-preserved c =
    let xs = c.args.bytes.now in let i = c.loop-byte.byte-index in
    flat_map-next escape_byte xs i (get_or xs i 0) c.args.text.now.items _ _ (take_more xs i 0 c.loop-byte-test.true) c.loop-byte.invariant c.in_ok-add_escaped_byte.ensures
