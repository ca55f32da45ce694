use Rattle.std.proofs.Common.{◌≡◌, ◌+◌, ◌<◌, List, ◌∷◌, [], ◌++◌, length, take, drop, get_or, refl, subst, ◌∙◌, arith}
use Rattle.std.specs.List.{flat_map}
use Rattle.std.proofs.lemmas.List.{take_more}
use Rattle.std.proofs.lemmas.Result.{err_from_is_err_and}
use Rattle.velo_traces.specs.declared.block.Block.{Block}
use Rattle.velo_report.specs.Alarm.{blame_text, blame_texts}
use Rattle.velo_report.specs.Lines.{Buffers}
use Rattle.velo_report.proofs.OnLines.{lines-more, lines-split}
use Rattle.velo_report.proofs.OnReports.{no_block}
use Rattle.velo_report.proofs.OnBuffering.{buffers-then, buffers-failed}
use Rattle.velo_report.proofs.alarm.add_all_blamed.Goals as goal

blame_texts-some : (blocks : List Block) → 0 < length blocks → blame_texts blocks ≡ flat_map blame_text blocks
blame_texts-some [] some = absurd (omega arith)
blame_texts-some (block ∷ blocks) some = refl

pub returns-in_err-add_blamed-clause-err : goal.returns-in_err-add_blamed-clause-err
returns-in_err-add_blamed-clause-err g c =
    let blocks = c.args.blamed.now in let i = c.loop-block.block-index in let block = get_or blocks i no_block in
    let more : take (i + 1) blocks ≡ take i blocks ++ block ∷ [] = take_more blocks i no_block c.loop-block-test.true in
    let p = err_from_is_err_and c.from_residual.result c.from_residual.ensures.1 in
    rw p.1 (buffers-failed _ _ _ _ _ (flat_map blame_text (take i blocks)) (blame_text block) (flat_map blame_text (drop (i + 1) blocks)) _ c.loop-block.invariant.buffers c.in_err-add_blamed.ensures.err
    (blame_texts-some blocks (omega (arith, c.loop-block-test.true)) ∙ lines-split blame_text blocks i block more))

pub loop-block-preserved : goal.loop-block-preserved
loop-block-preserved g c =
    let contents = g.S.Sink.contents in
    let blocks = c.args.blamed.now in let i = c.loop-block.block-index in let block = get_or blocks i no_block in
    let more : take (i + 1) blocks ≡ take i blocks ++ block ∷ [] = take_more blocks i no_block c.loop-block-test.true in
    record {
      buffers = subst (Buffers (contents c.args.sink.now) (contents c.add_blamed.new.sink) c.args.lines.now c.add_blamed.new.lines) (lines-more blame_text blocks i block more)
          (buffers-then _ _ _ _ _ _ (flat_map blame_text (take i blocks)) (blame_text block) c.loop-block.invariant.buffers c.in_ok-add_blamed.ensures.ok);
      failures = c.in_ok-add_blamed.ensures.no_failure ∙ c.loop-block.invariant.failures;
    }
