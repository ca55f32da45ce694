use Rattle.std.proofs.Common.{◌≡◌, ◌+◌, ◌∷◌, [], ◌++◌, take, drop, get_or, subst, ◌∙◌, arith}
use Rattle.std.specs.List.{flat_map}
use Rattle.std.proofs.lemmas.List.{take_more}
use Rattle.std.proofs.lemmas.Result.{err_from_is_err_and}
use Rattle.velo_report.specs.Lines.{Buffers}
use Rattle.velo_report.specs.Report.{blame_line}
use Rattle.velo_report.proofs.OnLines.{lines-more, lines-split}
use Rattle.velo_report.proofs.OnReports.{no_block, blame_lines-some}
use Rattle.velo_report.proofs.OnBuffering.{buffers-then, buffers-failed}
use Rattle.velo_report.proofs.closed.add_blame.Goals as goal

pub returns-in_err-add_block-clause-err : goal.returns-in_err-add_block-clause-err
returns-in_err-add_block-clause-err g c =
    let blocks = c.args.blamed.now in let i = c.loop-block.block-index in let block = get_or blocks i no_block in
    let line = blame_line c.args.names.now in
    let more : take (i + 1) blocks ≡ take i blocks ++ block ∷ [] = take_more blocks i no_block c.loop-block-test.true in
    let p = err_from_is_err_and c.from_residual.result c.from_residual.ensures.1 in
    rw p.1 (buffers-failed _ _ _ _ _ (flat_map line (take i blocks)) (line block) (flat_map line (drop (i + 1) blocks)) _ c.loop-block.invariant.buffers c.in_err-add_block.ensures.err
    (blame_lines-some c.args.names.now blocks (omega (arith, c.loop-block-test.true)) ∙ lines-split line blocks i block more))

pub loop-block-preserved : goal.loop-block-preserved
loop-block-preserved g c =
    let contents = g.S.Sink.contents in
    let blocks = c.args.blamed.now in let i = c.loop-block.block-index in let block = get_or blocks i no_block in
    let line = blame_line c.args.names.now in
    let more : take (i + 1) blocks ≡ take i blocks ++ block ∷ [] = take_more blocks i no_block c.loop-block-test.true in
    record {
      buffers = subst (Buffers (contents c.args.sink.now) (contents c.add_block.new.sink) c.args.lines.now c.add_block.new.lines) (lines-more line blocks i block more)
          (buffers-then _ _ _ _ _ _ (flat_map line (take i blocks)) (line block) c.loop-block.invariant.buffers c.in_ok-add_block.ensures.ok);
      failures = c.in_ok-add_block.ensures.no_failure ∙ c.loop-block.invariant.failures;
    }
