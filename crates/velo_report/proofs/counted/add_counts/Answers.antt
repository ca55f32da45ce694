use Rattle.std.proofs.Common.{ℕ, ◌++◌, length, subst, ◌∙◌}
use Rattle.std.specs.List.{flat_map, range_with_len}
use Rattle.std.proofs.lemmas.Result.{err_from_is_err_and}
use Rattle.velo_bytes.specs.Device.{AppendsBeginning}
use Rattle.velo_report.specs.Lines.{Buffers}
use Rattle.velo_report.specs.Report.{count_line, thread_line}
use Rattle.velo_report.proofs.OnReports.{counted_events, threads-more, threads-split, later}
use Rattle.velo_report.proofs.OnBuffering.{buffers-then, buffers-failed}
use Rattle.velo_report.proofs.counted.add_counts.Goals as goal

pub returns-in_err-add_thread-clause-err : goal.returns-in_err-add_thread-clause-err
returns-in_err-add_thread-clause-err g c log are =
    let line = thread_line c.args.names.now log in let t = c.loop-thread.thread in let n = length c.args.counts.now in
    let count = counted_events log c.args.counts.now t are c.loop-thread-test.true in
    let failed = subst (λ (k : ℕ). AppendsBeginning (g.S.Sink.contents c.loop-thread.sink) (g.S.Sink.contents c.add_thread.new.sink) (c.loop-thread.lines ++ count_line c.args.names.now t k)) count c.in_err-add_thread.ensures.err in
    let p = err_from_is_err_and c.from_residual.result c.from_residual.ensures.1 in
    rw p.1 (buffers-failed _ _ _ _ _ (flat_map line (range_with_len 0 t)) (line t) (later line t n) _ (c.loop-thread.invariant.buffers log are) failed
    (threads-split line t n c.loop-thread-test.true))

pub loop-thread-preserved : goal.loop-thread-preserved
loop-thread-preserved g c =
    let contents = g.S.Sink.contents in
    let t = c.loop-thread.thread in
    record {
      buffers = λ log are.
          let line = thread_line c.args.names.now log in
          let count = counted_events log c.args.counts.now t are c.loop-thread-test.true in
          let more = subst (λ (k : ℕ). Buffers (contents c.loop-thread.sink) (contents c.add_thread.new.sink) c.loop-thread.lines c.add_thread.new.lines (count_line c.args.names.now t k)) count c.in_ok-add_thread.ensures.ok in
          subst (Buffers (contents c.args.sink.now) (contents c.add_thread.new.sink) c.args.lines.now c.add_thread.new.lines) (threads-more line t)
          (buffers-then _ _ _ _ _ _ (flat_map line (range_with_len 0 t)) (line t) (c.loop-thread.invariant.buffers log are) more);
      failures = c.in_ok-add_thread.ensures.no_failure ∙ c.loop-thread.invariant.failures;
    }
