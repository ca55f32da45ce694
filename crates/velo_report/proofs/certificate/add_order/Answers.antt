use Rattle.std.proofs.Common.{List, ℕ, ◌++◌, refl, subst, ◌∙◌}
use Rattle.std.specs.Prelude.{codes, slice_index}
use Rattle.std.proofs.lemmas.Result.{err_from_is_err_and}
use Rattle.velo_bytes.specs.Device.{AppendsBeginning}
use Rattle.velo_report.specs.Certificate.{serial_line}
use Rattle.velo_report.specs.Lines.{Buffers, numbers_line}
use Rattle.velo_report.proofs.OnCertificates.{run_items, run_next, run_split, lines_before, lines_from}
use Rattle.velo_report.proofs.OnBuffering.{buffers-nothing, buffers-then, buffers-failed}
use Rattle.velo_report.proofs.OnRuns.{IsStart-first, IsStart-next}
use Rattle.velo_report.proofs.certificate.add_order.Goals as goal

pub loop-from-init : goal.loop-from-init
loop-from-init g c =
    record {
      buffers = buffers-nothing _ _;
      failures = refl;
      start = λ some. IsStart-first c.args.events.now c.args.order.now c.requires.reorders some;
    }

pub loop-from-preserved : goal.loop-from-preserved
loop-from-preserved g c =
    let contents = g.S.Sink.contents in
    let log = c.args.events.now in let order = c.args.order.now in let from = c.loop-from.from in let end = c.run_end-end.result in let run = c.run_end-end.ensures in
    let a = slice_index order from in
    record {
      buffers = subst (Buffers (contents c.args.sink.now) (contents c.add_numbers.new.sink) c.args.lines.now c.add_numbers.new.self) (run_next log order from end run)
          (buffers-then _ _ _ _ _ _ (lines_before log order from end run from) (serial_line log a) c.loop-from.invariant.buffers
          (subst (λ (items : List ℕ). Buffers (contents c.loop-from.sink) (contents c.add_numbers.new.sink) c.loop-from.lines c.add_numbers.new.self (numbers_line (codes "serial") items)) (run_items log order from end run) c.in_ok-add_numbers.ensures.ok));
      failures = c.in_ok-add_numbers.ensures.no_failure ∙ c.loop-from.invariant.failures;
      start = IsStart-next log order c.requires.reorders c.requires.serial from end c.loop-from-test.true run;
    }

pub returns-in_err-add_numbers-clause-err : goal.returns-in_err-add_numbers-clause-err
returns-in_err-add_numbers-clause-err g c =
    let contents = g.S.Sink.contents in
    let log = c.args.events.now in let order = c.args.order.now in let from = c.loop-from.from in let end = c.run_end-end.result in let run = c.run_end-end.ensures in
    let a = slice_index order from in
    let p = err_from_is_err_and c.from_residual.result c.from_residual.ensures.1 in
    rw p.1 (buffers-failed _ _ _ _ _ (lines_before log order from end run from) (serial_line log a) (lines_from log order from end run end) _ c.loop-from.invariant.buffers
    (subst (λ (items : List ℕ). AppendsBeginning (contents c.loop-from.sink) (contents c.add_numbers.new.sink) (c.loop-from.lines ++ numbers_line (codes "serial") items)) (run_items log order from end run) c.in_err-add_numbers.ensures.err)
    (run_split log order from end run))
