use Rattle.std.proofs.Common.{◌++◌, length, refl}
use Rattle.std.specs.Option.{option_copied}
use Rattle.std.proofs.lemmas.Result.{on_ok_weaker, on_err_weaker, err_from_is_err_and}
use Rattle.velo_report.specs.Report.{thread_lines, verdict_lines}
use Rattle.velo_report.proofs.OnReports.{total_line, whole_report, part_of_report}
use Rattle.velo_report.proofs.OnBuffering.{buffers-then, buffers-flushed, buffers-failed, first-failed, last-failed, flush-failed}
use Rattle.velo_report.proofs.counted.report_counts.Goals as goal

pub returns-in_err-add_line-clause-err : goal.returns-in_err-add_line-clause-err
returns-in_err-add_line-clause-err g c log are =
    let names = c.args.names.now in let n = length c.args.counts.now in let told = c.args.alarm in
    let events = total_line c.args.events in let threads = thread_lines names log n in let verdict = verdict_lines names (option_copied told) in
    let p = err_from_is_err_and c.from_residual.result c.from_residual.ensures.1 in
    rw p.1 (part_of_report names n log told c.args.events are.exact are.total _ _ _ c.new-lines.ensures
    (first-failed _ _ _ events (threads ++ verdict) _ c.in_err-add_line.ensures.err refl))

pub returns-in_err-add_counts-clause-err : goal.returns-in_err-add_counts-clause-err
returns-in_err-add_counts-clause-err g c log are =
    let names = c.args.names.now in let n = length c.args.counts.now in let told = c.args.alarm in
    let events = total_line c.args.events in let threads = thread_lines names log n in let verdict = verdict_lines names (option_copied told) in
    let p = err_from_is_err_and c.from_residual-in_err-add_counts.result c.from_residual-in_err-add_counts.ensures.1 in
    rw p.1 (part_of_report names n log told c.args.events are.exact are.total _ _ _ c.new-lines.ensures
    (buffers-failed _ _ _ _ _ events threads verdict _ c.in_ok-add_line.ensures.ok (c.in_err-add_counts.ensures.err log are.each) refl))

pub returns-in_err-add_verdict-clause-err : goal.returns-in_err-add_verdict-clause-err
returns-in_err-add_verdict-clause-err g c log are =
    let names = c.args.names.now in let n = length c.args.counts.now in let told = c.args.alarm in
    let events = total_line c.args.events in let threads = thread_lines names log n in let verdict = verdict_lines names (option_copied told) in
    let p = err_from_is_err_and c.from_residual-in_err-add_verdict.result c.from_residual-in_err-add_verdict.ensures.1 in
    rw p.1 (part_of_report names n log told c.args.events are.exact are.total _ _ _ c.new-lines.ensures
    (last-failed _ _ _ _ _ events (threads ++ verdict) c.in_ok-add_line.ensures.ok
    (last-failed _ _ _ _ _ threads verdict (c.in_ok-add_counts.ensures.ok log are.each) c.in_err-add_verdict.ensures.err)))

pub returns-clause-ok : goal.returns-clause-ok
returns-clause-ok g c log are =
    let names = c.args.names.now in let n = length c.args.counts.now in let told = c.args.alarm in
    let events = total_line c.args.events in let threads = thread_lines names log n in let verdict = verdict_lines names (option_copied told) in
    let all = buffers-then _ _ _ _ _ _ events (threads ++ verdict) c.in_ok-add_line.ensures.ok
    (buffers-then _ _ _ _ _ _ threads verdict (c.in_ok-add_counts.ensures.ok log are.each) c.in_ok-add_verdict.ensures.ok) in
    on_ok_weaker c.flush.result
    (λ p. whole_report names n log told c.args.events are.exact are.total _ _ _ c.new-lines.ensures (buffers-flushed _ _ _ _ _ (events ++ (threads ++ verdict)) all p))
    c.flush.ensures.ok

pub returns-clause-err : goal.returns-clause-err
returns-clause-err g c log are =
    let names = c.args.names.now in let n = length c.args.counts.now in let told = c.args.alarm in
    let events = total_line c.args.events in let threads = thread_lines names log n in let verdict = verdict_lines names (option_copied told) in
    let all = buffers-then _ _ _ _ _ _ events (threads ++ verdict) c.in_ok-add_line.ensures.ok
    (buffers-then _ _ _ _ _ _ threads verdict (c.in_ok-add_counts.ensures.ok log are.each) c.in_ok-add_verdict.ensures.ok) in
    on_err_weaker c.flush.result
    (λ p. part_of_report names n log told c.args.events are.exact are.total _ _ _ c.new-lines.ensures (flush-failed _ _ _ _ _ (events ++ (threads ++ verdict)) all p))
    c.flush.ensures.err
