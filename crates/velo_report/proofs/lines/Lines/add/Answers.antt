use Rattle.std.proofs.lemmas.Result.{on_ok_weaker, on_err_weaker}
use Rattle.velo_report.proofs.OnBuffering.{buffers-written, written-failed}
use Rattle.velo_report.proofs.lines.Lines.add.Goals as goal

pub returns-clause-ok : goal.returns-clause-ok
returns-clause-ok g c = on_ok_weaker c.write_all.result (buffers-written _ _ _ _ _ _ c.in_ok-flush.ensures.ok c.in_ok-flush.ensures.empty) c.write_all.ensures.ok

pub returns-clause-err : goal.returns-clause-err
returns-clause-err g c = on_err_weaker c.write_all.result (written-failed _ _ _ _ _ c.in_ok-flush.ensures.ok) c.write_all.ensures.err
