use Rattle.std.proofs.Common.{arith, ◌∙◌}
use Rattle.std.proofs.lemmas.List.{take_rest}
use Rattle.std.proofs.lemmas.Result.{err_from_is_err_and}
use Rattle.velo_bytes.proofs.OnDevices.{appends_more, appends_failed}
use Rattle.velo_bytes.proofs.device.write_all.Goals as goal

pub loop-done-preserved : goal.loop-done-preserved
loop-done-preserved g c =
    let taken = rw take_rest at c.in_ok-taken.ensures.bytes in
    record {
      within = grind (arith, c.in_ok-taken.ensures.bound);
      written = appends_more _ _ _ c.args.bytes.now c.loop-done.done c.in_ok-taken.taken c.loop-done.invariant.written taken;
      failures = c.in_ok-taken.ensures.ok ∙ c.loop-done.invariant.failures;
    }

pub returns-in_err-taken-clause-err : goal.returns-in_err-taken-clause-err
returns-in_err-taken-clause-err g c =
    let p = err_from_is_err_and c.from_residual.result c.from_residual.ensures.1 in
    rw p.1 (appends_failed _ _ _ c.args.bytes.now c.loop-done.done c.loop-done.invariant.written c.in_err-taken.ensures.bytes)
