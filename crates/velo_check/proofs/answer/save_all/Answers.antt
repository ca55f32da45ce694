use Rattle.velo_check.proofs.OnAnswers.{handed_on, lost_one, saved_all, saved_one}
use Rattle.velo_check.proofs.answer.save_all.Goals as goal

pub loop-one-init : goal.loop-one-init
loop-one-init g c = record { leads = λ left result h. h }

pub loop-one-preserved : goal.loop-one-preserved
loop-one-preserved g c =
    saved_one g.T.StreamedText.is_text g.F.Files.disk c.args.files.now c.loop-one.files c.args.saves.now c.loop-one.one-index _ c.one-item.result c.loop-one-test.true c.one-item.is c.loop-one.invariant c.save_one.new.files tt
    c.in_ok-save_one.ensures

pub returns-in_err-save_one : goal.returns-in_err-save_one
returns-in_err-save_one g c =
    handed_on g.T.StreamedText.is_text g.F.Files.disk c.args.files.now c.save_one.new.files c.args.saves.now c.from_residual.result c.in_err-save_one.field-0.0 c.from_residual.ensures.1
    (lost_one g.T.StreamedText.is_text g.F.Files.disk c.args.files.now c.loop-one.files c.args.saves.now c.loop-one.one-index _ c.one-item.result c.loop-one-test.true c.one-item.is c.loop-one.invariant c.save_one.new.files c.in_err-save_one.field-0.0
    c.in_err-save_one.ensures)

pub returns : goal.returns
returns g c = saved_all g.T.StreamedText.is_text g.F.Files.disk c.args.files.now c.loop-one.files c.args.saves.now c.loop-one.one-index tt c.loop-one-test.false c.loop-one.invariant
