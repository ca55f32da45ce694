use Rattle.std.proofs.Common.{drop}
use Rattle.velo_check.proofs.OnAnswers.{Leads}
use Rattle.velo_check.proofs.answer.save_all.Given as goal

abbrev pub invariant-loop-one : goal.invariant-loop-one
invariant-loop-one g l = Leads g.T.StreamedText.is_text g.F.Files.disk l.fn.files l.files l.saves (drop l.one-index l.saves)
