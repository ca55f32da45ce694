use Rattle.std.proofs.Common.{inl, inr, refl}
use Rattle.velo_check.proofs.operands.open_apart.Goals as goal
use Rattle.velo_check.proofs.OnFiles.{to_be_written}

pub returns-then-are_one_target-clause-barred : goal.returns-then-are_one_target-clause-barred
returns-then-are_one_target-clause-barred g c = inr (inl (inl (refl, c.are_one_target.ensures c.if-are_one_target.true)))

pub returns-in-Err-clause-barred : goal.returns-in-Err-clause-barred
returns-in-Err-clause-barred g c = inl c.in-Err.ensures.barred

pub returns-then-is_read_file-clause-barred : goal.returns-then-is_read_file-clause-barred
returns-then-is_read_file-clause-barred g c =
    inr (inl (inr (refl, to_be_written (g.F.Files.disk c.args.files.now) c.args.input c.args.beside.path (c.is_read_file.ensures c.if-is_read_file.true), (_, c.in-Ok.ensures.given c.in-Ok.file))))
