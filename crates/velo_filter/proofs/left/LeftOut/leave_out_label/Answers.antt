use Rattle.std.proofs.Common.{Result, Ok, Err}
use Rattle.std.specs.Prelude.{OnOk}
use Rattle.velo_filter.specs.Tables.{left_of}
use Rattle.velo_filter.proofs.OnTables.{with_labels-one}
use Rattle.velo_filter.proofs.left.LeftOut.leave_out_label.Goals as goal

on_ok : {A E : Type 0} {P Q : Type 0} (r : Result A E) → (P → Q) → OnOk r P → OnOk r Q
on_ok (Ok x) f h = f h
on_ok (Err e) f h = tt

pub returns-clause-ok : goal.returns-clause-ok
returns-clause-ok c = on_ok c.insert.result (with_labels-one (left_of c.args.self.now) _ c.args.label.0) c.insert.ensures.ok
