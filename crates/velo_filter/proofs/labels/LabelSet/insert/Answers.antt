use Rattle.std.proofs.Common.{ap, ◌∙◌, Result, Ok, Err}
use Rattle.std.specs.Prelude.{OnOk}
use Rattle.velo_filter.specs.Left.{is_listed}
use Rattle.velo_filter.proofs.OnTables.{is_listed-insert}
use Rattle.velo_filter.proofs.labels.LabelSet.insert.Goals as goal

on_ok : {A E : Type 0} {P Q : Type 0} (r : Result A E) → (P → Q) → OnOk r P → OnOk r Q
on_ok (Ok x) f h = f h
on_ok (Err e) f h = tt

pub returns-clause-ok : goal.returns-clause-ok
returns-clause-ok c = on_ok c.insert.result
    (λ is. λ i n. (ap (λ xs. is_listed xs n) is ∙ is_listed-insert c.args.self.now.labels.keys c.args.label.0 n) i)
    c.insert.ensures.numbers
