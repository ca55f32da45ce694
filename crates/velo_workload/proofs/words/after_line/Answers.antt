use Rattle.std.proofs.Common.{◌≡◌, [], ◌∷◌, ap, ◌∙◌, sym, drop, rules, arith}
use Rattle.velo_workload.specs.Words.{lines_behind}
use Rattle.velo_workload.proofs.OnWords.{no_bytes}
use Rattle.velo_workload.proofs.words.after_line.Goals as goal

pub returns-in-Some-clause-lines : goal.returns-in-Some-clause-lines
returns-in-Some-clause-lines c =
    let bytes = c.args.bytes.now in
    let rest : c.split_at.result.1.now ≡ c.in-Some.field-0-0.now ∷ c.in-Some.rest.now = search rules in
    ap lines_behind (sym rest ∙ c.split_at.ensures.back ∙ ap (λ n. drop n bytes) c.line_end.ensures.value)

pub returns-in-None-clause-lines : goal.returns-in-None-clause-lines
returns-in-None-clause-lines c =
    let bytes = c.args.bytes.now in
    let rest : c.split_at.result.1.now ≡ [] = no_bytes c.split_at.result.1.now (grind (arith, c.in-None.is)) in
    ap lines_behind (sym rest ∙ c.split_at.ensures.back ∙ ap (λ n. drop n bytes) c.line_end.ensures.value)
