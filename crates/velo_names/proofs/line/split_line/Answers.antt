use Rattle.std.proofs.Common.{◌≡◌, ◌∷◌, [], ap, ◌∙◌, sym, take, drop, rules, arith}
use Rattle.velo_names.specs.Line.{lines}
use Rattle.velo_names.proofs.OnLines.{tail_of, no_bytes, first_line}
use Rattle.velo_names.proofs.line.split_line.Goals as goal

pub returns-in-Some-clause-line : goal.returns-in-Some-clause-line
returns-in-Some-clause-line c =
    let bytes = c.args.bytes.now in
    let rest : c.split_at.result.1.now ≡ c.in-Some.field-0-0.now ∷ c.in-Some.rest.now = search rules in
    first_line bytes c.requires
    ∙ ap (λ n. take n bytes ∷ lines (tail_of (drop n bytes))) (sym c.line_end.ensures.value)
    ∙ ap (λ r. r ∷ lines (tail_of (drop c.line_end.result bytes))) (sym c.split_at.ensures.front)
    ∙ ap (λ r. c.split_at.result.0.now ∷ lines (tail_of r)) (sym c.split_at.ensures.back ∙ rest)

pub returns-in-None-clause-line : goal.returns-in-None-clause-line
returns-in-None-clause-line c =
    let bytes = c.args.bytes.now in
    let rest : c.split_at.result.1.now ≡ [] = no_bytes c.split_at.result.1.now (grind (arith, c.in-None.is)) in
    first_line bytes c.requires
    ∙ ap (λ n. take n bytes ∷ lines (tail_of (drop n bytes))) (sym c.line_end.ensures.value)
    ∙ ap (λ r. r ∷ lines (tail_of (drop c.line_end.result bytes))) (sym c.split_at.ensures.front)
    ∙ ap (λ r. c.split_at.result.0.now ∷ lines (tail_of r)) (sym c.split_at.ensures.back ∙ rest)
    ∙ ap (λ r. c.split_at.result.0.now ∷ lines r) (sym rest)
