use Rattle.std.proofs.Common.{ap, sym, ◌∙◌, rules}
use Rattle.velo_names.specs.Line.{lines}
use Rattle.velo_sidecars.specs.SiteAnswers.{header}
use Rattle.velo_sidecars.specs.Sites.{IsText, table_from}
use Rattle.velo_sidecars.proofs.OnReadingSites.{early}
use Rattle.velo_sidecars.proofs.sites.Sites.parse.Goals as goal

pub returns-then-not-is_whole : goal.returns-then-not-is_whole
returns-then-not-is_whole c =
    let bytes = c.args.bytes.now in
    let others = c.split_line.result.1.now in
    let text : IsText bytes = search rules in
    early bytes c.split_line.result.0.now others (header c.in-Some.found) c.take_lines.new.self c.in-Ok.last text
    c.split_line.ensures.line
    (sym c.in-Some.ensures)
    (ap (λ t. table_from (header c.in-Some.found) t 1 (lines others)) (sym c.new-sites.ensures) ∙ c.in-Ok.ensures.table)
    c.in-Ok.ensures.last
    (c.is_whole.ensures.partial (search rules))
