use Rattle.std.proofs.Common.{sym, ap, ◌∙◌}
use Rattle.json.specs.Print.{print}
use Rattle.velo_finding.proofs.OnWriter.{text_printed}
use Rattle.velo_finding.proofs.writer.JsonWriter.into_text.Goals as goal

pub returns : goal.returns
returns c = text_printed c.self.inside c.self.invariant ∙ ap print c.self.view_is
