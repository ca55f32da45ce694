use Rattle.std.proofs.Common.{◌≡◌, true, sym, ◌∙◌}
use Rattle.velo_workload.specs.Words.{is_name}
use Rattle.velo_workload.proofs.OnPhrases.{name_text}
use Rattle.velo_workload.proofs.naming.name.Goals as goal

pub from_utf8_unchecked-requires : goal.from_utf8_unchecked-requires
from_utf8_unchecked-requires c =
    let yes : is_name c.args.word.now ≡ true = sym c.is_name.ensures ∙ c.if-not-is_name.false in
    name_text c.args.word.now yes
