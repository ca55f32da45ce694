use Rattle.std.proofs.Common.{◌∙◌, rules, tests}
use Rattle.std.proofs.lemmas.Iterator.{YieldsList-from_slice}
use Rattle.std.proofs.lemmas.Iterator.Search.{any_from_yields_List}
use Rattle.velo_sidecars.specs.ListAnswers.{entry}
use Rattle.velo_sidecars.specs.Known.{is_all_locks}
use Rattle.velo_sidecars.proofs.OnKnown.{any_of_all}
use Rattle.velo_sidecars.proofs.meaning.has_all_locks.Goals as goal

pub returns : goal.returns
returns c =
    let found = c.args.found.now in
    any_from_yields_List (λ f. is_all_locks (entry f)) _ _ c.any.result c.any.ensures.ran (YieldsList-from_slice found cc) (λ x b q k. search (rules, tests)) ∙ any_of_all found
