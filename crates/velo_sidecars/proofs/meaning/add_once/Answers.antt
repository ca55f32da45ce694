use Rattle.std.proofs.Common.{◌∙◌, ◌∷◌, ◌++◌, [], ap}
use Rattle.velo_sidecars.proofs.OnKnown.{more_seen}
use Rattle.velo_sidecars.proofs.meaning.add_once.Goals as goal

pub returns-clause-seen : goal.returns-clause-seen
returns-clause-seen c =
    more_seen _ _ _ _ c.args.number c.requires.seen c.in_ok-insert.ensures.ok (c.push_reserved.ensures.items ∙ ap (λ ns. ns ++ c.args.number ∷ []) c.reserve.ensures.items)
