use Rattle.std.proofs.Common.{◌∙◌, refl, sym}
use Rattle.velo_explain.proofs.OnLatest.{other-next, own-next}
use Rattle.velo_explain.proofs.latest.LatestAccesses.take_in.Goals as goal

pub returns-then-owners-at-clause-latest : goal.returns-then-owners-at-clause-latest
returns-then-owners-at-clause-latest c =
    own-next c.args.events.now c.args.transaction c.args.at c.args.self.now c.note.new.self
    (sym (c.requires.owners.each c.args.at c.requires.within) ∙ c.if-owners-at.true) c.requires.places c.requires.latest
    _ refl c.note.ensures

pub returns-else-owners-at-clause-latest : goal.returns-else-owners-at-clause-latest
returns-else-owners-at-clause-latest c =
    other-next c.args.events.now c.args.transaction c.args.at c.args.self.now
    (λ e. c.if-owners-at.false (c.requires.owners.each c.args.at c.requires.within ∙ e)) c.requires.latest
