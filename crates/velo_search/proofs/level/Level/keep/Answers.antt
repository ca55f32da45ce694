use Rattle.std.proofs.Common.{◌≡◌, [], ◌∷◌, ◌++◌, sym, subst, rules}
use Rattle.std.specs.Prelude.{Contains}
use Rattle.std.proofs.lemmas.List.Elements.{Contains-push}
use Rattle.velo_search.proofs.OnSameStates.{among-at}
use Rattle.velo_search.proofs.level.Level.keep.Goals as goal

pub returns-clause-there : goal.returns-clause-there
returns-clause-there c =
    let old = c.args.self.now.states.items in
    let items : c.note.new.self.states.items ≡ old ++ c.args.state ∷ [] = search rules in
    record {
      member = c.args.state;
      there = subst (λ xs. Contains xs c.args.state) (sym items) (Contains-push old c.args.state);
      logs = λ rest log stands. stands;
    }

pub returns-then-has_at-clause-there : goal.returns-then-has_at-clause-there
returns-then-has_at-clause-there c = among-at c.args.self.now.states.items c.guess.result c.args.state (c.has_at.ensures.0 c.if-has_at.true)
