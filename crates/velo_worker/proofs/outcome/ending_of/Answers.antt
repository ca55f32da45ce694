use Rattle.std.proofs.Common.{◌∙◌, sym, subst}
use Rattle.std.proofs.lemmas.Bool.{false≢true}
use Rattle.velo_worker.specs.Live.{LeastMet}
use Rattle.velo_worker.proofs.OnEndings.{all_done}
use Rattle.velo_worker.proofs.outcome.ending_of.Goals as goal

pub returns-in-None-2-clause-ending : goal.returns-in-None-2-clause-ending
returns-in-None-2-clause-ending c =
    all_done c.args.ended.now (λ gated. false≢true (sym c.if-is_any_gated.false ∙ c.is_any_gated.ensures.1 gated))
    (subst (LeastMet c.args.ended.now) c.in-None-2.is c.least_met.ensures.least)
    (λ halted. false≢true (sym c.if-is_any_halted.false ∙ c.is_any_halted.ensures.1 halted))
