-- The two rules for states that stand for logs.
use Rattle.std.proofs.Common.{ℕ, List, [], ◌∷◌, ◌++◌}
use Rattle.velo_events.specs.declared.config.Bounds.{Bounds}
use Rattle.velo_events.specs.declared.event.Event.{Event}
use Rattle.velo_movers.specs.Programs.{IsProgram, IsLog, IsClean, LeadsToClean}
use Rattle.velo_movers.specs.Free.{IsFree, GoesAlong}
use Rattle.velo_movers.proofs.OnRules.{rule_of_all, rule_of_one}

module _ (bounds : Bounds) (May : ℕ → List Event → Type 0) (program : IsProgram May) (Bad : List Event → Type 0) (Stands : List Event → Type 0) where
  -- a state is clean that stands for nothing bad, and from which each next event leads to a clean one
  pub IsClean-all : ((log : List Event) → Stands log → ¬ Bad log) → ((log : List Event) (e : Event) → Stands log → IsLog bounds May (log ++ e ∷ []) → LeadsToClean bounds May Bad log e) → IsClean bounds May Bad Stands
  IsClean-all none next log here = rule_of_all bounds May program Bad log (none log here) (λ e follows. let w = next log e here follows in w.clean (log ++ e ∷ []) w.there)

  -- and one from which a free event leads to a clean one
  pub IsClean-one : GoesAlong bounds May Bad → ((log : List Event) → Stands log → (e : Event) × IsLog bounds May (log ++ e ∷ []) × IsFree bounds May log e × LeadsToClean bounds May Bad log e) → IsClean bounds May Bad Stands
  IsClean-one along next log here =
      let w = next log here in
      rule_of_one bounds May program Bad along log w.0 w.1 w.2 (w.3.clean (log ++ w.0 ∷ []) w.3.there)
