-- Fewer nodes, but as many as the threads squared, bring no other fault.
use Rattle.std.proofs.Common.{◌≡◌, ◌≢◌, ℕ, ◌*◌, ◌≤◌, ◌⊎◌, inl, inr, ⊎_elim, List, subst, ap, arith}
use Rattle.std.proofs.lemmas.Bool.{cases_eq}
use Rattle.velo_events.specs.declared.config.Bounds.{Bounds}
use Rattle.velo_events.specs.declared.config.Config.{Config}
use Rattle.velo_events.specs.declared.event.Event.{Event}
use Rattle.velo_events.specs.declared.refusal.Refusal.{Refusal}
use Rattle.velo_world.specs.Faults.{IsRefusedAt, IsAtNodeLimit, IsWrongValueAt, IsFaultOfLog}
use Rattle.velo_world.specs.declared.log_replay.LogReplayFault.{LogReplayFault}
use Rattle.velo_world.specs.declared.log_replay.LogReplayFault.TheVariants.{Refused, WrongValue, Memory}

limit-by : (limit few nodes : ℕ) (bounds : Bounds) (log : List Event) (p : ℕ) → (few ≢ nodes → bounds.threads * bounds.threads ≤ few) → IsAtNodeLimit limit few bounds log p → IsAtNodeLimit limit nodes bounds log p
limit-by limit few nodes bounds log p enough at =
    ⊎_elim
    (λ (same : few ≡ nodes). subst (λ n. IsAtNodeLimit limit n bounds log p) same at)
    (λ (other : few ≡ nodes → ⊥). absurd (omega (arith, enough other, at.no_node.finds_none.few_nodes)))
    (cases_eq few nodes)

refused-by : (limit few nodes : ℕ) (bounds : Bounds) (log : List Event) (p : ℕ) (refusal : Refusal) → (few ≢ nodes → bounds.threads * bounds.threads ≤ few) → IsRefusedAt limit few bounds log p refusal → IsRefusedAt limit nodes bounds log p refusal
refused-by limit few nodes bounds log p refusal enough (inl flawed) = inl flawed
refused-by limit few nodes bounds log p refusal enough (inr (inl full)) = inr (inl full)
refused-by limit few nodes bounds log p refusal enough (inr (inr (is, at))) = inr (inr (is, limit-by limit few nodes bounds log p enough at))

pub fault-by : (few config : Config) (log : List Event) (fault : LogReplayFault) → few.bounds ≡ config.bounds → few.events ≡ config.events → (few.nodes ≢ config.nodes → config.bounds.threads * config.bounds.threads ≤ few.nodes) → IsFaultOfLog few log fault → IsFaultOfLog config log fault
fault-by few config log (Refused p refusal) bounds events enough refused =
    refused-by config.events few.nodes config.nodes config.bounds log p refusal enough
    (subst (λ (b : Bounds). IsRefusedAt config.events few.nodes b log p refusal) bounds
    (subst (λ (n : ℕ). IsRefusedAt n few.nodes few.bounds log p refusal) events refused))
fault-by few config log (WrongValue p) bounds events enough wrong =
    subst (λ (b : Bounds). IsWrongValueAt config.events b log p) bounds
    (subst (λ (n : ℕ). IsWrongValueAt n few.bounds log p) events wrong)
fault-by few config log Memory bounds events enough refused = refused
