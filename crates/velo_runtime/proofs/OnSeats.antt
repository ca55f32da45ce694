-- What a seat learns of a turn whose action it names. An edit that names another action is refused at this lemma's premise.
use Rattle.std.proofs.Common.{◌≡◌, Ok, Err, List, ap, ◌∙◌, subst}
use Rattle.std.specs.Prelude.{Result, None, IfOk}
use Rattle.velo_events.specs.declared.event.Action.{Action}
use Rattle.velo_events.specs.declared.event.Event.{Event}
use Rattle.velo_events.specs.declared.event.Kind.{Kind}
use Rattle.velo_events.specs.declared.refusal.Refusal.{Refusal}
use Rattle.velo_events.specs.Meaning.{kind_for}
use Rattle.velo_ledger.specs.Views.{Holding}
use Rattle.velo_events.specs.Event.{value_read}
use Rattle.velo_world.specs.declared.analysis.Reply.{Reply}
use Rattle.velo_runtime.specs.Seats.{GainsEventAt, GainsEventOf, GainsEventBy}

-- the action is of one kind over every log, and reads nothing
pub gains_named : (old new : Holding) (result : Result Reply Refusal) (action : Action) (kind : Kind) → ((log : List Event) → kind_for log action ≡ kind) → value_read kind ≡ None → IfOk result (λ reply. GainsEventBy old new reply action) → IfOk result (λ reply. GainsEventOf old new reply kind)
gains_named old new (Ok reply) action kind named reads_none gains = record {
  value = gains.value ∙ (ap value_read (named gains.log) ∙ reads_none);
  gains = subst (λ k. GainsEventAt old new reply.position k) (named gains.log) gains.gains;
}
gains_named old new (Err refusal) action kind named reads_none gains = tt
