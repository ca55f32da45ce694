-- A log without a cycle has no rounds, whatever is left out.
use Rattle.std.proofs.Common.{◌≡◌, ◌≤◌, ◌+◌, Bool, List, [], length, map, None, refl}
use Rattle.std.specs.Prelude.{All}
use Rattle.velo_events.specs.declared.event.Event.{Event}
use Rattle.velo_events.specs.Graph.{HasCycle}
use Rattle.velo_events.specs.Reordering.{IsSerializable}
use Rattle.velo_filter.specs.Left.{Omitted, rest_of, with_labels}
use Rattle.velo_filter.proofs.OnKept.{HasCycle-rest}
use Rattle.velo_audit.specs.Audit.{RoundTells, TellsTruly, AreWitnessed, StandsAt}
use Rattle.velo_audit.specs.Rounds.{Rounds, AreTheOnlyRounds, AreFound, labels_found, labels_left}
use Rattle.velo_audit.specs.Tells.{numbers_of}
use Rattle.velo_audit.specs.declared.told.Told.{Told}
use Rattle.velo_audit.proofs.OnAudit.{StandsAt-start, audit-rounds, audit-left, audit-only, audit-found, audit-few, audit-serializable}

module _ (with_witness : Bool) (log : List Event) (left : Omitted) (rounds : List Told) (empty : rounds ≡ []) (none : ¬ HasCycle log) where
  stands : StandsAt with_witness log left rounds left
  stands = StandsAt-start with_witness log left rounds empty

  tells : RoundTells with_witness log left None
  tells c = none (HasCycle-rest left log c)

  pub clean-rounds : Rounds log left (map numbers_of rounds)
  clean-rounds = audit-rounds with_witness log left rounds left stands None tells left refl refl

  pub clean-only : AreTheOnlyRounds log left (map numbers_of rounds)
  clean-only = audit-only with_witness log left rounds left stands None tells left refl refl

  pub clean-truly : All (TellsTruly log) rounds
  clean-truly = stands.truly

  pub clean-witnessed : AreWitnessed with_witness log left rounds
  clean-witnessed = stands.witnessed

  pub clean-found : AreFound log left (labels_found log (map numbers_of rounds))
  clean-found = audit-found with_witness log left rounds left stands None tells left refl refl

  pub clean-left : left ≡ with_labels left (labels_found log (map numbers_of rounds))
  clean-left = audit-left with_witness log left rounds left stands None tells left refl refl

  pub clean-few : length rounds + labels_left left log ≤ labels_left left log
  clean-few = audit-few with_witness log left rounds left stands None tells left refl refl

  pub clean-serializable : IsSerializable (rest_of left log)
  clean-serializable = audit-serializable with_witness log left rounds left stands None tells left refl refl
