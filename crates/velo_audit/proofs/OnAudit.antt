-- One round after another.
use Rattle.std.proofs.Common.{◌≡◌, zero, suc, ◌+◌, ◌<◌, ◌≤◌, List, [], ◌∷◌, ◌++◌, length, map, Option, Some, None, refl, sym, ap, ◌∙◌, subst, arith}
use Rattle.std.specs.Prelude.{All, Bool}
use Rattle.std.proofs.lemmas.List.{length-map, map-append}
use Rattle.std.proofs.lemmas.List.Elements.{All-append}
use Rattle.velo_events.specs.declared.event.Event.{Event}
use Rattle.velo_events.specs.Graph.{HasCycle}
use Rattle.velo_events.specs.Reordering.{IsSerializable}
use Rattle.velo_filter.specs.Left.{Omitted, rest_of, with_labels}
use Rattle.velo_audit.specs.Rounds.{IsRound, Rounds, AreTheOnlyRounds, FirstRounds, AreFound, labels_told, labels_found, left_after, labels_left}
use Rattle.velo_audit.specs.Rounds as round
use Rattle.velo_audit.specs.Tells.{numbers_of}
use Rattle.velo_audit.specs.Audit.{TellsTruly, AreWitnessed, RoundTells, left_behind, StandsAt, IsFullAt, IsRoundFault, IsAuditFault}
use Rattle.velo_events.specs.declared.config.Config.{Config}
use Rattle.velo_audit.specs.declared.round.AuditFault.{AuditFault}
use Rattle.velo_audit.specs.declared.round.AuditFault.TheVariants.{Memory, GraphFull}
use Rattle.velo_audit.specs.Witness.{HasWitness}
use Rattle.velo_audit.specs.declared.told.Told.{Told}
use Rattle.velo_audit.proofs.OnWitness.{witness-within}
use Rattle.velo_audit.proofs.OnUnique.{Rounds-unique}
use Rattle.velo_audit.proofs.OnRounds.{told-blamed, round-fewer, rounds-few, rounds-serializable, rounds-found, rounds-left}

FirstRounds-push : (log : List Event) (left : Omitted) (rounds : List round.RoundNumbers) (told : round.RoundNumbers) → FirstRounds log left rounds → IsRound log (left_after log left rounds) told → FirstRounds log left (rounds ++ told ∷ [])
unfolding FirstRounds left_after
FirstRounds-push log left [] told h r = (r, tt)
FirstRounds-push log left (t ∷ rest) told h r = (h.0, FirstRounds-push log (with_labels left (labels_told log t)) rest told h.1 r)

left_after-push : (log : List Event) (left : Omitted) (rounds : List round.RoundNumbers) (told : round.RoundNumbers) → left_after log left (rounds ++ told ∷ []) ≡ with_labels (left_after log left rounds) (labels_told log told)
unfolding left_after
left_after-push log left [] told = refl
left_after-push log left (t ∷ rest) told = left_after-push log (with_labels left (labels_told log t)) rest told

AreWitnessed-push : (with_witness : Bool) (log : List Event) (left : Omitted) (rounds : List Told) (told : Told) → AreWitnessed with_witness log left rounds → HasWitness with_witness log (left_after log left (map numbers_of rounds)) told.closing told.witness → AreWitnessed with_witness log left (rounds ++ told ∷ [])
unfolding AreWitnessed left_after
AreWitnessed-push with_witness log left [] told h w = (w, tt)
AreWitnessed-push with_witness log left (t ∷ rest) told h w = (h.0, AreWitnessed-push with_witness log (with_labels left (labels_told log (numbers_of t))) rest told h.1 w)

Rounds-from : (log : List Event) (left : Omitted) (rounds : List round.RoundNumbers) → FirstRounds log left rounds → ¬ HasCycle (rest_of (left_after log left rounds) log) → Rounds log left rounds
unfolding FirstRounds left_after Rounds
Rounds-from log left [] h none = none
Rounds-from log left (t ∷ rest) h none = (h.0, Rounds-from log (with_labels left (labels_told log t)) rest h.1 none)

pub StandsAt-start : (with_witness : Bool) (log : List Event) (start : Omitted) (rounds : List Told) → rounds ≡ [] → StandsAt with_witness log start rounds start
unfolding FirstRounds left_after AreWitnessed
StandsAt-start with_witness log start rounds none = subst (λ xs. StandsAt with_witness log start xs start) (sym none) (record { first = tt; behind = refl; truly = λ k d l. absurd (omega (arith, l)); witnessed = tt })

-- why the next round does not come to its end is why the audit does not
pub audit-fault : (with_witness : Bool) (config : Config) (log : List Event) (start : Omitted) (rounds : List Told) (left : Omitted) → StandsAt with_witness log start rounds left → (fault : AuditFault) → IsRoundFault config log left fault → IsAuditFault config log start fault
audit-fault with_witness config log start rounds left w Memory h = h
audit-fault with_witness config log start rounds left w (GraphFull place) h = record {
  rounds = map numbers_of rounds;
  are_first = w.first;
  is_full = subst (λ x. IsFullAt config log x place) w.behind h;
}

module _ (with_witness : Bool) (log : List Event) (start : Omitted) (rounds : List Told) (left : Omitted) (w : StandsAt with_witness log start rounds left) (answer : Option Told) (tells : RoundTells with_witness log left answer) (new : Omitted) (behind : new ≡ left_behind log left answer) where
  -- a round with an alarm leaves out more
  pub audit-smaller : (told : Told) → answer ≡ Some told → labels_left new log < labels_left left log
  audit-smaller told is =
      let r = subst (RoundTells with_witness log left) is tells in
      let fewer = round-fewer log left (numbers_of told) r.0 in
      omega (arith, fewer, ap (λ x. labels_left x log) (behind ∙ ap (left_behind log left) is))

  pub StandsAt-push : (told : Told) → answer ≡ Some told → (more : List Told) → more ≡ rounds ++ told ∷ [] → StandsAt with_witness log start more new
  StandsAt-push told is more pushed =
      let r = subst (RoundTells with_witness log left) is tells in
      let together : map numbers_of (rounds ++ told ∷ []) ≡ map numbers_of rounds ++ numbers_of told ∷ [] = map-append numbers_of rounds (told ∷ []) in
      subst (λ xs. StandsAt with_witness log start xs new) (sym pushed) (record {
        first = subst (FirstRounds log start) (sym together) (FirstRounds-push log start (map numbers_of rounds) (numbers_of told) w.first (subst (λ x. IsRound log x (numbers_of told)) w.behind r.0));
        behind = behind ∙ (ap (left_behind log left) is ∙ (ap (λ x. with_labels x (labels_told log (numbers_of told))) w.behind ∙ (sym (left_after-push log start (map numbers_of rounds) (numbers_of told)) ∙ ap (left_after log start) (sym together))));
        truly = All-append (TellsTruly log) rounds (told ∷ []) w.truly (one told (r.1, told-blamed log left (numbers_of told) r.0, witness-within with_witness log left told.closing told.witness r.2));
        witnessed = AreWitnessed-push with_witness log start rounds told w.witnessed (subst (λ x. HasWitness with_witness log x told.closing told.witness) w.behind r.2);
      })
    where
      one : (t : Told) → TellsTruly log t → All (TellsTruly log) (t ∷ [])
      one t h zero d l = h
      one t h (suc k) d l = absurd (omega (arith, l))

  -- after one without an alarm all is said
  module _ (is : answer ≡ None) where
    no_cycle : ¬ HasCycle (rest_of left log)
    no_cycle = subst (RoundTells with_witness log left) is tells

    same : new ≡ left_after log start (map numbers_of rounds)
    same = behind ∙ (ap (left_behind log left) is ∙ w.behind)

    pub audit-rounds : Rounds log start (map numbers_of rounds)
    audit-rounds = Rounds-from log start (map numbers_of rounds) w.first (subst (λ x. ¬ HasCycle (rest_of x log)) w.behind no_cycle)

    pub audit-only : AreTheOnlyRounds log start (map numbers_of rounds)
    audit-only others h = Rounds-unique log start others (map numbers_of rounds) h audit-rounds

    pub audit-left : new ≡ with_labels start (labels_found log (map numbers_of rounds))
    audit-left = same ∙ rounds-left log start (map numbers_of rounds)

    pub audit-found : AreFound log start (labels_found log (map numbers_of rounds))
    audit-found = rounds-found log start (map numbers_of rounds) audit-rounds

    pub audit-few : length rounds + labels_left new log ≤ labels_left start log
    audit-few =
        let few = rounds-few log start (map numbers_of rounds) audit-rounds in
        omega (arith, few, length-map rounds numbers_of, ap (λ x. labels_left x log) same)

    pub audit-serializable : IsSerializable (rest_of new log)
    audit-serializable = subst (λ x. IsSerializable (rest_of x log)) (sym same) (rounds-serializable log start (map numbers_of rounds) audit-rounds)
