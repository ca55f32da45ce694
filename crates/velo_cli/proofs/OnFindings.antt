-- What an audit and a search answer.
use Rattle.std.proofs.Common.{◌≡◌, ◌+◌, ◌≤◌, List, length, subst}
use Rattle.std.specs.Prelude.{Bool, All, IfOk, Result, Ok, Err, map}
use Rattle.velo_events.specs.declared.config.Bounds.{Bounds}
use Rattle.velo_events.specs.declared.event.Event.{Event}
use Rattle.velo_events.specs.Reordering.{IsSerializable}
use Rattle.velo_filter.specs.Left.{Omitted, rest_of, with_labels}
use Rattle.velo_audit.specs.declared.told.Told.{Told}
use Rattle.velo_audit.specs.Audit.{AreWitnessed, TellsTruly}
use Rattle.velo_audit.specs.Rounds.{AreFound, AreTheOnlyRounds, Rounds, labels_left, labels_found}
use Rattle.velo_audit.specs.Tells.{numbers_of}
use Rattle.velo_delays.specs.Deadlock.{AreDeadlocksIn}
use Rattle.velo_delays.specs.Found.{AreFoundIn}
use Rattle.velo_finding.specs.declared.findings.PredictedFindings.{PredictedFindings}
use Rattle.velo_cli.specs.Auditing.{AreRoundsOf}
use Rattle.velo_cli.specs.Predicting.{ArePredictionsOf, IsSearched}

pub are_rounds_of : (witness : Bool) (log : List Event) (start behind : Omitted) (rounds : List Told)
    → Rounds log start (map numbers_of rounds) → AreTheOnlyRounds log start (map numbers_of rounds) → All (TellsTruly log) rounds → AreWitnessed witness log start rounds
    → AreFound log start (labels_found log (map numbers_of rounds)) → behind ≡ with_labels start (labels_found log (map numbers_of rounds)) → length rounds + labels_left behind log ≤ labels_left start log
    → IsSerializable (rest_of behind log) → AreRoundsOf witness log start rounds
are_rounds_of witness log start behind rounds each only truly witnessed found left few serializable =
    record {
      each = each;
      only = only;
      truly = truly;
      witnessed = witnessed;
      found = found;
      few = subst (λ (x : Omitted). length rounds + labels_left x log ≤ labels_left start log) left few;
      serializable = subst (λ (x : Omitted). IsSerializable (rest_of x log)) left serializable;
    }

-- what a search of this log answers
pub foretold_of : {E : Type 0} (values : Bool) (bounds : Bounds) (log searched : List Event) (left : Omitted) (result : Result PredictedFindings E) → IsSearched values log searched
    → IfOk result (λ (f : PredictedFindings). AreFoundIn bounds searched left f.cycles.items) → IfOk result (λ (f : PredictedFindings). AreDeadlocksIn bounds searched left f.deadlocks.items)
    → IfOk result (λ (f : PredictedFindings). ArePredictionsOf values bounds log left f)
foretold_of values bounds log searched left (Ok f) is cycles deadlocks = record { searched = searched; is_searched = is; cycles = cycles; deadlocks = deadlocks }
foretold_of values bounds log searched left (Err e) is cycles deadlocks = tt
