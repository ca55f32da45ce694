-- What an audit finds.
use Rattle.std.specs.Prelude.{◌+◌, ◌≤◌, Bool, All, List, length, map}
use Rattle.velo_events.specs.declared.event.Event.{Event}
use Rattle.velo_events.specs.Reordering.{IsSerializable}
use Rattle.velo_filter.specs.Left.{Omitted, rest_of, with_labels}
use Rattle.velo_audit.specs.declared.told.Told.{Told}
use Rattle.velo_audit.specs.Audit.{AreWitnessed, TellsTruly}
use Rattle.velo_audit.specs.Rounds.{AreFound, AreTheOnlyRounds, Rounds, labels_left, labels_found}
use Rattle.velo_audit.specs.Tells.{numbers_of}

-- what is left out after the rounds: the labels that they found, too
abbrev pub left_out_at_last : List Event → Omitted → List Told → Omitted
left_out_at_last log omitted rounds = with_labels omitted (labels_found log (map numbers_of rounds))

-- These are the rounds of the log: each is that of the first alarm of what was left, and there are
-- no others; what each reports as blamed is so in the log as read; each label found begins a block
-- of it and was not left out; each round uses up a label, so there are at most as many as labels; and
-- what is left at last is serializable.
pub record AreRoundsOf (witness : Bool) (log : List Event) (omitted : Omitted) (rounds : List Told)
    : Type 0 where
  pub each : Rounds log omitted (map numbers_of rounds)
  pub only : AreTheOnlyRounds log omitted (map numbers_of rounds)
  pub truly : All (TellsTruly log) rounds
  pub witnessed : AreWitnessed witness log omitted rounds
  pub found : AreFound log omitted (labels_found log (map numbers_of rounds))
  pub few : length rounds + labels_left (left_out_at_last log omitted rounds) log
      ≤ labels_left omitted log
  pub serializable : IsSerializable (rest_of (left_out_at_last log omitted rounds) log)
