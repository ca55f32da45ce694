use Rattle.std.proofs.Common.{◌≡◌, ℕ, ◌<◌, ◌≤◌, length}
use Rattle.std.specs.Prelude.{slice_index, vec_capacity}
use Rattle.velo_events.specs.Block.{owner}
use Rattle.velo_certify.specs.Owners.{AreScanned}
use Rattle.velo_certify.proofs.owners.owners_of.Given as goal

abbrev pub invariant-loop-at : goal.invariant-loop-at
invariant-loop-at l = record {
  room : length l.events ≤ vec_capacity l.owners;
  count : length l.owners.items ≡ l.at;
  owners : (i : ℕ) → i < l.at → slice_index l.owners.items i ≡ owner l.events i;
  scanned : AreScanned l.events l.at l.threads.items;
}
