use Rattle.std.proofs.Common.{◌≤◌, length, take}
use Rattle.std.specs.Prelude.{vec_capacity}
use Rattle.velo_predict.specs.Sources.{AreSources, AreTrails}
use Rattle.velo_predict.proofs.sources.sources_of.Given as goal

abbrev pub invariant-loop-position : goal.invariant-loop-position
invariant-loop-position l = record {
  trails : AreTrails l.log.events (take l.position l.events) l.trails.items;
  sources : AreSources l.log.events (take l.position l.events) l.sources.items;
  room : length l.events ≤ vec_capacity l.sources;
}
