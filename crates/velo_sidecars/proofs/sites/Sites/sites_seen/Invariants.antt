use Rattle.std.proofs.Common.{◌≡◌, ◌≤◌, length, map, take}
use Rattle.std.specs.Prelude.{vec_capacity}
use Rattle.velo_sidecars.specs.Sites.{site_seen}
use Rattle.velo_sidecars.proofs.sites.Sites.sites_seen.Given as goal

abbrev pub invariant-loop-source : goal.invariant-loop-source
invariant-loop-source l = record {
  seen : l.seen.items ≡ map (site_seen l.self) (take l.source-index l.sources);
  room : length l.sources ≤ vec_capacity l.seen;
}
