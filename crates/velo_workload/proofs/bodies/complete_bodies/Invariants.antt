use Rattle.std.proofs.Common.{◌≡◌, map, drop}
use Rattle.velo_workload.proofs.Building.{AreCompletedUpTo}
use Rattle.velo_workload.specs.Known.{known_of}
use Rattle.velo_workload.specs.Outline.{names_in}
use Rattle.velo_workload.proofs.bodies.complete_bodies.Given as goal

abbrev pub invariant-loop-place : goal.invariant-loop-place
invariant-loop-place l =
    record {
      left : drop l.place-index l.place-items ≡ drop l.place-index l.fn.drafts.items;
      completed : AreCompletedUpTo (names_in (known_of l.outline)) l.fn.drafts.items l.place-index (map (λ body. body.items) l.bodies.items);
    }
