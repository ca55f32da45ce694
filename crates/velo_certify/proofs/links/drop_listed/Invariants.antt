use Rattle.std.proofs.Common.{◌≤◌, ℕ, List, length}
use Rattle.velo_certify.specs.Links.{IsLeft, list_of}
use Rattle.velo_certify.proofs.links.drop_listed.Given as goal

abbrev pub invariant-loop-k : goal.invariant-loop-k
invariant-loop-k l = record {
  within : l.k ≤ length l.links.links.items;
  left : (xs : List ℕ) → list_of l.links l.a xs → IsLeft l.listed l.links l.k xs;
}

abbrev pub decreases-loop-k : goal.decreases-loop-k
decreases-loop-k l = l.k
