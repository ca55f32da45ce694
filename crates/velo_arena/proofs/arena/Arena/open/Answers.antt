use Rattle.std.proofs.Common.{ℕ, ◌<◌, List, Option, ap, sym, subst, arith, false}
use Rattle.std.specs.Prelude.{vec_capacity}
use Rattle.std.specs.Option.{ForSome}
use Rattle.velo_arena.specs.Slots.{Slots}
use Rattle.velo_arena.specs.Kept.{TracksFree}
use Rattle.velo_arena.proofs.OnSlots.{stamps-open}
use Rattle.velo_arena.proofs.OnFree.{tracks-open, last_in_range}
use Rattle.velo_arena.proofs.arena.Arena.open.Goals as goal

pub invariant_of-self-2 : goal.invariant_of-self-2
invariant_of-self-2 c =
    let inner = c.self.inside in
    let tracks = subst (λ (free : List ℕ). TracksFree inner.nodes.items free (vec_capacity inner.free) inner.extent) c.in-Some.ensures.items c.self.invariant.tracks in
    let last = last_in_range _ _ _ _ _ tracks in
    let newer = subst (λ (newest : Option ℕ). ForSome newest (λ z. z < c.args.stamp)) (sym (ap (λ (slots : Slots). slots.newest) c.self.view_is)) c.requires in
    record {
      tracks = rw c.pop.ensures.capacity (tracks-open _ _ _ _ _ _ _ tracks (omega arith) (omega arith) (omega (arith, last.0, tracks.within)));
      stamps = stamps-open (record { nodes = inner.nodes.items; newest = inner.newest }) c.in-Some.slot c.args.stamp false last.0 newer c.self.invariant.stamps;
    }

pub returns-clause-own_stamps : goal.returns-clause-own_stamps
returns-clause-own_stamps c =
    let inner = c.self.inside in
    let tracks = subst (λ (free : List ℕ). TracksFree inner.nodes.items free (vec_capacity inner.free) inner.extent) c.in-Some.ensures.items c.self.invariant.tracks in
    let newer = subst (λ (newest : Option ℕ). ForSome newest (λ z. z < c.args.stamp)) (sym (ap (λ (slots : Slots). slots.newest) c.self.view_is)) c.requires in
    stamps-open (record { nodes = inner.nodes.items; newest = inner.newest }) c.in-Some.slot c.args.stamp false (last_in_range _ _ _ _ _ tracks).0 newer c.self.invariant.stamps
