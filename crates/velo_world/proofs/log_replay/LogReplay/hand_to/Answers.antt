use Rattle.std.proofs.Common.{◌≡◌, ◌<◌, true, false, refl, sym, ap, ◌∙◌, subst}
use Rattle.std.proofs.lemmas.Option.{same_Some}
use Rattle.velo_events.specs.declared.config.Bounds.{Bounds}
use Rattle.velo_events.specs.Heap.{status_in}
use Rattle.velo_events.specs.Meaning.{is_unborn}
use Rattle.velo_ledger.specs.Shares.{opening_share}
use Rattle.velo_world.specs.Faults.{world_of}
use Rattle.velo_world.specs.LogReplay.{share_of}
use Rattle.velo_world.proofs.OnHandingOut.{kept-here, handed-unborn, handed-born, settled-is}
use Rattle.velo_world.proofs.log_replay.LogReplay.hand_to.Goals as goal

pub status-requires : goal.status-requires
status-requires c = subst (λ (b : Bounds). c.args.thread.0 < b.threads) (sym c.requires.stands.1.bounds) c.requires.known

pub returns-then-is_unborn-clause-stands : goal.returns-then-is_unborn-clause-stands
returns-then-is_unborn-clause-stands c = λ trace stands.
    let unborn : is_unborn (status_in trace c.args.thread.0) ≡ true = ap is_unborn (sym (c.status.ensures trace stands.heap)) ∙ (sym c.is_unborn.ensures ∙ c.if-is_unborn.true) in
    record {
      short = stands.short;
      bounds = stands.bounds;
      heap = stands.heap;
      book = stands.book;
      unborn = stands.unborn;
      shares = handed-unborn (world_of c.args.config.now trace) c.args.thread.0 _ _ stands.shares unborn;
    }

pub returns-clause-stands : goal.returns-clause-stands
returns-clause-stands c = λ trace stands.
    let w = world_of c.args.config.now trace in
    let n = c.args.thread.0 in
    let kept = c.args.self.now.kept in
    let given = c.args.self.now.shares in
    let known = c.requires.known in
    let born : is_unborn (status_in trace n) ≡ false = ap is_unborn (sym (c.status.ensures trace stands.heap)) ∙ (sym c.is_unborn.ensures ∙ c.if-is_unborn.false) in
    let opens : c.in-Some.share ≡ opening_share c.args.config.now.run n = same_Some _ _ (c.in-Some.ensures.share ∙ rw (kept-here w n kept given stands.shares known) refl) in
    let share : c.settle.new.share ≡ share_of w n = settled-is w n c.args.self.now.book c.in-Some.share c.settle.new.share stands.book known opens c.settle.ensures.share c.settle.ensures.fit in
    record {
      short = stands.short;
      bounds = stands.bounds;
      heap = stands.heap;
      book = stands.book;
      unborn = stands.unborn;
      shares = rw (c.take.ensures.after, c.in-Ok.ensures.placed, share) (handed-born w n kept given stands.shares known born);
    }
