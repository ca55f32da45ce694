use Rattle.std.proofs.Common.{length, length-append, [], ◌∷◌, ◌++◌, false, refl, sym, ◌∙◌, arith}
use Rattle.velo_traces.proofs.OnFlaws.{MayFollow-from_no_flaw}
use Rattle.velo_world.specs.Faults.{world_of}
use Rattle.velo_world.proofs.OnHandingOut.{CanCount-next, IsBookOf-counted, handed-longer, unborn-longer}
use Rattle.velo_world.proofs.OnLogReplays.{well_formed-by, follows-by}
use Rattle.velo_world.proofs.log_replay.LogReplay.enter.Goals as goal

pub apply-requires : goal.apply-requires
apply-requires c =
    let stands = c.requires.stands in
    let follows = MayFollow-from_no_flaw _ _ c.args.event.now (well_formed-by _ _ _ stands.bounds stands.heap.well_formed) c.requires.flawless in
    record { trace = c.args.past.now; stands = stands.heap; follows = follows-by _ _ _ c.args.event.now (sym stands.bounds) follows }

pub count-requires-clause-there : goal.count-requires-clause-there
count-requires-clause-there c =
    let stands = c.requires.stands in
    let follows = MayFollow-from_no_flaw _ _ c.args.event.now (well_formed-by _ _ _ stands.bounds stands.heap.well_formed) c.requires.flawless in
    CanCount-next (world_of c.args.config.now c.args.past.now) c.args.event.now c.args.self.now.book stands.book follows (length c.args.past.now) refl

pub returns-clause-stands : goal.returns-clause-stands
returns-clause-stands c =
    let stands = c.requires.stands in
    let past = c.args.past.now in
    let e = c.args.event.now in
    let w = world_of c.args.config.now past in
    let well = well_formed-by _ _ _ stands.bounds stands.heap.well_formed in
    let follows = MayFollow-from_no_flaw _ _ e well c.requires.flawless in
    record {
      short = (let short = c.requires.short in omega (arith, short, length-append past (e ∷ [])));
      bounds = c.apply.ensures.bounds ∙ stands.bounds;
      heap = c.apply.ensures.next past stands.heap;
      book = IsBookOf-counted w e c.args.self.now.book stands.book follows (length past) false _ well refl c.count.ensures.counted;
      unborn = unborn-longer w e false follows stands.unborn;
      shares = handed-longer w (world_of c.args.config.now (past ++ e ∷ [])) _ _ refl stands.shares;
    }
