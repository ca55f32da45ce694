use Rattle.std.proofs.Common.{◌≡◌, [], arith}
use Rattle.std.proofs.lemmas.Grind.{common_steps}
use Rattle.velo_filter.specs.Tables.{left_of}
use Rattle.velo_delays.proofs.OnFound.{AreFoundIn-more, AreFoundIn-none, behind-more, behind-none}
use Rattle.velo_delays.proofs.rounds.search.Goals as goal

pub loop-init : goal.loop-init
loop-init c =
    let none : c.new.result.items ≡ [] = grind (arith, common_steps) in
    record {
      behind = behind-none (left_of c.args.left.now) c.new.result.items none;
      found = AreFoundIn-none c.args.config.now.bounds c.args.log.now.events (left_of c.args.left.now) c.new.result.items none;
    }

pub loop-preserved : goal.loop-preserved
loop-preserved c =
    let bounds = c.args.config.now.bounds in
    let log = c.args.log.now.events in
    let first = left_of c.args.left.now in
    let was = c.loop.invariant in
    record {
      behind = behind-more bounds log first _ _ _ _ was.behind was.found c.in_ok-search_once.ensures;
      found = AreFoundIn-more bounds log first _ _ _ _ was.behind was.found c.in_ok-search_once.ensures;
    }
