use Rattle.std.proofs.Common.{◌≡◌, length, arith, ap}
use Rattle.velo_world.proofs.OnHoldings.{IsBookOf-opening, KeepsUnborn-opening}
use Rattle.velo_world.proofs.world.World.new.Goals as goal

pub invariant_of-world : goal.invariant_of-world
invariant_of-world c =
    let log_is = c.new-log.ensures in
    record {
      logged = record {
        short = (let none : length c.new-log.result.events ≡ 0 = ap length log_is in omega (arith, none));
        bounds = c.in_ok-analysis.ensures.bounds;
        nodes = c.in_ok-analysis.ensures.nodes;
        analysis = rw log_is c.in_ok-analysis.ensures.follows;
      };
      book = rw (log_is, c.in_ok-book.ensures.book) (IsBookOf-opening c.args.config);
      keeps = rw (log_is, c.take.ensures.after) (KeepsUnborn-opening c.args.config c.in_ok-book.kept c.args.config.some_thread c.in_ok-book.ensures.shares);
    }
