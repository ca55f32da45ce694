use Rattle.std.proofs.Common.{arith}
use Rattle.velo_world.proofs.OnHoldings.{IsBookOf-opening}
use Rattle.velo_world.proofs.OnHandingOut.{handed-none, unborn-opening}
use Rattle.velo_world.specs.World.{opening}
use Rattle.velo_world.proofs.log_replay.LogReplay.new.Goals as goal

pub returns : goal.returns
returns c =
    let config = c.args.config.now in
    record {
      entered = record {
        short = omega arith;
        bounds = c.in_ok-heap.ensures.bounds;
        heap = c.in_ok-heap.ensures.start;
        book = rw c.in_ok-book.ensures.book (IsBookOf-opening config);
        unborn = unborn-opening config;
        shares = handed-none (opening config) _ _ c.in_ok-book.ensures.shares c.in_ok-shares.ensures;
      };
      watched = record { stands = c.in_ok-monitor.ensures.start; nodes = c.in_ok-monitor.ensures.limit };
    }
