use Rattle.std.proofs.Common.{sym, ◌∙◌, subst}
use Rattle.velo_monitor.specs.Watched.{IsMonitorOf}
use Rattle.velo_world.specs.Faults.{world_of}
use Rattle.velo_world.specs.FirstCycle.{events_watched}
use Rattle.velo_world.proofs.OnHandingOut.{keeps-handed, ready-handed, complete-handed}
use Rattle.velo_world.proofs.log_replay.LogReplay.into_world.Goals as goal

pub invariant_of-result : goal.invariant_of-result
invariant_of-result c =
    let stands = c.requires.stands in
    let noted = c.requires.noted in
    record {
      logged = record {
        short = stands.short;
        bounds = stands.bounds;
        nodes = c.requires.watched.nodes;
        analysis = record {
          heap = stands.heap;
          watched = record {
            alarm = noted.alarm;
            monitor = subst (λ b. IsMonitorOf b c.args.self.monitor (events_watched c.args.log.events c.args.noted.1)) (sym stands.bounds) c.requires.watched.stands;
            clocks = noted.clocks;
            bounds_are = noted.bounds_are ∙ sym stands.bounds;
          };
        };
      };
      book = stands.book;
      keeps = keeps-handed (world_of c.args.config c.args.log.events) c.args.self.kept c.args.self.shares stands.shares stands.unborn;
    }

pub returns-clause-ready : goal.returns-clause-ready
returns-clause-ready c = ready-handed (world_of c.args.config c.args.log.events) c.args.self.kept c.args.self.shares c.requires.stands.shares

pub returns-clause-complete : goal.returns-clause-complete
returns-clause-complete c = complete-handed (world_of c.args.config c.args.log.events) c.args.self.kept c.args.self.shares c.requires.stands.shares
