use Rattle.std.proofs.Common.{[], rules, sym, ◌∙◌, subst}
use Rattle.velo_monitor.specs.Watched.{IsMonitorOf}
use Rattle.velo_world.proofs.analysis.Analysis.new.Goals as goal

pub returns-clause-follows : goal.returns-clause-follows
returns-clause-follows c = record {
  heap = c.in_ok-heap.ensures.start;
  watched = record {
    alarm = search rules;
    monitor = subst (λ b. IsMonitorOf b c.in_ok-monitor.monitor []) (sym c.in_ok-heap.ensures.bounds) c.in_ok-monitor.ensures.start;
    clocks = c.in_ok-clocks.ensures.start [];
    bounds_are = c.in_ok-clocks.ensures.bounds ∙ sym c.in_ok-heap.ensures.bounds;
  };
}
