use Rattle.std.proofs.Common.{◌∙◌, refl, subst, sym}
use Rattle.std.proofs.lemmas.Bool.{false≢true}
use Rattle.velo_worker.specs.Schedule.{Replays}
use Rattle.velo_explore.proofs.findings.replay_of.Goals as goal

pub returns-then-is_reached-clause-shows : goal.returns-then-is_reached-clause-shows
returns-then-is_reached-clause-shows c = (
  refl,
  record {
    ending = c.in_ok-closed.ending;
    replays =
        subst (λ turns. Replays c.args.workload.now turns c.args.config c.in_ok-closed.ending c.in_ok-closed.closed) c.deref.ensures.value c.in_ok-closed.ensures.run;
    memory = c.in_ok-closed.ensures.memory;
    alarm = c.is_reached.ensures.known;
    reaches = c.is_reached.ensures.reached.0 c.if-is_reached.true;
  },
)

pub returns-else-is_reached-clause-none : goal.returns-else-is_reached-clause-none
returns-else-is_reached-clause-none c = record {
  ending = c.in_ok-closed.ending;
  closed = c.in_ok-closed.closed;
  replays =
      subst (λ turns. Replays c.args.workload.now turns c.args.config c.in_ok-closed.ending c.in_ok-closed.closed) c.deref.ensures.value c.in_ok-closed.ensures.run;
  memory = c.in_ok-closed.ensures.memory;
  has_not = λ h. false≢true (sym c.if-is_reached.false ∙ c.is_reached.ensures.reached.1 h);
}
