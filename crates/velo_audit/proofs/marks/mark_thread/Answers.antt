use Rattle.std.proofs.Common.{◌≡◌, length, sym, subst, arith}
use Rattle.velo_traces.specs.Places.{AllHavePlaces}
use Rattle.velo_audit.specs.Open.{AreOpen}
use Rattle.velo_audit.proofs.OnOpen.{AreOpen-start}
use Rattle.velo_audit.proofs.OnMarks.{AreMarksSoFar-thread}
use Rattle.velo_audit.proofs.marks.mark_thread.Goals as goal

pub step-requires-clause-known : goal.step-requires-clause-known
step-requires-clause-known c = let events = c.args.events.now in subst (λ s. AllHavePlaces s events (length events)) (sym c.loop-at.invariant.known) c.requires.known

pub step-requires-clause-others : goal.step-requires-clause-others
step-requires-clause-others c = let events = c.args.events.now in subst (λ s. AllHavePlaces s events (length events)) (sym c.loop-at.invariant.others) c.requires.others

pub loop-at-init : goal.loop-at-init
loop-at-init c =
    let events = c.args.events.now in let t = c.args.thread.0 in
    record {
      known = c.clear.ensures.known;
      others = c.clear.ensures.others;
      stands = record {
        reaches = c.clear.ensures.start events t;
        are_open = subst (AreOpen events t 0) (sym c.clear-2.ensures.items) (AreOpen-start events t);
        are_marks = c.requires.marks;
      };
    }

pub returns-clause-marks : goal.returns-clause-marks
returns-clause-marks c = let events = c.args.events.now in AreMarksSoFar-thread events c.args.thread.0 c.loop-at.at c.loop-at.marks (let all : c.loop-at.at ≡ length events = omega arith in all) c.loop-at.invariant.stands.are_marks
