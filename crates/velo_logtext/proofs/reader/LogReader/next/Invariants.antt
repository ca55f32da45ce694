use Rattle.std.proofs.Common.{◌≡◌, ℕ, ◌-◌, ◌+◌, List, cond, length}
use Rattle.std.specs.Prelude.{Option}
use Rattle.velo_events.specs.declared.event.Event.{Event}
use Rattle.velo_logtext.specs.Reader.{HasGiven, HasWholeLine}
use Rattle.velo_logtext.proofs.reader.LogReader.next.Given as goal

abbrev pub invariant-loop-event : goal.invariant-loop-event
invariant-loop-event g l =
    let remaining = g.S.Source.remaining in
    record {
      given : (bytes : Option (List ℕ)) (events : List Event) → HasGiven bytes events l.fn.self (remaining l.fn.source) → HasGiven bytes events l.self (remaining l.source);
      bounds : l.self.bounds ≡ l.fn.self.bounds;
      version : l.self.shares ≡ l.fn.self.shares;
      count : l.self.given ≡ l.fn.self.given;
      held : HasWholeLine l.fn.self.held → l.self.held ≡ l.fn.self.held;
      unread : HasWholeLine l.fn.self.held → l.source ≡ l.fn.source;
      failures : g.S.Source.failures l.source ≡ g.S.Source.failures l.fn.source;
    }

abbrev pub decreases-loop-event : goal.decreases-loop-event
decreases-loop-event g l = (65 - length l.self.held) + cond l.self.ended 0 1
