use Rattle.std.proofs.Common.{[], ◌∷◌, ◌++◌, take, sym, ap, ◌∙◌, refl, subst, arith}
use Rattle.velo_events.specs.Block.{owner}
use Rattle.velo_heap.specs.Contents.{bounds_of}
use Rattle.velo_world.specs.Analysis.{Raises}
use Rattle.velo_world.proofs.OnAlarms.{length-before}
use Rattle.velo_world.proofs.OnAnalyses.{alarm-none, IsWatched-stays, IsWatched-quiet, IsWatched-raised, monitor-quiet, clocks-quiet, well-next}
use Rattle.std.proofs.lemmas.Grind.{elements}
use Rattle.velo_world.proofs.analysis.Analysis.watch.Goals as goal

pub returns-then-is_some-clause-watched : goal.returns-then-is_some-clause-watched
returns-then-is_some-clause-watched c =
    IsWatched-stays c.args.self.now _ _ c.args.event.now (sym c.is_some.ensures ∙ c.if-is_some.true) c.requires.next.stands.watched

pub observe_resolved-requires : goal.observe_resolved-requires
observe_resolved-requires c =
    let quiet = sym c.is_some.ensures ∙ c.if-is_some.false in
    let none = alarm-none c.args.self.now.alarm quiet in
    let here = length-before c.args.events.now c.args.position c.args.event.now c.requires.here in
    record {
      bounds = bounds_of c.args.self.now.heap;
      trace = _;
      stands = monitor-quiet c.args.self.now _ _ quiet c.requires.next.stands.watched;
      at_end = sym here;
      within = (let short = c.requires.next.short in omega (arith, here, short));
      follows = c.requires.next.follows;
      room = c.requires.room.monitor none;
      slot = (c.requires.room.slot.slot none).slot;
    }

pub returns-in-Quiet-clause-watched : goal.returns-in-Quiet-clause-watched
returns-in-Quiet-clause-watched c =
    let quiet = sym c.is_some.ensures ∙ c.if-is_some.false in
    let watched = c.requires.next.stands.watched in
    let here = length-before c.args.events.now c.args.position c.args.event.now c.requires.here in
    let seen = c.in-Quiet.ensures.seen _ _ (monitor-quiet c.args.self.now _ _ quiet watched) (sym here) c.requires.next.follows in
    let noted = c.note_resolved.ensures.next 0 _ (clocks-quiet c.args.self.now _ _ quiet watched) here (well-next c.args.self.now _ c.args.event.now c.requires.next) in
    IsWatched-quiet _ _ _ quiet seen.0 seen.1 noted (c.note_resolved.ensures.bounds ∙ watched.bounds_are)

pub raise_alarm-requires-clause-clocks : goal.raise_alarm-requires-clause-clocks
raise_alarm-requires-clause-clocks c = clocks-quiet c.args.self.now _ _ (sym c.is_some.ensures ∙ c.if-is_some.false) c.requires.next.stands.watched

pub raise_alarm-requires-clause-well_formed : goal.raise_alarm-requires-clause-well_formed
raise_alarm-requires-clause-well_formed c = rw c.event.ensures (well-next c.args.self.now _ c.args.event.now c.requires.next)

pub raise_alarm-requires-clause-closes : goal.raise_alarm-requires-clause-closes
raise_alarm-requires-clause-closes c =
    let quiet = sym c.is_some.ensures ∙ c.if-is_some.false in
    let here = length-before c.args.events.now c.args.position c.args.event.now c.requires.here in
    rw c.event.ensures ((c.in-Closes.ensures.seen _ _ (monitor-quiet c.args.self.now _ _ quiet c.requires.next.stands.watched) (sym here) c.requires.next.follows).0)

pub raise_alarm-requires-clause-transaction : goal.raise_alarm-requires-clause-transaction
raise_alarm-requires-clause-transaction c =
    let quiet = sym c.is_some.ensures ∙ c.if-is_some.false in
    let here = length-before c.args.events.now c.args.position c.args.event.now c.requires.here in
    let seen = c.in-Closes.ensures.seen _ _ (monitor-quiet c.args.self.now _ _ quiet c.requires.next.stands.watched) (sym here) c.requires.next.follows in
    rw c.event.ensures (seen.1 ∙ ap (owner (take c.args.position c.args.events.now ++ c.args.event.now ∷ [])) here)

pub returns-in-Closes-clause-watched : goal.returns-in-Closes-clause-watched
returns-in-Closes-clause-watched c =
    let quiet = sym c.is_some.ensures ∙ c.if-is_some.false in
    let watched = c.requires.next.stands.watched in
    let here = length-before c.args.events.now c.args.position c.args.event.now c.requires.here in
    let seen = c.in-Closes.ensures.seen _ _ (monitor-quiet c.args.self.now _ _ quiet watched) (sym here) c.requires.next.follows in
    let raised = subst (λ e. Raises (record c.args.self.now { monitor = c.observe_resolved.new.self }) (take c.args.position c.args.events.now ++ e ∷ []) c.args.position c.raise_alarm.new.self) c.event.ensures c.raise_alarm.ensures in
    rw raised.same (IsWatched-raised _ _ _ c.args.event.now raised.alarm refl (raised.here ∙ sym here) raised.is seen.2 (clocks-quiet c.args.self.now _ _ quiet watched) watched.bounds_are)

pub note_resolved-requires-clause-room : goal.note_resolved-requires-clause-room
note_resolved-requires-clause-room c = grind (arith, elements)

pub note_resolved-requires-clause-fits : goal.note_resolved-requires-clause-fits
note_resolved-requires-clause-fits c = grind (arith, elements)
