use Rattle.std.proofs.Common.{◌∙◌, List, ℕ, ap, length, subst, sym}
use Rattle.std.specs.Prelude.{slice_index}
use Rattle.velo_watch.specs.Alarm.{IsAlarmWithin, IsMoved}
use Rattle.velo_watch.proofs.OnTelling.{part_of_alarm, told_alarm, within}
use Rattle.velo_watch.proofs.rest.Rest.tell.Goals as goal

pub alarm_as_read-requires : goal.alarm_as_read-requires
alarm_as_read-requires g c =
    subst (λ (n : ℕ). IsAlarmWithin n c.in-Some.alarm.now) (sym (ap length c.deref.ensures.value ∙ c.requires)) (within c.args.self.now.world.log c.in-Some.alarm.now c.in-Some.ensures.some)

pub returns-in-Ok-alarm_line-clause-told : goal.returns-in-Ok-alarm_line-clause-told
returns-in-Ok-alarm_line-clause-told g c =
    let alarm = c.in-Some.alarm.now in
    told_alarm c.args.self.now.world.log (slice_index c.args.self.now.places.items) (g.O.Sink.contents c.args.sink.now) (g.O.Sink.contents c.alarm_line.new.sink) alarm c.in-Ok.moved c.in-Some.ensures.some
    (subst (λ (ks : List ℕ). IsMoved (slice_index ks) alarm c.in-Ok.moved) c.deref.ensures.value c.in-Ok.ensures) c.in-Ok-alarm_line.ensures.ok

pub returns-clause-told : goal.returns-clause-told
returns-clause-told g c =
    let alarm = c.in-Some.alarm.now in
    part_of_alarm c.args.self.now.world.log (slice_index c.args.self.now.places.items) (g.O.Sink.contents c.args.sink.now) (g.O.Sink.contents c.alarm_line.new.sink) alarm c.in-Ok.moved c.in-Some.ensures.some
    (subst (λ (ks : List ℕ). IsMoved (slice_index ks) alarm c.in-Ok.moved) c.deref.ensures.value c.in-Ok.ensures) c.in-Err.ensures.err
